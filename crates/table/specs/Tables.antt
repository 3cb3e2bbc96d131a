-- Tables of nodes and rules, and the one way to work something out for every node. Assumes nothing.
use Rattle.std.specs.Prelude.{ℕ, List, [], ◌∷◌, ◌++◌, map, length, vec_items, slice_index, slice_index_or}
use Rattle.table.specs.declared.kind.Kind.TheVariants.{Sample}
use Rattle.table.specs.declared.kind.Side.{Side}
use Rattle.table.specs.declared.node.Node.{Node}
use Rattle.table.specs.declared.node.UncheckedNode.{UncheckedNode}
use Rattle.table.specs.declared.node.UncheckedTable.{UncheckedTable}
use Rattle.table.specs.Kinds.{numbered, past, opens, Span}

-- nodes, and rules, each of which is a node's number
pub record Table : Type 0 where
  pub nodes : List Node
  pub rules : List ℕ

abbrev pub size : Table → ℕ
size t = length t.nodes

-- stands for a node that is not there
abbrev pub blank : Node
blank = record { kind = Sample; left = 0; right = 0; from = 0; to = 0 }

abbrev pub node : Table → ℕ → Node
node t k = slice_index_or t.nodes k blank

abbrev pub rule_node : Table → ℕ → ℕ
rule_node t r = slice_index t.rules r

-- an unchecked node, its kind read from the number
abbrev pub as_node : UncheckedNode → Node
as_node u = record { kind = numbered u.kind; left = u.left; right = u.right; from = u.from; to = u.to }

-- the table that an unchecked table stands for
abbrev pub meant : UncheckedTable → Table
meant u = record { nodes = map as_node (vec_items u.nodes); rules = vec_items u.rules }

-- the positions among which node x at position i reads its operand on this side
abbrev pub Reads : Node → Side → (i p : ℕ) → Type 0
Reads x side = Span (past x.kind) (opens x.kind side x.from) x.to

-- Entries for the nodes in their order. The entry of a node is worked out from its number, the node and the entries of
-- its left and right, which stand before it.
module _ {X : Type 0} (none : X) (entry : ℕ → Node → X → X → X) where
  unfoldable pub after : List Node → List X → List X
  after [] done = done
  after (x ∷ xs) done = after xs (done ++ entry (length done) x (slice_index_or done x.left none) (slice_index_or done x.right none) ∷ [])

  unfoldable pub each : List Node → List X
  each nodes = after nodes []
