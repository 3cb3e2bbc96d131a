-- What the parts of the check find, from the lists that they see. Assumes nothing.
use Rattle.std.specs.Prelude.{◌≡◌, ℕ, ◌+◌, ◌-◌, max, Bool, false, cond, ◌||◌, List, [], map, length, Some, None, Option, ◌==◌, nat_lt, slice_index_or}
use Rattle.std.specs.List.{range_with_len, flat_map, fold, list_any}
use Rattle.table.specs.declared.fault.TableFault.{TableFault}
use Rattle.table.specs.declared.fault.TableFault.TheVariants.{TooMuchMemory}
use Rattle.table.specs.declared.kind.Side.{Side}
use Rattle.table.specs.declared.kind.Side.TheVariants.{Left, Right}
use Rattle.table.specs.declared.node.Lag.{Lag}
use Rattle.table.specs.declared.node.Node.{Node}
use Rattle.table.specs.declared.node.UncheckedNode.{UncheckedNode}
use Rattle.table.specs.Kinds.{past, opens}
use Rattle.table.specs.Tables.{Table, as_node}
use Rattle.table.specs.Lags.{no_lag, greatest_operand}
use Rattle.table.specs.Places.{operand, need}
use Rattle.table.specs.Refusals.{first, node_tests, rule_tests, use_tests, first_fault, unknown_kind}

abbrev pub of_lists : List Node → List ℕ → Table
of_lists nodes rules = record { nodes = nodes; rules = rules }

-- the nodes that are written down
abbrev pub nodes_meant : List UncheckedNode → List Node
nodes_meant = map as_node

-- the first fault of a node, whatever the rules
abbrev pub node_fault : List UncheckedNode → Option TableFault
node_fault written = first (flat_map (node_tests (unknown_kind written) (of_lists (nodes_meant written) [])) (range_with_len 0 (length written)))

-- the first rule that names none of so many nodes
abbrev pub rule_fault : (size : ℕ) → List ℕ → Option TableFault
rule_fault size rules = first (flat_map (rule_tests size rules) (range_with_len 0 (length rules)))

-- whether node k is an operand of node x
abbrev pub is_parent : (x : Node) (k : ℕ) → Bool
is_parent x k = operand x Left k || operand x Right k

-- the first node without use
abbrev pub use_fault : List Node → List ℕ → Option TableFault
use_fault nodes rules = first (flat_map (use_tests (of_lists nodes rules)) (range_with_len 0 (length nodes)))

module _ (lags : List Lag) (k : ℕ) where
  abbrev lag_at : ℕ → Lag
  lag_at j = slice_index_or lags j no_lag

  -- what parent x wants of node k, as far as k is its operand on this side
  abbrev pub wanted : Node → Side → ℕ
  wanted x side =
      cond (operand x side k)
      (cond (past x.kind) x.to
      (greatest_operand x.kind (lag_at x.left).worst (lag_at x.right).worst + x.to - opens x.kind side x.from - (lag_at k).best))
      0

  -- and on either side
  abbrev pub wanted_by : Node → ℕ
  wanted_by x = max (wanted x Left) (wanted x Right)

  -- the most that one of these nodes wants of it
  abbrev pub by_nodes : List Node → ℕ
  by_nodes nodes = fold (λ most x. max most (wanted_by x)) 0 nodes

  -- what the rules want of it, if one of them names it
  abbrev pub by_rules : List ℕ → ℕ
  by_rules rules = cond (list_any (λ r. r == k) rules) ((lag_at k).worst - (lag_at k).best) 0

-- what a rule of node k adds to the burst
abbrev pub rule_burst : List Lag → (k : ℕ) → ℕ
rule_burst lags k = let lag = slice_index_or lags k no_lag in lag.worst - lag.best + 1

-- the first of two findings
abbrev pub or_else : Option TableFault → Option TableFault → Option TableFault
or_else None o = o
or_else (Some f) o = Some f

-- what the test of the memory finds
abbrev pub memory_fault : (need : ℕ) → Option TableFault
memory_fault need = cond (nat_lt 16384 need) (Some TooMuchMemory) None

-- what is left to find when all nodes and rules passed
abbrev pub last_fault : Table → Option TableFault
last_fault t = or_else (use_fault t.nodes t.rules) (memory_fault (need t))

-- what the check of these nodes and rules finds
abbrev pub found : List UncheckedNode → List ℕ → Option TableFault
found written rules = first_fault (unknown_kind written) (of_lists (nodes_meant written) rules)

-- nothing is wrong with a table but what is left to find
abbrev pub PassedSoFar : Table → Type 0
PassedSoFar t = first_fault (λ k. false) t ≡ last_fault t
