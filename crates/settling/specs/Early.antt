-- Early ends: what tick n tells of position n, settled or not. Assumes nothing.
use Rattle.std.specs.Prelude.{ℕ, suc, cond, List, ◌==◌, slice_index_or}
use Rattle.scale.specs.Order.{Scale}
use Rattle.table.specs.declared.node.Node.{Node}
use Rattle.table.specs.Kinds.{at_once, turned}
use Rattle.table.specs.Tables.{Table, each}
use Rattle.table.specs.Values.{value_at}
use Rattle.settling.specs.Settled.{verdict}

-- a lower and an upper end of what the value may be
pub record Ends (V : Type 0) : Type 0 where
  pub lower : V
  pub upper : V

-- one value as both
abbrev pub both_ends : {V : Type 0} → V → Ends V
both_ends v = record { lower = v; upper = v }

-- the upper as the lower, and the lower as the upper
abbrev pub exchanged : {V : Type 0} → Ends V → Ends V
exchanged e = record { lower = e.upper; upper = e.lower }

-- e at position n, and y at any other, of which only those after n are read
abbrev pub now_then : {V : Type 0} → (n : ℕ) → (e y : V) → ℕ → V
now_then n e y p = cond (p == n) e y

module _ {V : Type 0} (s : Scale V) (σ : ℕ → ℕ → V) (n : ℕ) (t : Table) where
  -- the value of x at n from the lower ends of its operands, with lowest after n, and from the upper, with highest after n
  abbrev pub from_ends : Node → Ends V → Ends V → Ends V
  from_ends x l r = record {
    lower = value_at s x σ (now_then n l.lower s.lowest) (now_then n r.lower s.lowest) n;
    upper = value_at s x σ (now_then n l.upper s.highest) (now_then n r.upper s.highest) n;
  }

  -- A sample or a node that looks back has its value as both ends. Another kind has those from its operands' ends, which
  -- `not`, where a larger operand makes a smaller value, exchanges.
  unfoldable pub ends_of : ℕ → Node → Ends V → Ends V → Ends V
  ends_of k x l r =
      cond (at_once x.kind) (both_ends (verdict s σ (suc n) t k n))
      (cond (turned x.kind) (exchanged (from_ends x l r)) (from_ends x l r))

  -- stands for a node that is not there
  abbrev pub whole_scale : Ends V
  whole_scale = record { lower = s.lowest; upper = s.highest }

  -- for all nodes in their order
  unfoldable pub ends_all : List (Ends V)
  ends_all = each whole_scale ends_of t.nodes

  -- the early ends of node k at tick n, for position n
  abbrev pub ends : ℕ → Ends V
  ends k = slice_index_or ends_all k whole_scale
