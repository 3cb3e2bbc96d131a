-- What is settled after m ticks, of which the last is tick m - 1. Sample c at tick n is σ n c. Assumes nothing.
use Rattle.std.specs.Prelude.{ℕ, Bool, cond, List, nat_lt, slice_index_or}
use Rattle.std.specs.List.{range_with_len, prefix_len}
use Rattle.scale.specs.Order.{Scale, same}
use Rattle.table.specs.declared.node.Node.{Node}
use Rattle.table.specs.Kinds.{at_once}
use Rattle.table.specs.Tables.{Table, each}
use Rattle.table.specs.Values.{value_at}

-- what a node has settled: how many of its positions, from 0 on, and the verdict at each of them
pub record Settled (V : Type 0) : Type 0 where
  pub count : ℕ
  pub verdict : ℕ → V

-- v at its first `count` positions, and y at every other, which is not settled
abbrev pub seen : {V : Type 0} → (y : V) → (count : ℕ) → (v : ℕ → V) → ℕ → V
seen y count v p = cond (nat_lt p count) (v p) y

module _ {V : Type 0} (s : Scale V) (σ : ℕ → ℕ → V) where
  -- the value of node x at each position, worked out from its operands, with y wherever they are not settled
  abbrev pub worked_out : V → Node → Settled V → Settled V → ℕ → V
  worked_out y x l r = value_at s x σ (seen y l.count l.verdict) (seen y r.count r.verdict)

  -- once with the lowest value there, and once with the highest
  abbrev pub with_lowest : Node → Settled V → Settled V → ℕ → V
  with_lowest = worked_out s.lowest

  abbrev pub with_highest : Node → Settled V → Settled V → ℕ → V
  with_highest = worked_out s.highest

  -- a position is known if both results are equal there
  abbrev pub known : Node → Settled V → Settled V → ℕ → Bool
  known x l r i = same s (with_lowest x l r i) (with_highest x l r i)

  -- What node x has settled after m ticks, from what its operands have: of the m positions so far, a sample or a node that
  -- looks back all, any other node the leading ones that are known.
  unfoldable pub settle : ℕ → ℕ → Node → Settled V → Settled V → Settled V
  settle m k x l r = record {
    count = cond (at_once x.kind) m (prefix_len (known x l r) (range_with_len 0 m));
    verdict = with_lowest x l r;
  }

  -- stands for a node that is not there
  abbrev pub nothing : Settled V
  nothing = record { count = 0; verdict = λ i. s.lowest }

  -- for all nodes in their order
  unfoldable pub settle_all : ℕ → Table → List (Settled V)
  settle_all m t = each nothing (settle m) t.nodes

  -- what node k of table t has settled after m ticks
  abbrev pub state : ℕ → Table → ℕ → Settled V
  state m t k = slice_index_or (settle_all m t) k nothing

  -- how many positions
  abbrev pub settled : ℕ → Table → ℕ → ℕ
  settled m t k = (state m t k).count

  -- and the verdict at each of them
  abbrev pub verdict : ℕ → Table → ℕ → ℕ → V
  verdict m t k = (state m t k).verdict
