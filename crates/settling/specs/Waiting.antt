-- What the uses of a node have released, and which of its positions wait. Assumes nothing.
use Rattle.std.specs.Prelude.{ℕ, suc, ◌+◌, ◌-◌, ◌<◌, ◌≤◌, Bool, cond, ◌&&◌, ◌||◌, List, length, filter, ◌==◌, nat_le}
use Rattle.std.specs.List.{range_with_len}
use Rattle.scale.specs.Order.{Scale}
use Rattle.table.specs.declared.kind.Side.{Side}
use Rattle.table.specs.declared.kind.Side.TheVariants.{Left, Right}
use Rattle.table.specs.Kinds.{past, opens}
use Rattle.table.specs.Tables.{Table, size, node, rule_node}
use Rattle.table.specs.Places.{operand, Use, parent, rule}
use Rattle.table.specs.Refusals.{any}
use Rattle.settling.specs.Settled.{settled}

module _ {V : Type 0} (s : Scale V) (σ : ℕ → ℕ → V) (m : ℕ) (t : Table) where
  -- After m ticks parent j has released the positions of its operand on this side that are below this one: if it looks
  -- back, those that no later window reaches; if not, those before the first that it reads for a position not settled yet.
  abbrev pub released_by : (j : ℕ) → Side → ℕ
  released_by j side =
      let x = node t j in
      cond (past x.kind) (m - x.to) (settled s σ m t j + opens x.kind side x.from)

  -- a use of node k has released its positions below this one; a rule releases all that are settled
  abbrev pub released : (k : ℕ) → Use t k → ℕ
  released k (parent j side h e) = released_by j side
  released k (rule r h e) = settled s σ m t k

  -- whether node k is the operand of parent j on this side, which has not released position p
  abbrev pub side_keeps : (k p j : ℕ) → Side → Bool
  side_keeps k p j side = operand (node t j) side k && nat_le (released_by j side) p

  -- on either side
  abbrev pub parent_keeps : (k p j : ℕ) → Bool
  parent_keeps k p j = side_keeps k p j Left || side_keeps k p j Right

  -- whether rule r is of node k and has not released position p
  abbrev pub rule_keeps : (k p r : ℕ) → Bool
  rule_keeps k p r = rule_node t r == k && nat_le (settled s σ m t k) p

  -- whether some use of node k has not released position p
  abbrev pub unreleased : (k p : ℕ) → Bool
  unreleased k p = any (size t) (parent_keeps k p) || any (length t.rules) (rule_keeps k p)

module _ {V : Type 0} (s : Scale V) (σ : ℕ → ℕ → V) (n : ℕ) (t : Table) (k : ℕ) where
  -- position p of node k waits at tick n: it is settled after the tick, and some use had not released it before the tick
  pub record Waits (p : ℕ) : Type 0 where
    pub is_settled : p < settled s σ (suc n) t k
    pub by : Use t k
    pub not_released : released s σ n t k by ≤ p

  -- the positions of node k that wait at tick n, upward
  abbrev pub waiting : List ℕ
  waiting = filter (unreleased s σ n t k) (range_with_len 0 (settled s σ (suc n) t k))
