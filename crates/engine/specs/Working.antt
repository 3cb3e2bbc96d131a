-- What a node makes of its operands' queues. Assumes nothing.
use Rattle.std.specs.Prelude.{ℕ, ◌+◌, ◌-◌, List}
use Rattle.scale.specs.Order.{Scale}
use Rattle.table.specs.declared.node.Node.{Node}
use Rattle.table.specs.Values.{least, value_at}
use Rattle.engine.specs.declared.keep.Keep.{Keep}
use Rattle.engine.specs.Kept.{reading}

module _ {V : Type 0} (s : Scale V) where
  -- what until takes the greatest of: right at i + j, and left from the window's opening to just before it
  abbrev pub until_at : (left right : ℕ → V) → (i from : ℕ) → ℕ → V
  until_at l r i from j = s.lesser (r (i + j)) (least s (i + from) (i + j) l)

  -- what since takes the greatest of: right at i - j, and left from just after it to i
  abbrev pub since_at : (left right : ℕ → V) → (i : ℕ) → ℕ → V
  since_at l r i j = s.lesser (r (i - j)) (least s (i - j + 1) (i + 1) l)

  -- a node's value at each position: of a sample its value at this tick, else the formula over what its operands read
  abbrev pub worked_from : V → Node → (left right : ℕ → V) → ℕ → V
  worked_from sample x l r = value_at s x (λ n c. sample) l r

  -- and that where they read their queues in a memory, with y for what is not settled
  abbrev pub worked : V → List V → Node → (left right : Keep) → V → ℕ → V
  worked sample memory x l r y = worked_from sample x (reading y memory l) (reading y memory r)
