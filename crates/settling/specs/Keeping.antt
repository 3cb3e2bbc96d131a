-- What is promised of what waits: it is all that a tick needs, and it has a place. Assumes nothing.
use Rattle.std.specs.Prelude.{◌≡◌, ℕ, suc, ◌+◌, ◌<◌, ◌≤◌, true, false, length}
use Rattle.std.specs.List.{AllAdjacentBelow, ContainsAt as Has}
use Rattle.scale.specs.Order.{Scale}
use Rattle.table.specs.declared.kind.Side.{Side}
use Rattle.table.specs.Kinds.{past}
use Rattle.table.specs.Places.{operand, Use, places}
use Rattle.table.specs.Tables.{Table, size, node, rule_node, Reads}
use Rattle.settling.specs.Formulas.{Everywhere}
use Rattle.settling.specs.Settled.{settled}
use Rattle.settling.specs.Waiting.{released, Waits, waiting}

-- Position p of node k waits at tick n if the tick needs it: if a parent reads it for a position that it has not settled
-- before, if a parent that looks back reads it for position n, or if a rule newly tells it.
pub record NeededWaits {V : Type 0} (s : Scale V) (σ : ℕ → ℕ → V) (n : ℕ) (t : Table) (k p : ℕ) : Type 0 where
  pub ahead : (j : ℕ) (side : Side) (i : ℕ) → j < size t → operand (node t j) side k ≡ true → past (node t j).kind ≡ false → settled s σ n t j ≤ i → Reads (node t j) side i p → Waits s σ n t k p
  pub back : (j : ℕ) (side : Side) → j < size t → operand (node t j) side k ≡ true → past (node t j).kind ≡ true → Reads (node t j) side n p → Waits s σ n t k p
  pub told : (r : ℕ) → r < length t.rules → rule_node t r ≡ k → settled s σ n t k ≤ p → Waits s σ n t k p

-- so it is with every position that is settled
abbrev pub EnoughWaits : Type 0 → Type 0
EnoughWaits V = Everywhere V λ s t σ. (n k p : ℕ) → p < settled s σ (suc n) t k → NeededWaits s σ n t k p

-- all that waits is among the newest settled positions, as many as the node has places
abbrev pub HeldInPlaces : Type 0 → Type 0
HeldInPlaces V = Everywhere V λ s t σ.
    (n k p : ℕ) → k < size t → Waits s σ n t k p → settled s σ (suc n) t k ≤ p + places t k

-- The list of what waits has just the positions that wait, upward, and no more of them than places. What some use has not
-- released after the tick was waiting at it.
pub record FewWait {V : Type 0} (s : Scale V) (σ : ℕ → ℕ → V) (n : ℕ) (t : Table) (k : ℕ) : Type 0 where
  pub only : (p : ℕ) → Has (waiting s σ n t k) p → Waits s σ n t k p
  pub all : (p : ℕ) → Waits s σ n t k p → Has (waiting s σ n t k) p
  pub upward : AllAdjacentBelow (λ p q. p < q) (waiting s σ n t k) (length (waiting s σ n t k))
  pub few : length (waiting s σ n t k) ≤ places t k
  pub still : (u : Use t k) (p : ℕ) → p < settled s σ (suc n) t k → released s σ (suc n) t k u ≤ p → Waits s σ n t k p

-- for every node at every tick
abbrev pub WaitingCounted : Type 0 → Type 0
WaitingCounted V = Everywhere V λ s t σ. (n k : ℕ) → k < size t → FewWait s σ n t k
