-- What the queues of a table's nodes hold after m ticks, and what stands behind them. Assumes nothing.
use Rattle.std.specs.Prelude.{◌≡◌, ℕ, ◌+◌, ◌-◌, ◌<◌, List, map, get_or, slice_index_or}
use Rattle.std.specs.List.{range_with_len}
use Rattle.queue.specs.Contents.{newest}
use Rattle.scale.specs.Order.{Scale}
use Rattle.table.specs.Places.{places}
use Rattle.table.specs.Tables.{Table, size}
use Rattle.settling.specs.Early.{ends}
use Rattle.settling.specs.Settled.{settled, verdict}
use Rattle.engine.specs.declared.keep.Keep.{Keep}
use Rattle.engine.specs.Kept.{values_in}

-- the queue of node k after m ticks: as many positions as are settled, and of their verdicts the newest, as many as the
-- node has places
pub record At {V : Type 0} (s : Scale V) (σ : ℕ → ℕ → V) (m : ℕ) (t : Table) (k : ℕ) (memory : List V) (q : Keep) : Type 0 where
  pub counts : q.count ≡ settled s σ m t k
  pub room : q.to - q.from ≡ places t k
  pub holds : values_in memory q ≡ newest (places t k) (map (verdict s σ m t k) (range_with_len 0 (settled s σ m t k)))

-- stands for a queue that is not there
abbrev pub nowhere : Keep
nowhere = record { from = 0; to = 0; at = record { head = 0; len = 0 }; count = 0 }

abbrev pub keep_of : List Keep → ℕ → Keep
keep_of qs k = slice_index_or qs k nowhere

-- so it is with every node
abbrev pub AllAt : {V : Type 0} → Scale V → (ℕ → ℕ → V) → ℕ → Table → List V → List Keep → Type 0
AllAt s σ m t memory qs = (k : ℕ) → k < size t → At s σ m t k memory (keep_of qs k)

-- behind the queue of node k stand its lower and its upper end of tick n
pub record EndsAt {V : Type 0} (s : Scale V) (σ : ℕ → ℕ → V) (n : ℕ) (t : Table) (k : ℕ) (memory : List V) (q : Keep) : Type 0 where
  pub lower : get_or memory q.to s.lowest ≡ (ends s σ n t k).lower
  pub upper : get_or memory (q.to + 1) s.lowest ≡ (ends s σ n t k).upper

-- so it is with every node
abbrev pub AllEnds : {V : Type 0} → Scale V → (ℕ → ℕ → V) → ℕ → Table → List V → List Keep → Type 0
AllEnds s σ n t memory qs = (k : ℕ) → k < size t → EndsAt s σ n t k memory (keep_of qs k)
