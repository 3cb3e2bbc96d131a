-- Where the queues lie in the memory. Assumes nothing.
use Rattle.std.specs.Prelude.{◌≡◌, ℕ, ◌+◌, List, slice_index}
use Rattle.table.specs.Places.{total}
use Rattle.engine.specs.declared.keep.Keep.{Keep}

-- the queues lie one behind the other, each with its places and two values more for its ends
abbrev pub start_of : List ℕ → ℕ → ℕ
start_of places k = total k (λ j. slice_index places j + 2)

-- an empty queue in the region of node k
pub record Laid (places : List ℕ) (k : ℕ) (q : Keep) : Type 0 where
  pub begins : q.from ≡ start_of places k
  pub ends : q.to ≡ start_of places k + slice_index places k
  pub head : q.at.head ≡ 0
  pub none : q.at.len ≡ 0
  pub unsettled : q.count ≡ 0
