-- A bounded queue in a row of slots: where it stands, and what it holds. Assumes nothing.
use Rattle.std.specs.Prelude.{ℕ, ◌+◌, ◌-◌, ◌<◌, ◌≤◌, max, cond, List, ◌++◌, length, take, drop, nat_lt}
use Rattle.queue.specs.declared.Stand.{Stand}

-- what a queue that stands so holds, the oldest first: its slots, read round from its head, as many as it is long
unfoldable pub contents : {X : Type 0} → List X → Stand → List X
contents slots at = take at.len (drop at.head slots ++ take at.head slots)

-- a queue can stand so: it holds no more than there are slots, and its head is one of them (slot 0 where there are none)
pub record Fits (cap : ℕ) (at : Stand) : Type 0 where
  pub holds : at.len ≤ cap
  pub begins : at.head < max cap 1

-- the slot that comes `i` slots after `head`, going round
unfoldable pub slot_at : ℕ → ℕ → ℕ → ℕ
slot_at cap head i = cond (nat_lt (head + i) cap) (head + i) (head + i - cap)

-- the last `n` of a list, or all of a shorter one
unfoldable pub newest : {X : Type 0} → ℕ → List X → List X
newest n xs = drop (length xs - n) xs
