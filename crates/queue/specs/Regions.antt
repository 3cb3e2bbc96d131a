-- Many queues in one memory, each in a region of its own. Assumes nothing.
use Rattle.std.specs.Prelude.{ℕ, ◌-◌, ◌≤◌, ◌⊎◌, List, [], ◌∷◌, ◌++◌, take, drop}
use Rattle.std.specs.List.{between}
use Rattle.queue.specs.declared.Stand.{Stand}
use Rattle.queue.specs.Contents.{contents, newest, Fits}

-- what the queue that stands so in the region holds, the oldest first
abbrev pub held : {X : Type 0} → List X → ℕ → ℕ → Stand → List X
held memory from to at = contents (between from to memory) at

-- the region lies in a memory of this size, and the stand fits the region
pub record Stands (size from to : ℕ) (at : Stand) : Type 0 where
  pub ordered : from ≤ to
  pub inside : to ≤ size
  pub fits : Fits (to - from) at

-- a memory as one of its queues divides it: what lies before its region, what it holds, what lies behind its region
pub record Divided (X : Type 0) : Type 0 where
  pub before : List X
  pub held : List X
  pub behind : List X

abbrev pub divided : {X : Type 0} → List X → ℕ → ℕ → Stand → Divided X
divided memory from to at = record { before = take from memory; held = held memory from to at; behind = drop to memory }

-- the queue has gained x, of all its elements it keeps the newest that it has slots for, and all around it is as it was
abbrev pub gained : {X : Type 0} → ℕ → Divided X → X → Divided X
gained cap d x = record { before = d.before; held = newest cap (d.held ++ x ∷ []); behind = d.behind }

-- two regions that share no slot
abbrev pub Apart : ℕ → ℕ → ℕ → ℕ → Type 0
Apart from to a b = (b ≤ from) ⊎ (to ≤ a)
