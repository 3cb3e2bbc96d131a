-- A queue by what it holds, and the slots that it is lent. Assumes nothing.
use Rattle.std.specs.Prelude.{◌≡◌, ℕ, List, length}
use Rattle.queue.specs.Contents.{contents, slot_at}
use Rattle.queue.specs.declared.Ring.{Ring}

-- what it holds, the oldest first
abbrev pub items : {T : Type 0} → Ring T → List T
items r = contents r.slots.now r.at

-- the slots that it is lent
abbrev pub lent : {T : Type 0} → Ring T → List T
lent r = r.slots.now

-- the slot that the next element goes to: in a full queue the slot of the oldest
abbrev pub next_slot : {T : Type 0} → Ring T → ℕ
next_slot r = slot_at (length (lent r)) r.at.head r.at.len

-- the slots are lent to it still: what the newer holds in them is what their owner finds there
abbrev pub SameLoan : {T : Type 0} → Ring T → Ring T → Type 0
SameLoan old new = new.slots.ghost_name ≡ old.slots.ghost_name
