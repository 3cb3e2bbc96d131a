-- The room of an outbox in a list of records. Assumes nothing.
use Rattle.std.specs.Prelude.{ℕ, ◌-◌, length}
use Rattle.queue.specs.declared.Ring.{Ring}
use Rattle.queue.specs.Items.{items, lent}

-- as many records can be put as the list is long, less those that wait
abbrev pub slots_free : {T : Type 0} → Ring T → ℕ
slots_free r = length (lent r) - length (items r)
