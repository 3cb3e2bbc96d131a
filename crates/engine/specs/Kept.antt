-- A node's queue, as the positions that it answers for. Assumes nothing.
use Rattle.std.specs.Prelude.{ℕ, ◌-◌, List, slice_index_or}
use Rattle.queue.specs.Regions.{held}
use Rattle.settling.specs.Settled.{seen}
use Rattle.engine.specs.declared.keep.Keep.{Keep}

-- what a queue holds, the oldest first
abbrev pub values_in : {V : Type 0} → List V → Keep → List V
values_in memory q = held memory q.from q.to q.at

-- its value at a position, counted from the oldest that it holds; y where it holds none
abbrev pub value_in : {V : Type 0} → V → List V → Keep → ℕ → V
value_in y memory q p = slice_index_or (values_in memory q) (p - (q.count - q.at.len)) y

-- the same, with y for what is not settled
abbrev pub reading : {V : Type 0} → V → List V → Keep → ℕ → V
reading y memory q = seen y q.count (value_in y memory q)
