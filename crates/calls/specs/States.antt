-- A monitor and an outbox between two calls. Assumes nothing.
use Rattle.std.specs.Prelude.{ℕ, List}
use Rattle.record.specs.declared.Record.{Record}
use Rattle.table.specs.Tables.{Table}
use Rattle.engine.specs.declared.state.Core.{Core}
use Rattle.engine.specs.Represents.{monitored}
use Rattle.monitor.specs.declared.watch.Monitor.{Monitor}

-- what is known of an outbox: what waits in it, how much is free, and how much more is once the oldest is taken
pub record Box (V O : Type 0) : Type 0 where
  pub waiting : O → List (Record V)
  pub free : O → ℕ
  pub regained : O → ℕ

abbrev pub box_of : {V O : Type 0} → (O → List (Record V)) → (free regained : O → ℕ) → Box V O
box_of waiting free regained = record { waiting = waiting; free = free; regained = regained }

-- the monitor's state, its memory, and the outbox
pub record State (V O : Type 0) : Type 0 where
  pub core : Core
  pub memory : List V
  pub outbox : O

abbrev pub state_of : {V O : Type 0} → Monitor V → O → State V O
state_of x o = record { core = x.core; memory = x.memory.now; outbox = o }

-- the table of the monitor
abbrev pub table_at : {V O : Type 0} → State V O → Table
table_at x = monitored x.core
