-- What an accepted tick makes of a monitor's state, its memory and an outbox. Assumes nothing.
use Rattle.std.specs.Prelude.{ℕ, List, Result}
use Rattle.record.specs.declared.Record.{Record}
use Rattle.scale.specs.Order.{Scale}
use Rattle.settling.specs.Records.{tick_records}
use Rattle.source.specs.declared.fault.Fault.{Fault}
use Rattle.engine.specs.declared.state.Core.{Core}
use Rattle.engine.specs.Represents.{Represents, Advanced, monitored}
use Rattle.engine.specs.Ticking.{Asked}
use Rattle.monitor.specs.Issuing.{Issued}

-- the engine is taken on, and for all samples that it stood for, the records that this tick owes are issued
pub record Ran {V O : Type 0} (s : Scale V) (answers : ℕ → Result V Fault) (waiting : O → List (Record V)) (free : O → ℕ) (c c' : Core) (memory now : List V) (o o' : O) : Type 0 where
  pub advanced : Advanced s answers c c' memory now
  pub issued : (σ : ℕ → ℕ → V) (m : ℕ) → Asked answers σ m (monitored c) → Represents s σ m c memory → Issued waiting free o o' (tick_records s σ m (monitored c))
