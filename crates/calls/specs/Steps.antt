-- What one call answers and changes. Assumes nothing.
use Rattle.std.specs.Prelude.{◌≡◌, ℕ, ◌+◌, [], ◌∷◌, length, IfOk, Result, MatchResult, nat_lt}
use Rattle.std.specs.Result.{result_err}
use Rattle.outbox.specs.declared.fault.TakeFault.{TakeFault}
use Rattle.outbox.specs.Refusals.{take_refusal}
use Rattle.record.specs.declared.Record.{Record}
use Rattle.scale.specs.Order.{Scale}
use Rattle.source.specs.declared.fault.Fault.{Fault}
use Rattle.table.specs.Places.{burst}
use Rattle.engine.specs.declared.fault.TickFault.{TickFault}
use Rattle.engine.specs.Refusals.{tick_fault}
use Rattle.monitor.specs.declared.reading.ReadFault.{ReadFault}
use Rattle.monitor.specs.Calls.{ReadEnds}
use Rattle.monitor.specs.Reading.{read_fault}
use Rattle.monitor.specs.Running.{Ran}
use Rattle.calls.specs.declared.call.Call.{Call}
use Rattle.calls.specs.declared.call.Call.TheVariants.{Tick, Read, Take}
use Rattle.calls.specs.declared.call.Answer.{Answer}
use Rattle.calls.specs.declared.call.Answer.TheVariants.{Ticked, Ends, Taken}
use Rattle.calls.specs.States.{Box, State, table_at}

module _ {V O : Type 0} (s : Scale V) (ask : ℕ → ℕ → Result V Fault) (b : Box V O) (x y : State V O) where
  -- A tick is refused exactly by its first reason, and then nothing has changed; else the engine is taken on by what the
  -- source answers at this tick, and what the tick owes is issued.
  pub record Ticks (r : Result (Unit {0}) TickFault) : Type 0 where
    pub refusal : result_err r ≡ tick_fault (table_at x) x.core.ticks (length x.memory) (nat_lt (b.free x.outbox) (burst (table_at x))) (ask x.core.ticks)
    pub outcome : MatchResult r (λ _. Ran s (ask x.core.ticks) b.waiting b.free x.core y.core x.memory y.memory x.outbox y.outbox) (λ _. y ≡ x)

  -- a reading is refused exactly by its first reason, and else answers the early ends; it changes nothing
  pub record Reads (rule : ℕ) (r : Result (V × V) ReadFault) : Type 0 where
    pub refusal : result_err r ≡ read_fault (table_at x) x.core.ticks rule
    pub ends : IfOk r (λ e. ReadEnds s x.core x.memory rule e)
    pub same : y ≡ x

  -- the oldest record leaves the outbox, of which so much more is free, and the monitor is as it was
  pub record Took (z : Record V) : Type 0 where
    pub removed : b.waiting x.outbox ≡ z ∷ b.waiting y.outbox
    pub freed : b.free y.outbox ≡ b.free x.outbox + b.regained x.outbox
    pub core : y.core ≡ x.core
    pub memory : y.memory ≡ x.memory

  -- nothing waited, and nothing has changed
  pub record TookNone (f : TakeFault) : Type 0 where
    pub number : take_refusal f ≡ 61
    pub empty : b.waiting x.outbox ≡ []
    pub same : y ≡ x

  -- each call by its answer; no other answer can come
  abbrev pub Step : Call → Answer V → Type 0
  Step Tick (Ticked r) = Ticks r
  Step Tick (Ends r) = ⊥
  Step Tick (Taken r) = ⊥
  Step (Read k) (Ticked r) = ⊥
  Step (Read k) (Ends r) = Reads k r
  Step (Read k) (Taken r) = ⊥
  Step Take (Ticked r) = ⊥
  Step Take (Ends r) = ⊥
  Step Take (Taken r) = MatchResult r Took TookNone
