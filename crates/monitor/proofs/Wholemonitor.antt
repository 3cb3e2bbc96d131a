-- A tick of a monitor, from what it makes of its state and of its memory. Assumes nothing.
use Rattle.std.proofs.Common.{◌≡◌, ℕ, List, Ok, Err, Result, ap₂, MatchResult}
use Rattle.record.specs.declared.Record.{Record}
use Rattle.scale.specs.Order.{Scale}
use Rattle.source.specs.declared.fault.Fault.{Fault}
use Rattle.engine.specs.declared.fault.TickFault.{TickFault}
use Rattle.engine.specs.declared.state.Core.{Core}
use Rattle.monitor.specs.declared.watch.Monitor.{Monitor}
use Rattle.monitor.specs.Calls.{Ticked, memory_in}
use Rattle.monitor.specs.Running.{Ran}

module _ {V O : Type 0} (s : Scale V) (answers : ℕ → Result V Fault) (waiting : O → List (Record V)) (free : O → ℕ) (x : Monitor V) (c : Core) (memory : List V) (o o' : O) where
  -- the same monitor, in this state and with this in its memory
  abbrev pub become : Core → List V → Monitor V
  become c m = record { core = c; memory = record { ref_ptr = x.memory.ref_ptr; ghost_name = x.memory.ghost_name; now = m } }

  pub tick_of : (r : Result (Unit {0}) TickFault) → MatchResult r (λ _. Ran s answers waiting free x.core c (memory_in x) memory o o') (λ _. (c ≡ x.core) × (memory ≡ memory_in x) × (o' ≡ o)) → MatchResult r (λ _. Ticked s answers waiting free x (become c memory) o o') (λ _. (become c memory ≡ x) × (o' ≡ o))
  tick_of (Ok u) ran = record {
    plan = ran.advanced.plan;
    ticks = ran.advanced.ticks;
    beyond = ran.advanced.beyond;
    stands = ran.advanced.next;
    issued = ran.issued;
  }
  tick_of (Err f) same = (ap₂ become same.0 same.1, same.2)
