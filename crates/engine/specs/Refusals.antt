-- The refusals of a tick. Assumes nothing.
use Rattle.std.specs.Prelude.{ℕ, Bool, cond, Some, None, Option, Result, nat_le, nat_lt}
use Rattle.source.specs.declared.fault.Fault.{Fault}
use Rattle.source.specs.Frames.{first_fault}
use Rattle.table.specs.Places.{need}
use Rattle.table.specs.Tables.{Table}
use Rattle.engine.specs.declared.fault.TickFault.{TickFault}
use Rattle.engine.specs.declared.fault.TickFault.TheVariants.{Memory, Ticks, Room, Source}
use Rattle.engine.specs.Asking.{samples_of}

-- the number of each; a source's fault keeps its own
abbrev pub tick_refusal : TickFault → ℕ
tick_refusal Memory = 21
tick_refusal Ticks = 31
tick_refusal Room = 32
tick_refusal (Source fault) = fault.number

-- the source's fault, as a tick's
abbrev pub of_source : Option Fault → Option TickFault
of_source None = None
of_source (Some fault) = Some (Source fault)

-- Why a tick is refused, after so many ticks, over a memory of this space: the memory is below the need; as many ticks are
-- accepted as can be; there is too little room for records; or a sample cannot be had, of which the first counts, by the
-- sample nodes upward.
abbrev pub tick_fault : {V : Type 0} → Table → (ticks space : ℕ) → (cramped : Bool) → (ℕ → Result V Fault) → Option TickFault
tick_fault t ticks space cramped answers =
    cond (nat_lt space (need t)) (Some Memory)
    (cond (nat_le 16777216 ticks) (Some Ticks) (cond cramped (Some Room) (of_source (first_fault answers (samples_of t.nodes)))))
