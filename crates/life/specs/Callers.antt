-- A caller that takes all there is after each tick. Assumes nothing.
use Rattle.std.specs.Prelude.{Some, None, Ok, Err, Option}
use Rattle.calls.specs.declared.call.Call.{Call}
use Rattle.calls.specs.declared.call.Call.TheVariants.{Tick, Take}
use Rattle.calls.specs.declared.call.Answer.{Answer}
use Rattle.calls.specs.declared.call.Answer.TheVariants.{Ticked, Ends, Taken}

-- a tick first; after an accepted tick or a record a take, after a refused take a tick, and after a refused tick no more
abbrev pub emptying : {V : Type 0} → Option (Answer V) → Option Call
emptying None = Some Tick
emptying (Some (Ticked (Ok u))) = Some Take
emptying (Some (Ticked (Err f))) = None
emptying (Some (Taken (Ok y))) = Some Take
emptying (Some (Taken (Err f))) = Some Tick
emptying (Some (Ends r)) = None
