-- Runs: calls with their answers, one step after another. Assumes nothing.
use Rattle.std.specs.Prelude.{ℕ, ◌+◌, List, [], ◌∷◌, ◌++◌, Ok, Err, Result}
use Rattle.record.specs.declared.Record.{Record}
use Rattle.scale.specs.Order.{Scale}
use Rattle.source.specs.declared.fault.Fault.{Fault}
use Rattle.calls.specs.declared.call.Call.{Call}
use Rattle.calls.specs.declared.call.Answer.{Answer}
use Rattle.calls.specs.declared.call.Answer.TheVariants.{Ticked, Ends, Taken}
use Rattle.calls.specs.States.{Box, State}
use Rattle.calls.specs.Steps.{Step}

-- the calls that were made, each with its answer
abbrev pub Log : Type 0 → Type 0
Log V = List (Call × Answer V)

-- from a state, by the calls of a log, to a state: there is a state after each call, and each call did what it may do
pub data Run {V O : Type 0} (s : Scale V) (ask : ℕ → ℕ → Result V Fault) (b : Box V O) (from : State V O) : Log V → State V O → Type 0 where
  start : Run s ask b from [] from
  more : {log : Log V} {x y : State V O} (c : Call) (a : Answer V) → Run s ask b from log x → Step s ask b x y c a → Run s ask b from (log ++ (c, a) ∷ []) y

-- how many ticks an answer accepts, and which records it hands out
abbrev pub ticks_in : {V : Type 0} → Answer V → ℕ
ticks_in (Ticked (Ok u)) = 1
ticks_in (Ticked (Err f)) = 0
ticks_in (Ends r) = 0
ticks_in (Taken r) = 0

abbrev pub records_in : {V : Type 0} → Answer V → List (Record V)
records_in (Ticked r) = []
records_in (Ends r) = []
records_in (Taken (Ok y)) = y ∷ []
records_in (Taken (Err f)) = []

-- the ticks that a log accepts
abbrev pub accepted : {V : Type 0} → Log V → ℕ
accepted [] = 0
accepted (e ∷ es) = ticks_in e.1 + accepted es

-- the records taken, in their order
abbrev pub taken : {V : Type 0} → Log V → List (Record V)
taken [] = []
taken (e ∷ es) = records_in e.1 ++ taken es
