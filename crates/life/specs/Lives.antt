-- The whole life of one monitor. Assumes nothing.
use Rattle.std.specs.Prelude.{◌≡◌, ℕ, ◌⊎◌, List, [], ◌∷◌, ◌++◌, length, Some, None, Option, Result}
use Rattle.table_check.specs.declared.plan.Plan.{Plan}
use Rattle.scale.specs.Order.{Scale}
use Rattle.source.specs.declared.fault.Fault.{Fault}
use Rattle.settling.specs.Totals.{Totals}
use Rattle.engine.specs.Represents.{Represents}
use Rattle.monitor.specs.Calls.{totals_of}
use Rattle.calls.specs.declared.call.Call.{Call}
use Rattle.calls.specs.declared.call.Answer.{Answer}
use Rattle.calls.specs.States.{Box, State}
use Rattle.calls.specs.Runs.{Log, Run}
use Rattle.calls.specs.Promises.{AlwaysKept}

-- the state after set-up: a monitor of this plan and this memory with no tick accepted, and the outbox as it was lent
pub record Begun {V O : Type 0} (s : Scale V) (p : Plan) (memory : List V) (o : O) (x : State V O) : Type 0 where
  pub plan : x.core.plan ≡ p
  pub ticks : x.core.ticks ≡ 0
  pub every : (σ : ℕ → ℕ → V) → Represents s σ 0 x.core x.memory
  pub lent : x.memory ≡ memory
  pub outbox : x.outbox ≡ o

module _ {V C : Type 0} (names : C → Option (Answer V) → Option Call) (after : C → Option (Answer V) → C) where
  -- a caller, told each answer in turn, named just these calls, and is then so, having been told this last
  pub data Named (from : C) : Log V → C → Option (Answer V) → Type 0 where
    begins : Named from [] from None
    says : {log : Log V} {c : C} {l : Option (Answer V)} (k : Call) (a : Answer V) → Named from log c l → names c l ≡ Some k → Named from (log ++ (k, a) ∷ []) (after c l) (Some a)

  -- the calls made are those that the caller named, until it ended or there was no more room in the log
  pub record AllNamed (from to : C) (room : ℕ) (made : Log V) : Type 0 where
    pub caller : C
    pub told : Option (Answer V)
    pub named : Named from made caller told
    pub ended : ((names caller told ≡ None) × (to ≡ after caller told)) ⊎ ((length made ≡ room) × (to ≡ caller))

-- The life of one monitor, from what it was lent to its last state: the log has grown by the calls that were made, with
-- their answers; they lead from the state after set-up to the last one, each call doing exactly what it may do; the caller
-- named them; and at each of them every promise is kept, whatever samples follow.
pub record Life {V O C : Type 0} (s : Scale V) (ask : ℕ → ℕ → Result V Fault) (b : Box V O) (names : C → Option (Answer V) → Option Call) (after : C → Option (Answer V) → C) (p : Plan) (memory : List V) (o : O) (room : ℕ) (from to : C) (before log : Log V) (last : State V O) : Type 0 where
  pub made : Log V
  pub logged : log ≡ before ++ made
  pub begun : State V O
  pub begins : Begun s p memory o begun
  pub run : Run s ask b begun made last
  pub calls : AllNamed names after from to room made
  pub kept : AlwaysKept s ask b begun made last

-- the same with a close at its end: what is handed back, the memory and the outbox are those of the last state
pub record ClosedLife {V O C : Type 0} (s : Scale V) (ask : ℕ → ℕ → Result V Fault) (b : Box V O) (names : C → Option (Answer V) → Option Call) (after : C → Option (Answer V) → C) (p : Plan) (memory memory' : List V) (o o' : O) (room : ℕ) (from to : C) (before log : Log V) (sum : Totals) : Type 0 where
  pub last : State V O
  pub life : Life s ask b names after p memory o room from to before log last
  pub memory_is : last.memory ≡ memory'
  pub outbox_is : last.outbox ≡ o'
  pub totals_are : sum ≡ totals_of last.core
