-- How a run ends that takes all records after each tick. Assumes nothing.
use Rattle.std.proofs.Common.{◌≡◌, ℕ, ◌+◌, ◌*◌, ◌≤◌, [], ◌++◌, length, Some, None, Ok, Err, Option, Result, refl, ap, ◌∙◌, ⊎_elim, mul-le-mul_right, arith}
use Rattle.std.proofs.lemmas.List.{length-append}
use Rattle.table_check.proofs.Lawful.{plan_accepted}
use Rattle.scale.specs.Order.{Scale, Lattice}
use Rattle.source.specs.declared.fault.Fault.{Fault}
use Rattle.settling.specs.Records.{expected}
use Rattle.table.specs.Tables.{Table}
use Rattle.engine.specs.declared.fault.TickFault.{TickFault}
use Rattle.engine.specs.Represents.{Represents}
use Rattle.calls.specs.declared.call.Answer.{Answer}
use Rattle.calls.specs.declared.call.Answer.TheVariants.{Ticked, Ends, Taken}
use Rattle.calls.specs.Promises.{GoesOn}
use Rattle.calls.specs.Runs.{Log, Run, accepted, taken}
use Rattle.calls.specs.States.{Box, State, table_at}
use Rattle.calls.proofs.Following.{Following, following}
use Rattle.life.specs.Callers.{emptying}
use Rattle.life.specs.Lives.{AllNamed}
use Rattle.life.specs.declared.caller.Emptying.{Emptying}
use Rattle.shoot.proofs.Emptied.{refusal_at, Phase, over, SoFar, emptied}
use Rattle.shoot.proofs.Few.{few_expected}

module _ {V O : Type 0} (s : Scale V) (o : Lattice s) (ask : ℕ → ℕ → Result V Fault) (b : Box V O) (begun : State V O) (fresh : begun.core.ticks ≡ 0) (every : (σ : ℕ → ℕ → V) → Represents s σ 0 begun.core begun.memory) (empty : b.waiting begun.outbox ≡ []) (gives : (x : O) → b.regained x ≡ 1) where
  abbrev t : Table
  t = table_at begun

  -- the last call was a tick, refused with f, and the outbox is empty
  pub record EndedWith (made : Log V) (last : State V O) (told : Option (Answer V)) (f : TickFault) : Type 0 where
    pub said : told ≡ Some (Ticked (Err f))
    pub emptied_all : b.waiting last.outbox ≡ []
    pub refused : Some f ≡ refusal_at s ask b begun last
    pub free : b.free last.outbox ≡ b.free begun.outbox

  -- such a caller ends only with a refused tick
  by_caller : (made : Log V) (last : State V O) (l : Option (Answer V)) → Phase s ask b begun l last → b.free last.outbox + length (b.waiting last.outbox) ≡ b.free begun.outbox → emptying l ≡ None → (f : TickFault) × EndedWith made last l f
  by_caller made last None p r e = let z : ◌≡◌ {A = ℕ} 0 1 = cc in absurd (omega arith)
  by_caller made last (Some (Ticked (Ok u))) p r e = let z : ◌≡◌ {A = ℕ} 0 1 = cc in absurd (omega arith)
  by_caller made last (Some (Ticked (Err f))) p r e = (f, record { said = refl; emptied_all = p.0; refused = p.1; free = omega (arith, r, ap length p.0) })
  by_caller made last (Some (Taken (Ok y))) p r e = let z : ◌≡◌ {A = ℕ} 0 1 = cc in absurd (omega arith)
  by_caller made last (Some (Taken (Err f))) p r e = let z : ◌≡◌ {A = ℕ} 0 1 = cc in absurd (omega arith)
  by_caller made last (Some (Ends x)) p r e = absurd p

  module _ (long : ℕ) (σ : ℕ → ℕ → V) (on : GoesOn ask σ long t)
      (ends : (n : ℕ) → long ≤ n → (x : State V O) → x.core.ticks ≡ n → table_at x ≡ t → b.free x.outbox ≡ b.free begun.outbox → None ≡ refusal_at s ask b begun x → ⊥)
      (from to : Emptying) (room : ℕ) (enough : 18 * long + 2 ≤ room)
      (made : Log V) (last : State V O) (run : Run s ask b begun made last)
      (calls : AllNamed (λ s l. emptying l) (λ s l. s) from to room made) where
    f : Following s ask b begun made last
    f = following s ask b begun fresh every made last run

    so : SoFar s ask b begun long made last calls.told
    so = emptied s ask b begun long σ on ends gives fresh every empty from made last run calls.caller calls.told calls.named

    goes_on : GoesOn ask σ (accepted made) t
    goes_on n lt = on n (omega (arith, so.short))

    -- what was taken is expected
    pub taken_so : taken made ++ b.waiting last.outbox ≡ expected s σ (accepted made) t
    taken_so = f.records σ goes_on ∙ ap (λ l. l ++ expected s σ (accepted made) t) empty

    few_taken : length (taken made) ≤ long * 16
    few_taken = omega (arith, ap length taken_so, length-append (taken made) (b.waiting last.outbox), few_expected o (plan_accepted begun.core.plan) σ (accepted made), mul-le-mul_right 16 so.short)

    pub at_most : accepted made ≤ long
    at_most = so.short

    pub ended_with : (e : TickFault) × EndedWith made last calls.told e
    ended_with =
        ⊎_elim
        (λ done. by_caller made last calls.told so.phase so.room done.0)
        (λ full. absurd (omega (arith, full.0, so.calls, so.short, few_taken, over_one calls.told)))
        calls.ended
      where
        over_one : (l : Option (Answer V)) → over s ask b begun l ≤ 1
        over_one None = omega arith
        over_one (Some (Ticked (Ok u))) = omega arith
        over_one (Some (Ticked (Err e))) = omega arith
        over_one (Some (Taken (Ok y))) = omega arith
        over_one (Some (Taken (Err e))) = omega arith
        over_one (Some (Ends x)) = omega arith
