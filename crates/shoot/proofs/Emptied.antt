-- Ticks with all records taken after each: what such a run comes to. Assumes nothing.
use Rattle.std.proofs.Common.{◌≡◌, ℕ, ◌+◌, ◌*◌, ◌<◌, ◌≤◌, ltb, List, [], ◌∷◌, ◌++◌, length, Some, None, Ok, Err, Option, Result, sym, refl, ap, ◌∙◌, subst, inl, inr, arith}
use Rattle.std.proofs.lemmas.List.{length_push, length-append}
use Rattle.std.proofs.lemmas.Bool.{cases_lt}
use Rattle.table_check.specs.Plans.{table_of}
use Rattle.record.specs.declared.Record.{Record}
use Rattle.scale.specs.Order.{Scale}
use Rattle.source.specs.declared.fault.Fault.{Fault}
use Rattle.table.specs.Places.{burst}
use Rattle.table.specs.Tables.{Table}
use Rattle.settling.specs.Records.{tick_records}
use Rattle.engine.specs.declared.fault.TickFault.{TickFault}
use Rattle.engine.specs.Refusals.{tick_fault}
use Rattle.engine.specs.Represents.{Represents}
use Rattle.engine.specs.Ticking.{Asked}
use Rattle.monitor.specs.Running.{Ran}
use Rattle.calls.specs.declared.call.Call.{Call}
use Rattle.calls.specs.declared.call.Call.TheVariants.{Tick, Take}
use Rattle.calls.specs.declared.call.Answer.{Answer}
use Rattle.calls.specs.declared.call.Answer.TheVariants.{Ticked, Ends, Taken}
use Rattle.calls.specs.Promises.{GoesOn}
use Rattle.calls.specs.Runs.{Log, Run, start, more, ticks_in, records_in, accepted, taken}
use Rattle.calls.specs.States.{Box, State, table_at}
use Rattle.calls.specs.Steps.{Step}
use Rattle.calls.proofs.Following.{Following, following, accepted_more, taken_more}
use Rattle.life.specs.Callers.{emptying}
use Rattle.life.specs.Lives.{Named}
use Rattle.life.specs.declared.caller.Emptying.{Emptying}
use Rattle.shoot.proofs.Unsnoc.{named_last, none_told}

module _ {V O : Type 0} (s : Scale V) (ask : ℕ → ℕ → Result V Fault) (b : Box V O) (begun : State V O) where
  abbrev t : Table
  t = table_at begun

  abbrev waits : State V O → List (Record V)
  waits x = b.waiting x.outbox

  -- why a tick in state x is refused, if it is
  abbrev pub refusal_at : State V O → Option TickFault
  refusal_at x = tick_fault (table_at x) x.core.ticks (length x.memory) (ltb (b.free x.outbox) (burst (table_at x))) (ask x.core.ticks)

  -- where the run stands, by the last answer: the outbox is empty before each tick
  abbrev pub Phase : Option (Answer V) → State V O → Type 0
  Phase None x = waits x ≡ []
  Phase (Some (Ticked (Ok u))) x = Unit {0}
  Phase (Some (Ticked (Err f))) x = (waits x ≡ []) × (Some f ≡ refusal_at x)
  Phase (Some (Taken (Ok y))) x = Unit {0}
  Phase (Some (Taken (Err f))) x = waits x ≡ []
  Phase (Some (Ends r)) x = ⊥

  -- a take is still owed after an accepted tick or a record; a refused tick is one call more
  abbrev owed : Option (Answer V) → ℕ
  owed None = 0
  owed (Some (Ticked (Ok u))) = 1
  owed (Some (Ticked (Err f))) = 0
  owed (Some (Taken (Ok y))) = 1
  owed (Some (Taken (Err f))) = 0
  owed (Some (Ends r)) = 0

  abbrev pub over : Option (Answer V) → ℕ
  over None = 0
  over (Some (Ticked (Ok u))) = 0
  over (Some (Ticked (Err f))) = 1
  over (Some (Taken (Ok y))) = 0
  over (Some (Taken (Err f))) = 0
  over (Some (Ends r)) = 0

  -- no more than two calls to a tick and one to a record; and what is free and what waits are together as at the start
  pub record SoFar (long : ℕ) (log : Log V) (x : State V O) (l : Option (Answer V)) : Type 0 where
    pub phase : Phase l x
    pub calls : length log + owed l ≤ 2 * accepted log + length (taken log) + over l
    pub room : b.free x.outbox + length (waits x) ≡ b.free begun.outbox
    pub short : accepted log ≤ long

  -- the samples that the run reads, and that the source ends after so many ticks; taking gives a place back
  module _ (long : ℕ) (σ : ℕ → ℕ → V) (on : GoesOn ask σ long t)
      (ends : (n : ℕ) → long ≤ n → (x : State V O) → x.core.ticks ≡ n → table_at x ≡ t → b.free x.outbox ≡ b.free begun.outbox → None ≡ refusal_at x → ⊥)
      (gives : (o : O) → b.regained o ≡ 1) where
    grown : (log : Log V) (k : Call) (a : Answer V) → length (log ++ (k, a) ∷ []) ≡ length log + 1
    grown log k a = length_push log (k, a)

    handed : (log : Log V) (k : Call) (a : Answer V) → length (taken (log ++ (k, a) ∷ [])) ≡ length (taken log) + length (records_in a)
    handed log k a = ap length (taken_more log k a) ∙ length-append (taken log) (records_in a)

    ticked : (log : Log V) (x y : State V O) (l : Option (Answer V)) (u : Unit {0}) → Following s ask b begun log x → owed l ≡ 0 → over l ≡ 0 → waits x ≡ [] → None ≡ refusal_at x → Ran s (ask x.core.ticks) b.waiting b.free x.core y.core x.memory y.memory x.outbox y.outbox → SoFar long log x l → SoFar long (log ++ (Tick, Ticked (Ok u)) ∷ []) y (Some (Ticked (Ok u)))
    ticked log x y l u f none-owed none_over empty not_refused ran so =
        let a : Answer V = Ticked (Ok u) in
        let n = accepted log in
        let same : table_at x ≡ t = ap table_of f.plan in
        let m = accepted_more log Tick a in
        let before : n < long = elim (cases_lt n long) [ inl lt ↦ lt | inr ge ↦ absurd (ends n ge x f.ticks same (omega (arith, so.room, ap length empty)) not_refused) ] in
        let so_on : GoesOn ask σ n t = λ j lt. on j (omega arith) in
        let asked : Asked (ask x.core.ticks) σ n (table_at x) = subst (λ i. Asked (ask i) σ n (table_at x)) (sym f.ticks) (subst (λ t. Asked (ask n) σ n t) (sym same) (on n before)) in
        let told = ran.issued σ n asked (f.stands σ so_on) in
        record {
          phase = tt;
          calls = omega (arith, so.calls, m, grown log Tick a, handed log Tick a);
          room = omega (arith, so.room, told.left, ap length told.waits, length-append (waits x) (tick_records s σ n (table_at x)));
          short = omega (arith, m);
        }

    -- a call that changes nothing and hands nothing out
    idle : (log : Log V) (x y : State V O) (l : Option (Answer V)) (k : Call) (a : Answer V) → ticks_in a ≡ 0 → records_in a ≡ [] → owed (Some a) ≡ 0 → 1 + over l ≤ owed l + over (Some a) → y ≡ x → Phase (Some a) x → SoFar long log x l → SoFar long (log ++ (k, a) ∷ []) y (Some a)
    idle log x y l k a none_accepted none-handed none-owed fair same phase so =
        let m = accepted_more log k a in
        subst (λ z. SoFar long (log ++ (k, a) ∷ []) z (Some a)) (sym same) (record {
          phase = phase;
          calls = omega (arith, so.calls, m, none_accepted, none-owed, fair, grown log k a, handed log k a, ap length none-handed);
          room = so.room;
          short = omega (arith, so.short, m, none_accepted);
        })

    took : (log : Log V) (x y : State V O) (l : Option (Answer V)) (z : Record V) → owed l ≡ 1 → over l ≡ 0 → waits x ≡ z ∷ waits y → b.free y.outbox ≡ b.free x.outbox + b.regained x.outbox → SoFar long log x l → SoFar long (log ++ (Take, Taken (Ok z)) ∷ []) y (Some (Taken (Ok z)))
    took log x y l z one-owed none_over removed freed so =
        let a : Answer V = Taken (Ok z) in
        let m = accepted_more log Take a in
        record {
          phase = tt;
          calls = omega (arith, so.calls, m, grown log Take a, handed log Take a);
          room = omega (arith, so.room, ap length removed, freed, gives x.outbox);
          short = omega (arith, so.short, m);
        }

    tick_from : (log : Log V) (x y : State V O) (l : Option (Answer V)) → Following s ask b begun log x → owed l ≡ 0 → over l ≡ 0 → waits x ≡ [] → SoFar long log x l → (a : Answer V) → Step s ask b x y Tick a → SoFar long (log ++ (Tick, a) ∷ []) y (Some a)
    tick_from log x y l f none-owed none_over empty so (Ticked (Ok u)) p = ticked log x y l u f none-owed none_over empty p.refusal p.outcome so
    tick_from log x y l f none-owed none_over empty so (Ticked (Err e)) p = idle log x y l Tick (Ticked (Err e)) refl refl refl (omega (arith, none_over)) p.outcome (empty, p.refusal) so
    tick_from log x y l f none-owed none_over empty so (Ends r) p = absurd p
    tick_from log x y l f none-owed none_over empty so (Taken r) p = absurd p

    take_from : (log : Log V) (x y : State V O) (l : Option (Answer V)) → owed l ≡ 1 → over l ≡ 0 → SoFar long log x l → (a : Answer V) → Step s ask b x y Take a → SoFar long (log ++ (Take, a) ∷ []) y (Some a)
    take_from log x y l one-owed none_over so (Ticked r) p = absurd p
    take_from log x y l one-owed none_over so (Ends r) p = absurd p
    take_from log x y l one-owed none_over so (Taken (Ok z)) p = took log x y l z one-owed none_over p.removed p.freed so
    take_from log x y l one-owed none_over so (Taken (Err e)) p = idle log x y l Take (Taken (Err e)) refl refl refl (omega (arith, one-owed, none_over)) p.same p.empty so

    -- one call more, which is the one that is named
    step : (log : Log V) (x y : State V O) (l : Option (Answer V)) (k : Call) (a : Answer V) → Following s ask b begun log x → emptying l ≡ Some k → Step s ask b x y k a → SoFar long log x l → SoFar long (log ++ (k, a) ∷ []) y (Some a)
    step log x y None k a f e p so = let is : Tick ≡ k = cc in subst (λ k. Step s ask b x y k a → SoFar long (log ++ (k, a) ∷ []) y (Some a)) is (tick_from log x y None f refl refl so.phase so a) p
    step log x y (Some (Ticked (Ok u))) k a f e p so = let is : Take ≡ k = cc in subst (λ k. Step s ask b x y k a → SoFar long (log ++ (k, a) ∷ []) y (Some a)) is (take_from log x y (Some (Ticked (Ok u))) refl refl so a) p
    step log x y (Some (Ticked (Err g))) k a f e p so = let z : ◌≡◌ {A = ℕ} 0 1 = cc in absurd (omega arith)
    step log x y (Some (Taken (Ok r))) k a f e p so = let is : Take ≡ k = cc in subst (λ k. Step s ask b x y k a → SoFar long (log ++ (k, a) ∷ []) y (Some a)) is (take_from log x y (Some (Taken (Ok r))) refl refl so a) p
    step log x y (Some (Taken (Err g))) k a f e p so = let is : Tick ≡ k = cc in subst (λ k. Step s ask b x y k a → SoFar long (log ++ (k, a) ∷ []) y (Some a)) is (tick_from log x y (Some (Taken (Err g))) f refl refl so.phase so a) p
    step log x y (Some (Ends r)) k a f e p so = absurd so.phase

    -- all calls of a run that such a caller named
    pub emptied : (fresh : begun.core.ticks ≡ 0) → ((σ : ℕ → ℕ → V) → Represents s σ 0 begun.core begun.memory) → waits begun ≡ [] → (from : Emptying) (log : Log V) (x : State V O) → Run s ask b begun log x → (c : Emptying) (l : Option (Answer V)) → Named (λ s l. emptying l) (λ s l. s) from log c l → SoFar long log x l
    emptied fresh every empty from log x start c l named =
        subst (SoFar long [] begun) (sym (none_told (λ s l. emptying l) (λ s l. s) from c l named)) (record { phase = empty; calls = omega arith; room = omega (arith, ap length empty); short = omega arith })
    emptied fresh every empty from log x (more {log = done} {x = z} k a run p) c l named =
        let last = named_last (λ s l. emptying l) (λ s l. s) from done k a c l named in
        let was = last.0 in
        let f = following s ask b begun fresh every done z run in
        subst (SoFar long (done ++ (k, a) ∷ []) x) (sym last.1) (step done z x was.told k a f was.says_so p (emptied fresh every empty from done z run was.caller was.told was.named))
