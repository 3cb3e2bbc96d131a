-- What a run keeps from call to call: what the monitor stands for, and what was issued. Assumes nothing.
use Rattle.std.proofs.Common.{◌≡◌, ℕ, suc, ◌+◌, List, [], ◌∷◌, ◌++◌, Ok, Err, Result, sym, refl, ap, ◌∙◌, subst, arith}
use Rattle.std.proofs.lemmas.List.{append-nil, append_assoc}
use Rattle.table_check.specs.Plans.{table_of}
use Rattle.record.specs.declared.Record.{Record}
use Rattle.scale.specs.Order.{Scale}
use Rattle.source.specs.declared.fault.Fault.{Fault}
use Rattle.settling.specs.Records.{tick_records, expected}
use Rattle.settling.proofs.Telling.{expected_next}
use Rattle.table.specs.Tables.{Table}
use Rattle.engine.specs.declared.state.Core.{Core}
use Rattle.engine.specs.Represents.{Represents}
use Rattle.engine.specs.Ticking.{Asked}
use Rattle.monitor.specs.Running.{Ran}
use Rattle.calls.specs.declared.call.Call.{Call}
use Rattle.calls.specs.declared.call.Call.TheVariants.{Tick, Read, Take}
use Rattle.calls.specs.declared.call.Answer.{Answer}
use Rattle.calls.specs.declared.call.Answer.TheVariants.{Ticked, Ends, Taken}
use Rattle.calls.specs.States.{Box, State, table_at}
use Rattle.calls.specs.Steps.{Step}
use Rattle.calls.specs.Runs.{Log, Run, start, more, ticks_in, records_in, accepted, taken}
use Rattle.calls.specs.Promises.{GoesOn}

module _ {V : Type 0} where
  pub accepted_more : (log : Log V) (c : Call) (a : Answer V) → accepted (log ++ (c, a) ∷ []) ≡ accepted log + ticks_in a
  accepted_more [] c a = omega arith
  accepted_more (e ∷ es) c a = omega (arith, accepted_more es c a)

  pub taken_more : (log : Log V) (c : Call) (a : Answer V) → taken (log ++ (c, a) ∷ []) ≡ taken log ++ records_in a
  taken_more [] c a = append-nil (records_in a)
  taken_more (e ∷ es) c a = ap (λ l. records_in e.1 ++ l) (taken_more es c a) ∙ sym (append_assoc (records_in e.1) (taken es) (records_in a))

module _ {V O : Type 0} (s : Scale V) (ask : ℕ → ℕ → Result V Fault) (b : Box V O) (begun : State V O) where
  -- what waits in a state
  abbrev waits : State V O → List (Record V)
  waits x = b.waiting x.outbox

  abbrev t : Table
  t = table_at begun

  -- in state x after this log
  pub record Following (log : Log V) (x : State V O) : Type 0 where
    pub plan : x.core.plan ≡ begun.core.plan
    pub ticks : x.core.ticks ≡ accepted log
    pub stands : (σ : ℕ → ℕ → V) → GoesOn ask σ (accepted log) t → Represents s σ (accepted log) x.core x.memory
    pub records : (σ : ℕ → ℕ → V) → GoesOn ask σ (accepted log) t → taken log ++ waits x ≡ waits begun ++ expected s σ (accepted log) t

  -- a call that accepts no tick, hands nothing out and changes nothing
  idle : (log : Log V) (x y : State V O) (c : Call) (a : Answer V) → ticks_in a ≡ 0 → records_in a ≡ [] → y ≡ x → Following log x → Following (log ++ (c, a) ∷ []) y
  idle log x y c a none_accepted none-handed same f =
      let m : accepted (log ++ (c, a) ∷ []) ≡ accepted log = omega (arith, accepted_more log c a, none_accepted) in
      let handed : taken (log ++ (c, a) ∷ []) ≡ taken log = taken_more log c a ∙ ap (λ l. taken log ++ l) none-handed ∙ append-nil (taken log) in
      let back : (σ : ℕ → ℕ → V) → GoesOn ask σ (accepted (log ++ (c, a) ∷ [])) t → GoesOn ask σ (accepted log) t = λ σ on. subst (λ m. GoesOn ask σ m t) m on in
      record {
        plan = ap (λ (z : State V O). z.core.plan) same ∙ f.plan;
        ticks = ap (λ (z : State V O). z.core.ticks) same ∙ f.ticks ∙ sym m;
        stands = λ σ on. subst (λ (z : State V O). Represents s σ (accepted (log ++ (c, a) ∷ [])) z.core z.memory) (sym same) (subst (λ m. Represents s σ m x.core x.memory) (sym m) (f.stands σ (back σ on)));
        records = λ σ on. ap (λ l. l ++ waits y) handed ∙ ap (λ (z : State V O). taken log ++ waits z) same ∙ f.records σ (back σ on) ∙ ap (λ m. waits begun ++ expected s σ m t) (sym m);
      }

  -- a record is taken
  took : (log : Log V) (x y : State V O) (z : Record V) → waits x ≡ z ∷ waits y → y.core ≡ x.core → y.memory ≡ x.memory → Following log x → Following (log ++ (Take, Taken (Ok z)) ∷ []) y
  took log x y z removed core memory f =
      let e : Answer V = Taken (Ok z) in
      let m : accepted (log ++ (Take, e) ∷ []) ≡ accepted log = omega (arith, accepted_more log Take e) in
      let back : (σ : ℕ → ℕ → V) → GoesOn ask σ (accepted (log ++ (Take, e) ∷ [])) t → GoesOn ask σ (accepted log) t = λ σ on. subst (λ m. GoesOn ask σ m t) m on in
      record {
        plan = ap (λ (c : Core). c.plan) core ∙ f.plan;
        ticks = ap (λ (c : Core). c.ticks) core ∙ f.ticks ∙ sym m;
        stands = λ σ on.
            subst (λ c. Represents s σ (accepted (log ++ (Take, e) ∷ [])) c y.memory) (sym core)
            (subst (λ l. Represents s σ (accepted (log ++ (Take, e) ∷ [])) x.core l) (sym memory) (subst (λ m. Represents s σ m x.core x.memory) (sym m) (f.stands σ (back σ on))));
        records = λ σ on.
            ap (λ l. l ++ waits y) (taken_more log Take e)
            ∙ append_assoc (taken log) (z ∷ []) (waits y)
            ∙ ap (λ l. taken log ++ l) (sym removed)
            ∙ f.records σ (back σ on)
            ∙ ap (λ m. waits begun ++ expected s σ m t) (sym m);
      }

  -- a tick is accepted
  ticked : (log : Log V) (x y : State V O) (u : Unit {0}) → Ran s (ask x.core.ticks) b.waiting b.free x.core y.core x.memory y.memory x.outbox y.outbox → Following log x → Following (log ++ (Tick, Ticked (Ok u)) ∷ []) y
  ticked log x y u ran f =
      let e : Answer V = Ticked (Ok u) in
      let n = accepted log in
      let m : accepted (log ++ (Tick, e) ∷ []) ≡ suc n = omega (arith, accepted_more log Tick e) in
      let handed : taken (log ++ (Tick, e) ∷ []) ≡ taken log = taken_more log Tick e ∙ append-nil (taken log) in
      let same : table_at x ≡ t = ap table_of f.plan in
      let back : (σ : ℕ → ℕ → V) → GoesOn ask σ (accepted (log ++ (Tick, e) ∷ [])) t → GoesOn ask σ n t = λ σ on j lt. on j (omega (arith, m)) in
      let asked : (σ : ℕ → ℕ → V) → GoesOn ask σ (accepted (log ++ (Tick, e) ∷ [])) t → Asked (ask x.core.ticks) σ n (table_at x) =
      λ σ on. subst (λ i. Asked (ask i) σ n (table_at x)) (sym f.ticks) (subst (λ t. Asked (ask n) σ n t) (sym same) (on n (omega (arith, m)))) in
      record {
        plan = ran.advanced.plan ∙ f.plan;
        ticks = omega (arith, ran.advanced.ticks, f.ticks, m);
        stands = λ σ on. subst (λ m. Represents s σ m y.core y.memory) (sym m) (ran.advanced.next σ n (asked σ on) (f.stands σ (back σ on)));
        records = λ σ on.
            let new = tick_records s σ n (table_at x) in
            ap (λ l. l ++ waits y) handed
            ∙ ap (λ l. taken log ++ l) (ran.issued σ n (asked σ on) (f.stands σ (back σ on))).waits
            ∙ sym (append_assoc (taken log) (waits x) new)
            ∙ ap (λ l. l ++ new) (f.records σ (back σ on))
            ∙ append_assoc (waits begun) (expected s σ n t) new
            ∙ ap (λ t'. waits begun ++ (expected s σ n t ++ tick_records s σ n t')) same
            ∙ ap (λ l. waits begun ++ l) (sym (expected_next s σ n t))
            ∙ ap (λ m. waits begun ++ expected s σ m t) (sym m);
      }

  step : (log : Log V) (x y : State V O) (c : Call) (a : Answer V) → Step s ask b x y c a → Following log x → Following (log ++ (c, a) ∷ []) y
  step log x y Tick (Ticked (Ok u)) p f = ticked log x y u p.outcome f
  step log x y Tick (Ticked (Err e)) p f = idle log x y Tick (Ticked (Err e)) refl refl p.outcome f
  step log x y Tick (Ends r) p f = absurd p
  step log x y Tick (Taken r) p f = absurd p
  step log x y (Read k) (Ticked r) p f = absurd p
  step log x y (Read k) (Ends r) p f = idle log x y (Read k) (Ends r) refl refl p.same f
  step log x y (Read k) (Taken r) p f = absurd p
  step log x y Take (Ticked r) p f = absurd p
  step log x y Take (Ends r) p f = absurd p
  step log x y Take (Taken (Ok z)) p f = took log x y z p.removed p.core p.memory f
  step log x y Take (Taken (Err e)) p f = idle log x y Take (Taken (Err e)) refl refl p.same f

  module _ (fresh : begun.core.ticks ≡ 0) (every : (σ : ℕ → ℕ → V) → Represents s σ 0 begun.core begun.memory) where
    pub following : (log : Log V) (x : State V O) → Run s ask b begun log x → Following log x
    unfolding expected
    following log x start = record { plan = refl; ticks = fresh; stands = λ σ on. every σ; records = λ σ on. sym (append-nil (waits begun)) }
    following log x (more {log = done} {x = z} c a run p) = step done z x c a p (following done z run)
