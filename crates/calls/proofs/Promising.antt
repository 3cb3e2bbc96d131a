-- All that is promised of a run, from what it keeps, and at each of its calls. Assumes nothing.
use Rattle.std.proofs.Common.{◌≡◌, ℕ, zero, suc, ◌+◌, ◌≤◌, [], ◌∷◌, ◌++◌, length, get_or, take, drop, Result, sym, ap, ◌∙◌, subst, arith}
use native.Mathlib.Decide.{dec_lt}
use Rattle.std.proofs.lemmas.List.{length_push, take_all, drop_all, take-append-le, drop-append-le}
use Rattle.table_check.specs.Plans.{table_of}
use Rattle.table_check.proofs.Lawful.{plan_accepted}
use Rattle.scale.specs.Order.{Scale, Lattice}
use Rattle.source.specs.declared.fault.Fault.{Fault}
use Rattle.settling.specs.Records.{expected}
use Rattle.settling.specs.Telling.{told_of}
use Rattle.settling.specs.Totals.{Totals, totals}
use Rattle.settling.proofs.Counts.{waiting_counted}
use Rattle.settling.proofs.Telling.{told_once, totalled}
use Rattle.settling.proofs.Timing.{all_in_time}
use Rattle.table.specs.Tables.{Table}
use Rattle.engine.specs.Represents.{Represents}
use Rattle.engine.specs.State.{keep_of, AllAt}
use Rattle.monitor.specs.Calls.{totals_of}
use Rattle.monitor.proofs.Counting.{totals_owed}
use Rattle.calls.specs.States.{Box, State, table_at}
use Rattle.calls.specs.Runs.{Log, Run, start, more, accepted}
use Rattle.calls.specs.Promises.{GoesOn, Promised, AlwaysKept}
use Rattle.calls.proofs.Following.{Following, following}
use Rattle.calls.proofs.Queued.{queue_keeps}
use Rattle.calls.proofs.Truth.{all_true}

module _ {V O : Type 0} (s : Scale V) (o : Lattice s) (ask : ℕ → ℕ → Result V Fault) (b : Box V O) (begun : State V O) where
  abbrev t : Table
  t = table_at begun

  promised : (log : Log V) (x : State V O) → Following s ask b begun log x → (σ : ℕ → ℕ → V) → GoesOn ask σ (accepted log) t → Promised s σ b t (b.waiting begun.outbox) log x
  promised log x f σ on =
      let a = plan_accepted begun.core.plan in
      let m = accepted log in
      let rep = f.stands σ on in
      let same : table_at x ≡ t = ap table_of f.plan in
      let queues : AllAt s σ m t x.memory x.core.keeps = subst (λ t. AllAt s σ m t x.memory x.core.keeps) same rep.queues in
      let closing : totals_of x.core ≡ totals s σ m t = totals_owed s σ m x.core x.memory rep ∙ ap (totals s σ m) same in
      record {
        verdicts = all_true o a σ m;
        records = f.records σ on;
        once = told_once s o t a σ m;
        in_time = (all_in_time s o t a σ).1 m;
        closing = closing;
        counted = λ r d h. subst (λ (z : Totals). let c = get_or z.rules r d in (c.settled ≡ length (told_of r (expected s σ m t))) × (c.settled + c.«open» ≡ m)) (sym closing) (totalled s o t a σ m r d h);
        few_wait = λ n k lt h. (waiting_counted s o t a σ n k h).few;
        queues = λ k h. queue_keeps o a σ k h m x.memory (keep_of x.core.keeps k) (queues k h);
      }

  -- a run, cut after any of its calls
  cut : (log : Log V) (last : State V O) → Run s ask b begun log last → (k : ℕ) → k ≤ length log → (x : State V O) × (Run s ask b begun (take k log) x × Run s ask b x (drop k log) last)
  cut log last start zero h = (begun, (start, start))
  cut log last start (suc k) h = absurd (omega arith)
  cut log last (more {log = done} {x = z} c a run p) k h =
      let all = done ++ (c, a) ∷ [] in
      elim (dec_lt (length done) k) [
        | yes past ↦
            (let whole : length all ≤ k = omega (arith, length_push done (c, a), past) in
            (last, (subst (λ l. Run s ask b begun l last) (sym (take_all k all whole)) (more c a run p), subst (λ l. Run s ask b last l last) (sym (drop_all k all whole)) start)))
        | no within ↦
            (let short : k ≤ length done = omega (arith, within) in
            let here = cut done z run k short in
            (here.0, (subst (λ l. Run s ask b begun l here.0) (sym (take-append-le k done ((c, a) ∷ []) short)) here.1.0, subst (λ l. Run s ask b here.0 l last) (sym (drop-append-le k done ((c, a) ∷ []) short)) (more c a here.1.1 p))))
      ]

  module _ (fresh : begun.core.ticks ≡ 0) (every : (σ : ℕ → ℕ → V) → Represents s σ 0 begun.core begun.memory) where
    pub always_kept : (log : Log V) (last : State V O) → Run s ask b begun log last → AlwaysKept s ask b begun log last
    always_kept log last run k h =
        let here = cut log last run k h in
        let f = following s ask b begun fresh every (take k log) here.0 here.1.0 in
        record {
          state = here.0;
          before = here.1.0;
          rest = here.1.1;
          plan = f.plan;
          ticks = f.ticks;
          promised = promised (take k log) here.0 f;
        }
