-- Where the loop of a life stands after some calls. Assumes nothing.
use Rattle.std.proofs.Common.{◌≡◌, ℕ, ◌+◌, ◌⊎◌, List, [], ◌∷◌, ◌++◌, length, Some, None, Option, Result, sym, refl, ap, ◌∙◌, subst, inl, inr, ⊎_elim, arith}
use Rattle.std.proofs.lemmas.List.{append-nil, append_assoc, length_push}
use Rattle.table_check.specs.declared.plan.Plan.{Plan}
use Rattle.scale.specs.Order.{Scale, Lattice}
use Rattle.source.specs.declared.fault.Fault.{Fault}
use Rattle.calls.specs.declared.call.Call.{Call}
use Rattle.calls.specs.declared.call.Answer.{Answer}
use Rattle.monitor.specs.declared.watch.Monitor.{Monitor}
use Rattle.monitor.specs.Calls.{SetUp}
use Rattle.calls.specs.States.{Box, State, state_of}
use Rattle.calls.specs.Steps.{Step}
use Rattle.calls.specs.Runs.{Log, Run, start, more}
use Rattle.calls.proofs.Promising.{always_kept}
use Rattle.life.specs.Lives.{Begun, Named, begins, says, Life}

module _ {V O C : Type 0} (s : Scale V) (ask : ℕ → ℕ → Result V Fault) (b : Box V O) (names : C → Option (Answer V) → Option Call) (after : C → Option (Answer V) → C) (begun : State V O) (from : C) (before : Log V) where
  -- so many calls were made, which the log holds behind what it held; the caller is c, and was told l last
  pub record Living (count : ℕ) (log : Log V) (x : State V O) (c : C) (l : Option (Answer V)) : Type 0 where
    pub made : Log V
    pub logged : log ≡ before ++ made
    pub counted : length made ≡ count
    pub run : Run s ask b begun made x
    pub named : Named names after from made c l

module _ {V O C : Type 0} {s : Scale V} {ask : ℕ → ℕ → Result V Fault} {b : Box V O} {names : C → Option (Answer V) → Option Call} {after : C → Option (Answer V) → C} {begun : State V O} {from : C} {before : Log V} where
  pub living_start : Living s ask b names after begun from before 0 before begun from None
  living_start = record { made = []; logged = sym (append-nil before); counted = refl; run = start; named = begins }

  -- one call more, as the caller named it
  pub living_on : {count : ℕ} {log log' : Log V} {x y : State V O} {c c' : C} {l : Option (Answer V)} {o : Option Call} {k : Call} {a : Answer V} → Living s ask b names after begun from before count log x c l → o ≡ Some k → o ≡ names c l → c' ≡ after c l → Step s ask b x y k a → log' ≡ log ++ (k, a) ∷ [] → Living s ask b names after begun from before (count + 1) log' y c' (Some a)
  living_on {k = k} {a = a} g is named moved step grown = record {
    made = g.made ++ (k, a) ∷ [];
    logged = grown ∙ ap (λ e. e ++ (k, a) ∷ []) g.logged ∙ append_assoc before g.made ((k, a) ∷ []);
    counted = omega (arith, length_push g.made (k, a), g.counted);
    run = more k a g.run step;
    named = subst (λ z. Named names after from (g.made ++ (k, a) ∷ []) z (Some a)) (sym moved) (says k a g.named (sym named ∙ is));
  }

  -- a life that ended as the caller ended, or with the log's room
  pub lived : Lattice s → {p : Plan} {memory : List V} {room count : ℕ} {log : Log V} {x : State V O} {c to : C} {l : Option (Answer V)} → Begun s p memory begun.outbox begun → Living s ask b names after begun from before count log x c l → ((names c l ≡ None) × (to ≡ after c l)) ⊎ ((count ≡ room) × (to ≡ c)) → Life s ask b names after p memory begun.outbox room from to before log x
  lived o {c = c} {l = l} beg g end = record {
    made = g.made;
    logged = g.logged;
    begun = begun;
    begins = beg;
    run = g.run;
    calls = record { caller = c; told = l; named = g.named; ended = ⊎_elim inl (λ e. inr (g.counted ∙ e.0, e.1)) end };
    kept = always_kept s o ask b begun beg.ticks beg.every g.made _ g.run;
  }

-- the state after set-up
pub begun_by : {V O : Type 0} {s : Scale V} {p : Plan} {memory : List V} {x : Monitor V} {o : O} → SetUp s p memory x → Begun s p memory o (state_of x o)
begun_by {s = s} e = record { plan = e.plan; ticks = (e.every (λ n c. s.lowest)).ticks; every = e.every; lent = e.lent; outbox = refl }
