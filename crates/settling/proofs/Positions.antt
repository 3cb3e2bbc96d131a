-- The records of consecutive positions tell each of them once, in order and with its verdict. Assumes nothing.
use Rattle.std.proofs.Common.{◌≡◌, ℕ, zero, suc, ◌+◌, ◌-◌, ◌<◌, ◌≤◌, List, [], ◌∷◌, ◌++◌, map, sym, refl, ap, ◌∙◌, ap₂, ⊎_elim, arith}
use Rattle.std.specs.List.{range_with_len, flat_map, AllByRecursion}
use Rattle.std.proofs.ByRecursion.{All-weaker}
use Rattle.std.proofs.lemmas.Bool.{cases_lt, cond_both}
use Rattle.scale.specs.Order.{Scale, Lattice, same}
use Rattle.record.specs.declared.Record.{Record}
use Rattle.table.specs.Tables.{Table, rule_node}
use Rattle.settling.specs.Records.{alone, spanning, in_front, runs, newly_settled, rule_records}
use Rattle.settling.specs.Settled.{settled, verdict}
use Rattle.settling.specs.Telling.{told}
use Rattle.settling.proofs.Lists.{map_same, map_parts}
use Rattle.settling.proofs.Orders.{same_equal}

-- a record of rule r with the verdicts v, issued at tick n
pub record Run {V : Type 0} (r n : ℕ) (v : ℕ → V) (y : Record V) : Type 0 where
  pub rule : y.rule ≡ r
  pub lag : y.lag ≡ n - y.first
  pub order : y.first ≤ y.last
  pub values : (p : ℕ) → y.first ≤ p → p ≤ y.last → v p ≡ y.value

-- such records one after the other, from position a up to the one before b
abbrev pub Tell : {V : Type 0} → (r n : ℕ) → (ℕ → V) → (a b : ℕ) → List (Record V) → Type 0
Tell r n v a b [] = a ≡ b
Tell r n v a b (y ∷ ys) = Run r n v y × (y.first ≡ a) × Tell r n v (suc y.last) b ys

-- such a record within those positions
abbrev pub Inside : {V : Type 0} → (r n : ℕ) → (ℕ → V) → (a b : ℕ) → Record V → Type 0
Inside r n v a b y = Run r n v y × (a ≤ y.first) × (y.last < b)

module _ {V : Type 0} {s : Scale V} (o : Lattice s) (r n : ℕ) (v : ℕ → V) where
  run_alone : (p : ℕ) → Run r n v (alone r n v p)
  run_alone p = record { rule = refl; lag = refl; order = omega arith; values = λ q i j. let here : q ≡ p = omega arith in ap v here }

  run_spanning : (p : ℕ) (y : Record V) → Run r n v y → y.first ≡ p + 1 → v p ≡ y.value → Run r n v (spanning (alone r n v p) y)
  run_spanning p y run next equal = record {
    rule = refl;
    lag = refl;
    order = omega (arith, run.order);
    values = λ q i j.
        ⊎_elim (λ lt. run.values q (omega arith) j ∙ sym equal) (λ ge. let here : q ≡ p = omega arith in ap v here) (cases_lt p q);
  }

  tell_in_front : (p b : ℕ) (ys : List (Record V)) → Tell r n v (p + 1) b ys → Tell r n v p b (in_front s (alone r n v p) ys)
  tell_in_front p b [] t = (run_alone p, refl, omega arith)
  tell_in_front p b (y ∷ ys) t =
      cond_both (same s (v p) y.value) _ _ (Tell r n v p b)
      (λ e. (run_spanning p y t.0 t.1 (same_equal o _ _ e), refl, t.2))
      (λ e. let here : p + 1 ≡ suc p = omega arith in (run_alone p, refl, (t.0, t.1 ∙ here, t.2)))

  -- the runs tell all their positions
  pub tell_runs : (a c b : ℕ) → a + c ≡ b → Tell r n v a b (runs s r n v a c)
  tell_runs a zero b e = omega arith
  tell_runs a (suc c) b e = tell_in_front a b (runs s r n v (a + 1) c) (tell_runs (a + 1) c b (omega arith))

  tell_order : (a b : ℕ) (ys : List (Record V)) → Tell r n v a b ys → a ≤ b
  tell_order a b [] t = omega arith
  tell_order a b (y ∷ ys) t = omega (arith, t.0.order, t.1, tell_order (suc y.last) b ys t.2)

  -- each with its verdict, once and in order
  pub told_tell : (a b : ℕ) (ys : List (Record V)) → Tell r n v a b ys → flat_map told ys ≡ map (λ p. (p, v p)) (range_with_len a (b - a))
  told_tell a b [] t = let none : 0 ≡ b - a = omega arith in ap (λ c. map (λ p. (p, v p)) (range_with_len a c)) none
  told_tell a b (y ∷ ys) t =
      let run = t.0 in
      let pair : ℕ → ℕ × V = λ p. (p, v p) in
      let c = suc y.last - y.first in
      let le = tell_order (suc y.last) b ys t.2 in
      ap₂ (λ l m. l ++ m)
      (map_same (λ p. (p, y.value)) pair y.first c (λ p i j. ap (λ w. (p, w)) (sym (run.values p i (omega (arith, run.order)))))
      ∙ ap (λ i. map pair (range_with_len i c)) t.1)
      (told_tell (suc y.last) b ys t.2)
      ∙ sym (map_parts pair a c (b - suc y.last) (suc y.last) (b - a) (omega (arith, run.order, t.1)) (omega (arith, run.order, t.1)))

  -- each lies within the positions told
  pub all_tell : (a b : ℕ) (ys : List (Record V)) → Tell r n v a b ys → AllByRecursion (Inside r n v a b) ys
  all_tell a b [] t = tt
  all_tell a b (y ∷ ys) t =
      let run = t.0 in
      let le = tell_order (suc y.last) b ys t.2 in (
        (run, omega (arith, t.1), omega arith),
        All-weaker (Inside r n v (suc y.last) b) (Inside r n v a b) (λ z q. (q.0, omega (arith, q.1, run.order, t.1), q.2)) ys (all_tell (suc y.last) b ys t.2),
      )

-- what tick n tells of rule r is of rule r
pub of_one_rule : {V : Type 0} {s : Scale V} (o : Lattice s) (σ : ℕ → ℕ → V) (n : ℕ) (t : Table) (r : ℕ) → AllByRecursion (λ y. y.rule ≡ r) (rule_records s σ n t r)
of_one_rule {s = s} o σ n t r =
    let k = rule_node t r in
    let v = verdict s σ (suc n) t k in
    let c = settled s σ n t k in
    let d = newly_settled s σ n t r in
    All-weaker _ _ (λ y q. q.0.rule) (rule_records s σ n t r) (all_tell o r n v c (c + d) _ (tell_runs o r n v c d _ refl))
