-- The records of a rule tell each settled position once, with its value, and close counts them. Assumes nothing.
use Rattle.std.proofs.Common.{◌≡◌, ℕ, zero, suc, ◌+◌, ◌-◌, ◌<◌, ◌≤◌, List, [], ◌∷◌, ◌++◌, map, length, get_or, filter, sym, refl, ap, ◌∙◌, subst, ap₂, ⊎_elim, append-nil, arith}
use Rattle.std.specs.List.{range_with_len, flat_map, AllByRecursion}
use Rattle.std.proofs.lemmas.List.FromFn.{length-map-range_with_len}
use Rattle.std.proofs.lemmas.List.Elements.{filter-append}
use Rattle.std.proofs.lemmas.Bool.{cases_eq, cond-true, cond-false, eq-eqb, ne_eqb}
use Rattle.scale.specs.Order.{Scale, Lattice}
use Rattle.record.specs.declared.Record.{Record}
use Rattle.table.specs.Accepting.{Accepted}
use Rattle.table.specs.Tables.{Table, rule_node}
use Rattle.table.specs.Values.{val}
use Rattle.settling.specs.Records.{newly_settled, rule_records, tick_records, expected}
use Rattle.settling.specs.Settled.{settled, verdict}
use Rattle.settling.specs.Telling.{of_rule, told, told_of, ToldOnce, Totalled}
use Rattle.settling.specs.Totals.{rule_total, totals}
use Rattle.settling.proofs.Bounding.{bounded}
use Rattle.settling.proofs.Lasting.{lasting, agree_itself}
use Rattle.settling.proofs.Lists.{map_same, map_parts, joined_append, joined_next}
use Rattle.settling.proofs.Positions.{tell_runs, told_tell, of_one_rule}
use Rattle.settling.proofs.Soundness.{sound}

-- one tick more
pub expected_next : {V : Type 0} (s : Scale V) (σ : ℕ → ℕ → V) (n : ℕ) (t : Table) → expected s σ (suc n) t ≡ expected s σ n t ++ tick_records s σ n t
unfolding expected
expected_next s σ n t = joined_next (λ n. tick_records s σ n t) 0 n n (omega arith)

-- of lists of records that each have one rule, one has rule j
module _ {V : Type 0} (f : ℕ → List (Record V)) (own : (r : ℕ) → AllByRecursion (λ y. y.rule ≡ r) (f r)) (j : ℕ) where
  all_kept : (ys : List (Record V)) → AllByRecursion (λ y. y.rule ≡ j) ys → filter (of_rule j) ys ≡ ys
  all_kept [] h = refl
  all_kept (y ∷ ys) h = cond-true _ _ _ (eq-eqb _ _ h.0) ∙ ap (λ l. y ∷ l) (all_kept ys h.1)

  none_kept : (r : ℕ) (ys : List (Record V)) → (r ≡ j → ⊥) → AllByRecursion (λ y. y.rule ≡ r) ys → filter (of_rule j) ys ≡ []
  none_kept r [] d h = refl
  none_kept r (y ∷ ys) d h = cond-false _ _ _ (ne_eqb _ _ (λ e. d (sym h.0 ∙ e))) ∙ none_kept r ys d h.1

  later_rules : (a c : ℕ) → j < a → filter (of_rule j) (flat_map f (range_with_len a c)) ≡ []
  later_rules a zero h = refl
  later_rules a (suc c) h =
      filter-append _ (f a) (flat_map f (range_with_len (a + 1) c))
      ∙ ap₂ (λ l m. l ++ m) (none_kept a (f a) (omega arith) (own a)) (later_rules (a + 1) c (omega arith))

  kept_own : (a c : ℕ) → a ≤ j → j < a + c → filter (of_rule j) (flat_map f (range_with_len a c)) ≡ f j
  kept_own a zero h i = absurd (omega arith)
  kept_own a (suc c) h i =
      filter-append _ (f a) (flat_map f (range_with_len (a + 1) c))
      ∙ ⊎_elim
      (λ e.
      ap₂ (λ l m. l ++ m) (all_kept (f a) (subst (λ q. AllByRecursion (λ y. y.rule ≡ q) (f a)) e (own a))) (later_rules (a + 1) c (omega arith))
      ∙ append-nil (f a)
      ∙ ap f e)
      (λ d. ap₂ (λ l m. l ++ m) (none_kept a (f a) d (own a)) (kept_own (a + 1) c (omega arith) (omega arith)))
      (cases_eq a j)

module _ {V : Type 0} {s : Scale V} (o : Lattice s) (σ : ℕ → ℕ → V) (n : ℕ) (t : Table) where
  -- what a tick tells of a rule
  pub kept_of_rule : (r : ℕ) → r < length t.rules → filter (of_rule r) (tick_records s σ n t) ≡ rule_records s σ n t r
  unfolding tick_records
  kept_of_rule r h = kept_own (rule_records s σ n t) (of_one_rule o σ n t) r 0 (length t.rules) (omega arith) (omega arith)

module _ {V : Type 0} {s : Scale V} (o : Lattice s) {t : Table} (a : Accepted t) (σ : ℕ → ℕ → V) (r : ℕ) (h : r < length t.rules) where
  abbrev k : ℕ
  k = rule_node t r

  abbrev with_value : ℕ → ℕ × V
  with_value p = (p, val s σ t k p)

  -- from what was settled to what is settled
  told_by_tick : (n : ℕ) → let c = settled s σ n t k in told_of r (tick_records s σ n t) ≡ map with_value (range_with_len c (settled s σ (suc n) t k - c))
  told_by_tick n =
      let c = settled s σ n t k in
      let b = settled s σ (suc n) t k in
      let v = verdict s σ (suc n) t k in
      let up = (lasting s o t a σ n k (a.rules_fit r h)).0 in
      ap (flat_map told) (kept_of_rule o σ n t r h)
      ∙ told_tell o r n v c b (rule_records s σ n t r) (tell_runs o r n v c (newly_settled s σ n t r) b (omega arith))
      ∙ map_same (λ p. (p, v p)) with_value c (b - c) (λ p i j. ap (λ w. (p, w)) (sound s o t a σ σ (suc n) (agree_itself (suc n) t σ) k p (a.rules_fit r h) (omega arith)))

  told_all : (m : ℕ) → told_of r (expected s σ m t) ≡ map with_value (range_with_len 0 (settled s σ m t k))
  unfolding expected
  told_all zero =
      let none : 0 ≡ settled s σ 0 t k = omega (arith, (bounded s o t a σ 0 k (a.rules_fit r h)).1) in
      ap (λ c. map with_value (range_with_len 0 c)) none
  told_all (suc n) =
      let c = settled s σ n t k in
      let b = settled s σ (suc n) t k in
      let up = (lasting s o t a σ n k (a.rules_fit r h)).0 in
      ap (told_of r) (expected_next s σ n t)
      ∙ ap (flat_map told) (filter-append (of_rule r) (expected s σ n t) (tick_records s σ n t))
      ∙ joined_append told (filter (of_rule r) (expected s σ n t)) (filter (of_rule r) (tick_records s σ n t))
      ∙ ap₂ (λ l m. l ++ m) (told_all n) (told_by_tick n)
      ∙ sym (map_parts with_value 0 c (b - c) c b (omega arith) (omega arith))

pub told_once : {V : Type 0} → ToldOnce V
told_once s o t a σ m r h = told_all o a σ r h m

pub totalled : {V : Type 0} → Totalled V
totalled s o t a σ m r d h =
    let k = rule_node t r in
    let is : get_or (totals s σ m t).rules r d ≡ rule_total m (settled s σ m t k) = get_d_map t.rules r h in
    let pair : ℕ → ℕ × _ = λ p. (p, val s σ t k p) in
    let long : length (map pair (range_with_len 0 (settled s σ m t k))) ≡ settled s σ m t k = length-map-range_with_len pair 0 (settled s σ m t k) in
    let most = (bounded s o t a σ m k (a.rules_fit r h)).1 in
    subst (λ x. (x.settled ≡ length (told_of r (expected s σ m t))) × (x.settled + x.«open» ≡ m)) (sym is)
    (sym (ap length (told_once s o t a σ m r h) ∙ long), omega arith)
  where
    get_d_map : (ks : List ℕ) (r : ℕ) → r < length ks → get_or (map (λ k. rule_total m (settled s σ m t k)) ks) r d ≡ rule_total m (settled s σ m t (get_or ks r 0))
    get_d_map [] r lt = absurd (omega arith)
    get_d_map (k ∷ ks) zero lt = refl
    get_d_map (k ∷ ks) (suc r) lt = get_d_map ks r (omega arith)
