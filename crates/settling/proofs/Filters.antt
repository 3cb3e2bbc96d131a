-- The numbers of a range that pass a test: which they are, that they rise, and how many there may be. Assumes nothing.
use Rattle.std.proofs.Common.{◌≡◌, ℕ, zero, suc, ◌+◌, ◌<◌, ◌≤◌, Bool, true, false, List, [], ◌∷◌, length, filter, sym, subst, ⊎_elim, arith}
use Rattle.std.specs.List.{range_with_len, ContainsAt as Has, AllByRecursion}
use Rattle.std.proofs.lemmas.List.FromFn.{length-range_with_len}
use Rattle.std.proofs.ByRecursion.{All-weaker, all_kept_by}
use Rattle.std.proofs.lemmas.List.Sums.{length-filter, count_by-le-length}
use Rattle.std.proofs.lemmas.Bool.{cases_Bool, cases_eq, cond-true, cond-false}
use Rattle.settling.proofs.Neighbours.{Linked}

module _ (test : ℕ → Bool) where
  abbrev pub passed : ℕ → ℕ → List ℕ
  passed a c = filter test (range_with_len a c)

  here : (a c : ℕ) → test a ≡ true → passed a (suc c) ≡ a ∷ passed (a + 1) c
  here a c e = cond-true _ _ _ e

  not_here : (a c : ℕ) → test a ≡ false → passed a (suc c) ≡ passed (a + 1) c
  not_here a c e = cond-false _ _ _ e

  pub in_range : (a c : ℕ) → AllByRecursion (λ p. (a ≤ p) × (p < a + c)) (range_with_len a c)
  in_range a zero = tt
  in_range a (suc c) = (omega arith, All-weaker _ _ (λ p h. omega arith) (range_with_len (a + 1) c) (in_range (a + 1) c))

  pub has_passed : (a c p : ℕ) → a ≤ p → p < a + c → test p ≡ true → Has (passed a c) p
  has_passed a zero p from to e = absurd (omega arith)
  has_passed a (suc c) p from to e =
      ⊎_elim
      (λ eq. subst (λ l. Has l p) (sym (here a c (subst (λ q. test q ≡ true) (sym eq) e))) (0, omega arith, λ d. eq))
      (λ ne.
      let rest = has_passed (a + 1) c p (omega (arith, ne)) (omega arith) e in
      ⊎_elim
      (λ f. subst (λ l. Has l p) (sym (here a c f)) (suc rest.0, omega (arith, rest.1), rest.2))
      (λ f. subst (λ l. Has l p) (sym (not_here a c f)) rest)
      (cases_Bool (test a)))
      (cases_eq a p)

  pub few_passed : (a c w : ℕ) → ((p : ℕ) → a ≤ p → p < a + c → test p ≡ true → a + c ≤ p + w) → length (passed a c) ≤ w
  few_passed a zero w h = omega arith
  few_passed a (suc c) w h =
      ⊎_elim
      (λ e.
      omega (
        arith,
        h a (omega arith) (omega arith) e,
        length-filter test (range_with_len a (suc c)),
        count_by-le-length test (range_with_len a (suc c)),
        length-range_with_len a (suc c),
      ))
      (λ e. subst (λ l. length l ≤ w) (sym (not_here a c e)) (few_passed (a + 1) c w (λ p i j f. omega (arith, h p (omega arith) (omega arith) f))))
      (cases_Bool (test a))

  pub upward : (a c : ℕ) → Linked (λ p q. p < q) (passed a c)
  upward a zero = tt
  upward a (suc c) =
      ⊎_elim
      (λ e. subst (Linked (λ p q. p < q)) (sym (here a c e)) (after (passed (a + 1) c) (all_kept_by test _ _ (in_range (a + 1) c)) (upward (a + 1) c)))
      (λ e. subst (Linked (λ p q. p < q)) (sym (not_here a c e)) (upward (a + 1) c))
      (cases_Bool (test a))
    where
      after : (l : List ℕ) → AllByRecursion (λ p. (a + 1 ≤ p) × (p < a + 1 + c)) l → Linked (λ p q. p < q) l → Linked (λ p q. p < q) (a ∷ l)
      after [] all up = tt
      after (p ∷ l) all up = (omega (arith, all.0), up)
