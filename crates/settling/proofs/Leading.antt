-- How many leading numbers pass a test: all before pass it, and the next does not. Assumes nothing.
use Rattle.std.proofs.Common.{◌≡◌, ℕ, zero, suc, ◌+◌, ◌<◌, ◌≤◌, Bool, true, false, cond, refl, subst, ap₂, ⊎_elim, arith}
use Rattle.std.specs.List.{range_with_len, prefix_len}
use Rattle.std.proofs.lemmas.Bool.{both_ways, cases_Bool, cases_lt, cond-true, cond-false}

module _ (t : ℕ → Bool) where
  -- from a on
  taken : (a m : ℕ) → t a ≡ true → prefix_len t (range_with_len a (suc m)) ≡ 1 + prefix_len t (range_with_len (a + 1) m)
  taken a m e = cond-true (t a) _ 0 e

  none : (a m : ℕ) → t a ≡ false → prefix_len t (range_with_len a (suc m)) ≡ 0
  none a m e = cond-false (t a) _ 0 e

  most : (a m : ℕ) → prefix_len t (range_with_len a m) ≤ m
  most a zero = omega arith
  most a (suc m) = ⊎_elim (λ e. omega (arith, taken a m e, most (a + 1) m)) (λ e. omega (arith, none a m e)) (cases_Bool (t a))

  pass : (a m p : ℕ) → a ≤ p → p < a + prefix_len t (range_with_len a m) → t p ≡ true
  pass a zero p from h = absurd (omega arith)
  pass a (suc m) p from h =
      ⊎_elim
      (λ e.
      let more = taken a m e in
      ⊎_elim
      (λ lt. pass (a + 1) m p (omega arith) (omega arith))
      (λ ge. let here : a ≡ p = omega arith in subst (λ q. t q ≡ true) here e)
      (cases_lt a p))
      (λ e. absurd (omega (arith, none a m e)))
      (cases_Bool (t a))

  least : (a m c : ℕ) → c ≤ m → ((p : ℕ) → a ≤ p → p < a + c → t p ≡ true) → c ≤ prefix_len t (range_with_len a m)
  least a m zero h all = omega arith
  least a zero (suc c) h all = absurd (omega arith)
  least a (suc m) (suc c) h all =
      omega (arith, taken a m (all a (omega arith) (omega arith)), least (a + 1) m c (omega arith) (λ p i j. all p (omega arith) (omega arith)))

  pub leading_most : (m : ℕ) → prefix_len t (range_with_len 0 m) ≤ m
  leading_most = most 0

  -- those before the first that fails pass
  pub leading_pass : (m p : ℕ) → p < prefix_len t (range_with_len 0 m) → t p ≡ true
  leading_pass m p h = pass 0 m p (omega arith) (omega arith)

  -- as many as pass, if no other fails before them
  pub leading_least : (m c : ℕ) → c ≤ m → ((p : ℕ) → p < c → t p ≡ true) → c ≤ prefix_len t (range_with_len 0 m)
  leading_least m c h all = least 0 m c h (λ p i j. all p (omega arith))

  -- where a search upward stops
  pub leading_stop : (m c : ℕ) → c ≤ m → ((p : ℕ) → p < c → t p ≡ true) → (c < m → t c ≡ false) → prefix_len t (range_with_len 0 m) ≡ c
  leading_stop m c h all stop =
      ⊎_elim
      (λ lt. absurd (both_ways (t c) (stop (omega (arith, leading_most m))) (leading_pass m c lt)))
      (λ ge. omega (arith, leading_least m c h all))
      (cases_lt c (prefix_len t (range_with_len 0 m)))

  -- the next after them fails
  pub leading_fails : (m : ℕ) → prefix_len t (range_with_len 0 m) < m → t (prefix_len t (range_with_len 0 m)) ≡ false
  leading_fails m h =
      let c = prefix_len t (range_with_len 0 m) in
      ⊎_elim
      (λ e. absurd (omega (
        arith,
        leading_least m (suc c) h (λ p i.
            ⊎_elim (λ lt. leading_pass m p lt) (λ ge. let here : c ≡ p = omega arith in subst (λ q. t q ≡ true) here e) (cases_lt p c)),
      )))
      (λ e. e)
      (cases_Bool (t c))

pub leading_same : (t u : ℕ → Bool) (a m : ℕ) → ((i : ℕ) → t i ≡ u i) → prefix_len t (range_with_len a m) ≡ prefix_len u (range_with_len a m)
leading_same t u a zero h = refl
leading_same t u a (suc m) h = ap₂ (λ b c. cond b (1 + c) 0) (h a) (leading_same t u (a + 1) m h)
