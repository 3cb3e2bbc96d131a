-- What rows answer, by the tick and the sample that are asked. Assumes nothing.
use Rattle.std.proofs.Common.{◌≡◌, ℕ, ◌<◌, ◌≤◌, Ok, Err, sym, ap, ◌∙◌, ⊎_elim, arith}
use Rattle.std.proofs.lemmas.Bool.{cases_lt, cond-true, cond-false, le-leb, lt-leb}
use Rattle.source.specs.declared.fault.Refusal.TheVariants.{PastLength, PastWidth}
use Rattle.source.specs.Faults.{refused_with}
use Rattle.source.specs.Frames.{Frames, unless, answer}

module _ {V : Type 0} (l : ℕ) (f : Frames V) (n c : ℕ) where
  pub past_length : f.long ≤ n → answer l f n c ≡ Err (refused_with PastLength l n c)
  past_length h = ap (λ o. unless o (f.holds n c)) (cond-true _ _ _ (le-leb f.long n h))

  pub past_width : n < f.long → f.wide ≤ c → answer l f n c ≡ Err (refused_with PastWidth l n c)
  past_width h w = ap (λ o. unless o (f.holds n c)) (cond-false _ _ _ (lt-leb f.long n h) ∙ cond-true _ _ _ (le-leb f.wide c w))

  pub inside : n < f.long → c < f.wide → answer l f n c ≡ f.holds n c
  inside h w = ap (λ o. unless o (f.holds n c)) (cond-false _ _ _ (lt-leb f.long n h) ∙ cond-false _ _ _ (lt-leb f.wide c w))

  -- a value is answered only inside
  only_inside : (v : V) → answer l f n c ≡ Ok v → (n < f.long) × (c < f.wide)
  only_inside v is =
      ⊎_elim
      (λ h.
      ⊎_elim
      (λ w. (h, w))
      (λ w. let no : Err (refused_with PastWidth l n c) ≡ Ok v = sym (past_width h w) ∙ is in let z : ◌≡◌ {A = ℕ} 0 1 = cc in absurd (omega arith))
      (cases_lt c f.wide))
      (λ h. let no : Err (refused_with PastLength l n c) ≡ Ok v = sym (past_length h) ∙ is in let z : ◌≡◌ {A = ℕ} 0 1 = cc in absurd (omega arith))
      (cases_lt n f.long)

  pub below_long : (v : V) → answer l f n c ≡ Ok v → n < f.long
  below_long v is = (only_inside v is).0

  pub below_wide : (v : V) → answer l f n c ≡ Ok v → c < f.wide
  below_wide v is = (only_inside v is).1
