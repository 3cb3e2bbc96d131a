-- What a source answers to a question that does not lie outside. Assumes nothing.
use Rattle.std.proofs.Common.{◌≡◌, ℕ, ◌<◌, None, ap, arith}
use Rattle.std.proofs.lemmas.Bool.Decides.{nat_tests}
use Rattle.source.specs.Frames.{Frames, outside, unless, answer}

module _ {V : Type 0} (l : ℕ) (f : Frames V) (t k : ℕ) (inside : None ≡ outside l f.long f.wide t k) where
  pub answers : f.holds t k ≡ answer l f t k
  answers = ap (λ o. unless o (f.holds t k)) inside

  pub in_length : t < f.long
  in_length = grind (arith, nat_tests)

  pub in_width : k < f.wide
  in_width = grind (arith, nat_tests)
