-- For a loop over a range: the greatest and the least of nothing, and with one position more. Assumes nothing.
use Rattle.std.proofs.Common.{◌≡◌, ℕ, suc, ◌-◌, ◌<◌, ◌≤◌, ap, subst, ⊎_elim, arith}
use Rattle.std.proofs.lemmas.Bool.{cases_lt}
use Rattle.scale.specs.Order.{Scale, AtMost, Lattice}
use Rattle.table.specs.Values.{least_of, greatest, least}
use Rattle.settling.proofs.Ranges.{greatest_over, greatest_under, least_below, least_above}

module _ {V : Type 0} {s : Scale V} (o : Lattice s) where
  pub greatest_none : (f : ℕ → V) (a b : ℕ) → b ≤ a → greatest s a b f ≡ s.lowest
  greatest_none f a b h = o.antisym _ _ (greatest_under o f a b _ (λ p i j. absurd (omega arith))) (o.low _)

  pub least_none : (f : ℕ → V) (a b : ℕ) → b ≤ a → least s a b f ≡ s.highest
  least_none f a b h = o.antisym _ _ (o.high _) (least_above o f a b _ (λ p i j. absurd (omega arith)))

  -- one more at the end
  pub greatest_next : (f : ℕ → V) (a b : ℕ) → a ≤ b → greatest s a (suc b) f ≡ s.greater (greatest s a b f) (f b)
  greatest_next f a b h =
      o.antisym _ _
      (greatest_under o f a (suc b) _ (λ p i j.
      ⊎_elim
      (λ lt. o.trans _ _ _ (greatest_over o f a b p i lt) (o.greater_left _ _))
      (λ ge. let e : b ≡ p = omega arith in subst (λ q. AtMost s (f q) (s.greater (greatest s a b f) (f b))) e (o.greater_right _ _))
      (cases_lt p b)))
      (o.greater_least _ _ _ (greatest_under o f a b _ (λ p i j. greatest_over o f a (suc b) p i (omega arith))) (greatest_over o f a (suc b) b h (omega arith)))

  pub least_next : (f : ℕ → V) (a b : ℕ) → a ≤ b → least s a (suc b) f ≡ s.lesser (least s a b f) (f b)
  least_next f a b h =
      o.antisym _ _
      (o.lesser_most _ _ _ (least_above o f a b _ (λ p i j. least_below o f a (suc b) p i (omega arith))) (least_below o f a (suc b) b h (omega arith)))
      (least_above o f a (suc b) _ (λ p i j.
      ⊎_elim
      (λ lt. o.trans _ _ _ (o.lesser_left _ _) (least_below o f a b p i lt))
      (λ ge. let e : b ≡ p = omega arith in subst (λ q. AtMost s (s.lesser (least s a b f) (f b)) (f q)) e (o.lesser_right _ _))
      (cases_lt p b)))

-- one more in front
pub least_front : {V : Type 0} (s : Scale V) (f : ℕ → V) (a b : ℕ) → a < b → least s a b f ≡ s.lesser (f a) (least s (suc a) b f)
unfolding least_of
least_front s f a b h = let e : b - a ≡ suc (b - suc a) = omega arith in ap (λ n. least_of s f a n) e
