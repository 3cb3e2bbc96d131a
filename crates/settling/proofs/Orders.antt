-- Equal values by their order, and a later kind's value between the two ends of the scale. Assumes nothing.
use Rattle.std.proofs.Common.{◌≡◌, ℕ, ◌+◌, Bool, true, false, sym, subst, subst₂, arith}
use Rattle.std.proofs.lemmas.Bool.{true≢false, and_parts, and_from}
use Rattle.scale.specs.Order.{Scale, AtMost, same, Lattice}
use Rattle.table.specs.declared.kind.Kind.{Kind}
use Rattle.table.specs.declared.kind.Kind.TheVariants.{Sample, Not, And, Or, Within, Always, Until, Once, Held, Since}
use Rattle.table.specs.Accepting.{Fits}
use Rattle.table.specs.Kinds.{shape, at_once, turned}
use Rattle.table.specs.Values.{least, value}
use Rattle.settling.specs.Formulas.{Rises}
use Rattle.settling.proofs.Ranges.{greatest_over, greatest_under, least_below, least_above}

module _ {V : Type 0} {s : Scale V} (o : Lattice s) where
  pub same_equal : (a b : V) → same s a b ≡ true → a ≡ b
  same_equal a b h = o.antisym a b (and_parts _ _ h).0 (and_parts _ _ h).1

  pub equal_same : (a b : V) → a ≡ b → same s a b ≡ true
  equal_same a b e = subst (λ x. same s a x ≡ true) e (and_from _ _ (o.reflexive a) (o.reflexive a))

  pub at_most_equal : (a b : V) → a ≡ b → AtMost s a b
  at_most_equal a b e = subst (AtMost s a) e (o.reflexive a)

  -- what lies between equal values is equal to them
  pub between : (t : Bool) (a b c : V) → Rises s t a b → Rises s t b c → a ≡ c → b ≡ a
  between true a b c p q e = o.antisym b a p (subst (λ x. AtMost s x b) (sym e) q)
  between false a b c p q e = o.antisym b a (subst (AtMost s b) (sym e) q) p

  pub rises_both : (t : Bool) (a b : V) → Rises s t a b → Rises s t b a → a ≡ b
  rises_both true a b p q = o.antisym a b q p
  rises_both false a b p q = o.antisym a b p q

  pub rises_equal : (t : Bool) (a b : V) → a ≡ b → Rises s t a b
  rises_equal true a b e = at_most_equal b a (sym e)
  rises_equal false a b e = at_most_equal a b e

  ends_differ : AtMost s s.highest s.lowest → ⊥
  ends_differ h = o.differ (o.antisym _ _ (o.low _) h)

  squeezed : (a b : V) → AtMost s s.highest a → AtMost s a b → AtMost s b s.lowest → ⊥
  squeezed a b p h q = ends_differ (o.trans _ _ _ p (o.trans _ _ _ h q))

  -- with lowest everywhere and with highest everywhere a later kind has different values
  pub apart : (k : Kind) (c from to : ℕ) (σ : ℕ → ℕ → V) (i : ℕ) → at_once k ≡ false → Fits (shape k).sort from to → let lo : ℕ → V = λ p. s.lowest in let hi : ℕ → V = λ p. s.highest in Rises s (turned k) (value s k c from to σ hi hi i) (value s k c from to σ lo lo i) → ⊥
  unfolding value
  apart Sample c from to σ i e fits h = absurd (true≢false e)
  apart Not c from to σ i e fits h = ends_differ (subst₂ (AtMost s) (o.back _) (o.back _) (o.turns _ _ h))
  apart And c from to σ i e fits h = squeezed _ _ (o.lesser_most _ _ _ (o.reflexive _) (o.reflexive _)) h (o.lesser_left _ _)
  apart Or c from to σ i e fits h = squeezed _ _ (o.greater_left _ _) h (o.greater_least _ _ _ (o.reflexive _) (o.reflexive _))
  apart Within c from to σ i e fits h =
      squeezed _ _
      (greatest_over o (λ p. s.highest) _ _ (i + from) (omega arith) (omega arith)) h (greatest_under o _ _ _ _ (λ p a b. o.reflexive _))
  apart Always c from to σ i e fits h =
      squeezed _ _
      (least_above o _ _ _ _ (λ p a b. o.reflexive _)) h (least_below o (λ p. s.lowest) _ _ (i + from) (omega arith) (omega arith))
  apart Until c from to σ i e fits h =
      let hi : ℕ → V = λ p. s.highest in
      squeezed _ _
      (o.trans _ _ _
      (o.lesser_most _ _ _ (o.reflexive _) (least_above o hi (i + from) (i + from) _ (λ p a b. o.reflexive _)))
      (greatest_over o (λ j. s.lesser (hi (i + j)) (least s (i + from) (i + j) hi)) from (to + 1) from (omega arith) (omega arith)))
      h
      (greatest_under o _ from (to + 1) _ (λ p a b. o.lesser_left _ _))
  apart Once c from to σ i e fits h = absurd (true≢false e)
  apart Held c from to σ i e fits h = absurd (true≢false e)
  apart Since c from to σ i e fits h = absurd (true≢false e)
