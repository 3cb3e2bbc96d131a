-- Each value is what its kind means. Assumes nothing.
use Rattle.std.proofs.Common.{ℕ, ◌+◌, ◌-◌, ◌<◌, ◌≤◌, min, sym, refl, subst, arith}
use Rattle.scale.specs.Order.{Scale, Lattice}
use Rattle.table.specs.declared.kind.Kind.{Kind}
use Rattle.table.specs.declared.kind.Kind.TheVariants.{Sample, Not, And, Or, Within, Always, Until, Once, Held, Since}
use Rattle.table.specs.Meaning.{Greatest, Least, Means}
use Rattle.table.specs.Tables.{node}
use Rattle.table.specs.Values.{greatest, least, value, val}
use Rattle.settling.specs.Formulas.{Meant}
use Rattle.settling.proofs.Ranges.{greatest_over, greatest_under, least_below, least_above}
use Rattle.settling.proofs.Nodes.{val_is}

module _ {V : Type 0} {s : Scale V} (o : Lattice s) where
  -- where P is to be from a on and before b
  the_greatest : (P : ℕ → Type 0) (f : ℕ → V) (a b : ℕ) → ((p : ℕ) → P p → (a ≤ p) × (p < b)) → ((p : ℕ) → a ≤ p → p < b → P p) → Greatest s P f (greatest s a b f)
  the_greatest P f a b into out = (λ p h. greatest_over o f a b p (into p h).0 (into p h).1, λ x h. greatest_under o f a b x (λ p i j. h p (out p i j)))

  the_least : (P : ℕ → Type 0) (f : ℕ → V) (a b : ℕ) → ((p : ℕ) → P p → (a ≤ p) × (p < b)) → ((p : ℕ) → a ≤ p → p < b → P p) → Least s P f (least s a b f)
  the_least P f a b into out = (λ p h. least_below o f a b p (into p h).0 (into p h).1, λ x h. least_above o f a b x (λ p i j. h p (out p i j)))

  means : (k : Kind) (c from to : ℕ) (σ : ℕ → ℕ → V) (l r : ℕ → V) (i : ℕ) → Means s k c from to σ l r i (value s k c from to σ l r i)
  unfolding value
  means Sample c from to σ l r i = refl
  means Not c from to σ l r i = refl
  means And c from to σ l r i = refl
  means Or c from to σ l r i = refl
  means Within c from to σ l r i = the_greatest _ l _ _ (λ p h. omega arith) (λ p a b. omega arith)
  means Always c from to σ l r i = the_least _ l _ _ (λ p h. omega arith) (λ p a b. omega arith)
  means Until c from to σ l r i = (
    λ j. least s (i + from) (i + j) l,
    λ j. the_least _ l _ _ (λ p h. omega arith) (λ p a b. omega arith),
    the_greatest _ (λ j. s.lesser (r (i + j)) (least s (i + from) (i + j) l)) from (to + 1) (λ p h. omega arith) (λ p a b. omega arith),
  )
  means Once c from to σ l r i = the_greatest _ l _ _ (λ p h. omega arith) (λ p a b. omega arith)
  means Held c from to σ l r i = the_least _ l _ _ (λ p h. omega arith) (λ p a b. omega arith)
  means Since c from to σ l r i = (
    λ j. least s (i - j + 1) (i + 1) l,
    λ j back. the_least _ l _ _ (λ p h. omega arith) (λ p a b. omega arith),
    the_greatest _ (λ j. s.lesser (r (i - j)) (least s (i - j + 1) (i + 1) l)) from (min to i + 1) (λ p h. omega arith) (λ p a b. omega arith),
  )

pub meant : {V : Type 0} → Meant V
meant = record {
  formulas = λ s o. means o;
  nodes = λ s o t a σ k i h.
      let x = node t k in
      subst (Means s x.kind x.left x.from x.to σ (val s σ t x.left) (val s σ t x.right) i) (sym (val_is a k h s σ i))
      (means o x.kind x.left x.from x.to σ (val s σ t x.left) (val s σ t x.right) i);
}
