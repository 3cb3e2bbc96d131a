-- Each formula again, by what it is the greatest and the least of, over exactly which positions. Assumes nothing.
use Rattle.std.specs.Prelude.{◌≡◌, ℕ, ◌+◌, ◌-◌, ◌<◌, ◌≤◌}
use Rattle.scale.specs.Order.{Scale, AtMost}
use Rattle.table.specs.declared.kind.Kind.{Kind}
use Rattle.table.specs.declared.kind.Kind.TheVariants.{Sample, Not, And, Or, Within, Always, Until, Once, Held, Since}

module _ {V : Type 0} (s : Scale V) where
  -- v is the greatest of f at the numbers of P: no less than any of them, and no more than whatever is no less than any
  abbrev pub Greatest : (ℕ → Type 0) → (ℕ → V) → V → Type 0
  Greatest P f v = ((j : ℕ) → P j → AtMost s (f j) v) × ((x : V) → ((j : ℕ) → P j → AtMost s (f j) x) → AtMost s v x)

  abbrev pub Least : (ℕ → Type 0) → (ℕ → V) → V → Type 0
  Least P f v = ((j : ℕ) → P j → AtMost s v (f j)) × ((x : V) → ((j : ℕ) → P j → AtMost s x (f j)) → AtMost s x v)

  -- what v has to be as the value at position i
  abbrev pub Means : Kind → (sample from to : ℕ) → (ℕ → ℕ → V) → (left right : ℕ → V) → ℕ → V → Type 0
  Means Sample c from to σ l r i v = v ≡ σ i c
  Means Not c from to σ l r i v = v ≡ s.reversed (l i)
  Means And c from to σ l r i v = v ≡ s.lesser (l i) (r i)
  Means Or c from to σ l r i v = v ≡ s.greater (l i) (r i)
  Means Within c from to σ l r i v = Greatest (λ p. (i + from ≤ p) × (p ≤ i + to)) l v
  Means Always c from to σ l r i v = Least (λ p. (i + from ≤ p) × (p ≤ i + to)) l v
  Means Until c from to σ l r i v =
      (w : ℕ → V)
      × ((j : ℕ) → Least (λ p. (i + from ≤ p) × (p < i + j)) l (w j))
      × Greatest (λ j. (from ≤ j) × (j ≤ to)) (λ j. s.lesser (r (i + j)) (w j)) v
  Means Once c from to σ l r i v = Greatest (λ p. (p + from ≤ i) × (i ≤ p + to)) l v
  Means Held c from to σ l r i v = Least (λ p. (p + from ≤ i) × (i ≤ p + to)) l v
  Means Since c from to σ l r i v =
      (w : ℕ → V)
      × ((j : ℕ) → j ≤ i → Least (λ p. (i < p + j) × (p ≤ i)) l (w j))
      × Greatest (λ j. (from ≤ j) × (j ≤ to) × (j ≤ i)) (λ j. s.lesser (r (i - j)) (w j)) v
