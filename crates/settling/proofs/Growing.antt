-- Larger operands give a larger value. Assumes nothing.
use Rattle.std.proofs.Common.{◌≡◌, ℕ, ◌+◌, ◌-◌, min, true, refl, arith}
use Rattle.scale.specs.Order.{Scale, AtMost, Lattice}
use Rattle.table.specs.declared.kind.Kind.{Kind}
use Rattle.table.specs.declared.kind.Kind.TheVariants.{Sample, Not, And, Or, Within, Always, Until, Once, Held, Since}
use Rattle.table.specs.declared.kind.Side.{Side}
use Rattle.table.specs.declared.kind.Side.TheVariants.{Left, Right}
use Rattle.table.specs.Accepting.{Fits}
use Rattle.table.specs.Kinds.{shape, past, binary, turned, opens, Span}
use Rattle.table.specs.Values.{value}
use Rattle.settling.specs.Formulas.{Rises, Monotone}
use Rattle.settling.proofs.Ranges.{greatest_grows, least_grows, lesser_grows, greater_grows}

module _ {V : Type 0} {s : Scale V} (o : Lattice s) where
  -- f is at most g wherever a node of kind k reads this side
  abbrev Beneath : Kind → Side → (from to i : ℕ) → (f g : ℕ → V) → Type 0
  Beneath k side from to i f g = (p : ℕ) → Span (past k) (opens k side from) to i p → AtMost s (f p) (g p)

  grows : (k : Kind) (c from to : ℕ) (σ : ℕ → ℕ → V) (l r l' r' : ℕ → V) (i : ℕ) → Fits (shape k).sort from to → Beneath k Left from to i l l' → (binary k ≡ true → Beneath k Right from to i r r') → Rises s (turned k) (value s k c from to σ l r i) (value s k c from to σ l' r' i)
  unfolding value
  grows Sample c from to σ l r l' r' i fits h k = o.reflexive _
  grows Not c from to σ l r l' r' i fits h k = o.turns _ _ (h i (omega arith))
  grows And c from to σ l r l' r' i fits h k = lesser_grows o _ _ _ _ (h i (omega arith)) (k refl i (omega arith))
  grows Or c from to σ l r l' r' i fits h k = greater_grows o _ _ _ _ (h i (omega arith)) (k refl i (omega arith))
  grows Within c from to σ l r l' r' i fits h k = greatest_grows o l l' _ _ (λ p a b. h p (omega arith))
  grows Always c from to σ l r l' r' i fits h k = least_grows o l l' _ _ (λ p a b. h p (omega arith))
  grows Until c from to σ l r l' r' i fits h k =
      greatest_grows o _ _ from (to + 1) (λ j a b. lesser_grows o _ _ _ _ (k refl (i + j) (omega arith)) (least_grows o l l' _ _ (λ p d e. h p (omega arith))))
  grows Once c from to σ l r l' r' i fits h k = greatest_grows o l l' _ _ (λ p a b. h p (omega arith))
  grows Held c from to σ l r l' r' i fits h k = least_grows o l l' _ _ (λ p a b. h p (omega arith))
  grows Since c from to σ l r l' r' i fits h k =
      greatest_grows o _ _ from (min to i + 1) (λ j a b. lesser_grows o _ _ _ _ (k refl (i - j) (omega arith)) (least_grows o l l' _ _ (λ p d e. h p (omega arith))))

pub monotone : {V : Type 0} → Monotone V
monotone s o x = grows o x.kind x.left x.from x.to
