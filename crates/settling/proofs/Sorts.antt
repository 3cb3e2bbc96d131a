-- The kinds by where they read: what each sort of kind asks of its window, its operands and its samples. Assumes nothing.
use Rattle.std.proofs.Common.{◌≡◌, ℕ, ◌+◌, ◌<◌, ◌≤◌, min, max, Bool, true, false, cond, ◌⊎◌, refl, inl, inr, ⊎_elim, arith}
use Rattle.std.proofs.lemmas.Bool.{true≢false, false≢true, and_parts, and_from, not-true, not_from_false, eq-eqb}
use Rattle.table.specs.declared.kind.Kind.{Kind}
use Rattle.table.specs.declared.kind.Kind.TheVariants.{Sample, Not, And, Or, Within, Always, Until, Once, Held, Since}
use Rattle.table.specs.declared.kind.Sort.{Sort}
use Rattle.table.specs.declared.kind.Sort.TheVariants.{Leaf, Point, Ahead, Back}
use Rattle.table.specs.declared.kind.Side.{Side}
use Rattle.table.specs.declared.kind.Side.TheVariants.{Left, Right}
use Rattle.table.specs.declared.node.Node.{Node}
use Rattle.table.specs.Accepting.{LeftPlaced, RightPlaced}
use Rattle.table.specs.Kinds.{shape, binary, leaf, back, prompt, sampled, past, at_once, Span}
use Rattle.table.specs.Lags.{least_operand, greatest_operand}
use Rattle.table.specs.Places.{operand}

-- of a kind that is worked out from operands
abbrev pub Inner : Kind → Type 0
Inner k = sampled k ≡ false

-- a sample; a kind that looks back; or a later one, which may have to wait
abbrev pub LooksBack : Kind → Type 0
LooksBack k = (past k ≡ true) × (at_once k ≡ true) × Inner k

abbrev pub Later : Kind → Type 0
Later k = (past k ≡ false) × (at_once k ≡ false) × Inner k

pub sorts : (k : Kind) → ((sampled k ≡ true) × (at_once k ≡ true)) ⊎ (LooksBack k ⊎ Later k)
sorts k = by_sort (shape k).sort
  where
    by_sort : (q : Sort) → ((leaf q ≡ true) × (prompt q ≡ true)) ⊎ (((back q ≡ true) × (prompt q ≡ true) × (leaf q ≡ false)) ⊎ ((back q ≡ false) × (prompt q ≡ false) × (leaf q ≡ false)))
    by_sort Leaf = inl (refl, refl)
    by_sort Point = inr (inr (refl, refl, refl))
    by_sort Ahead = inr (inr (refl, refl, refl))
    by_sort Back = inr (inl (refl, refl, refl))

-- either it is settled at once, or it is a later kind
pub once_or_later : (k : Kind) → (at_once k ≡ true) ⊎ Later k
once_or_later k = ⊎_elim (λ e. inl e.1) (⊎_elim (λ e. inl e.1) inr) (sorts k)

pub later_on : (k : Kind) → Inner k → past k ≡ false → at_once k ≡ false
later_on k = by_sort (shape k).sort
  where
    by_sort : (q : Sort) → leaf q ≡ false → back q ≡ false → prompt q ≡ false
    by_sort Leaf i f = absurd (true≢false i)
    by_sort Point i f = refl
    by_sort Ahead i f = refl
    by_sort Back i f = absurd (true≢false f)

-- the operands of an inner kind stand before their node
pub before_own : (k : Kind) (l r n : ℕ) → Inner k → LeftPlaced (shape k).sort l n → RightPlaced (binary k) r n → (l < n) × (r < n)
before_own k l r n i p q = let lt = left_before (shape k).sort i p in (lt, right_before (binary k) lt q)
  where
    left_before : (q : Sort) → leaf q ≡ false → LeftPlaced q l n → l < n
    left_before Leaf i p = absurd (true≢false i)
    left_before Point i p = p
    left_before Ahead i p = p
    left_before Back i p = p

    right_before : (b : Bool) → l < n → RightPlaced b r n → r < n
    right_before true lt p = p
    right_before false lt p = omega arith

pub span_later : (b : Bool) (from to i p : ℕ) → b ≡ false → Span b from to i p → (i + from ≤ p) × (p ≤ i + to)
span_later true from to i p e h = absurd (true≢false e)
span_later false from to i p e h = h

pub span_past : (b : Bool) (from to i p : ℕ) → b ≡ true → Span b from to i p → (i ≤ p + to) × (p ≤ i)
span_past true from to i p e h = h
span_past false from to i p e h = absurd (false≢true e)

-- the greatest and the least over the operands bound each of them
pub greatest_left : (k : Kind) (l r : ℕ) → l ≤ greatest_operand k l r
greatest_left k l r = by (binary k)
  where
    by : (b : Bool) → l ≤ cond b (max l r) l
    by true = omega arith
    by false = omega arith

pub greatest_right : (k : Kind) (l r : ℕ) → binary k ≡ true → r ≤ greatest_operand k l r
greatest_right k l r = by (binary k)
  where
    by : (b : Bool) → b ≡ true → r ≤ cond b (max l r) l
    by true e = omega arith
    by false e = absurd (false≢true e)

pub least_left : (k : Kind) (l r : ℕ) → least_operand k l r ≤ l
least_left k l r = by (binary k)
  where
    by : (b : Bool) → cond b (min l r) l ≤ l
    by true = omega arith
    by false = omega arith

pub least_right : (k : Kind) (l r : ℕ) → binary k ≡ true → least_operand k l r ≤ r
least_right k l r = by (binary k)
  where
    by : (b : Bool) → b ≡ true → cond b (min l r) l ≤ r
    by true e = omega arith
    by false e = absurd (false≢true e)

-- a node that has an operand is of an inner kind
pub operand_inner : (x : Node) (side : Side) (k : ℕ) → operand x side k ≡ true → Inner x.kind
operand_inner x Left k e = not-true _ (and_parts _ _ e).0
operand_inner x Right k e = binary_inner x.kind (and_parts _ _ e).0
  where
    binary_inner : (k : Kind) → binary k ≡ true → Inner k
    binary_inner Sample b = absurd (false≢true b)
    binary_inner Not b = refl
    binary_inner And b = refl
    binary_inner Or b = refl
    binary_inner Within b = refl
    binary_inner Always b = refl
    binary_inner Until b = refl
    binary_inner Once b = refl
    binary_inner Held b = refl
    binary_inner Since b = refl

pub left_operand : (x : Node) → Inner x.kind → operand x Left x.left ≡ true
left_operand x i = and_from _ _ (not_from_false _ i) (eq-eqb x.left x.left refl)

pub right_operand : (x : Node) → binary x.kind ≡ true → operand x Right x.right ≡ true
right_operand x b = and_from _ _ b (eq-eqb x.right x.right refl)
