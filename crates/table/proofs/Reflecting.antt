-- Each test of the check says the same as its wording. Assumes nothing.
use Rattle.std.proofs.Common.{◌≡◌, ℕ, ◌<◌, ◌≤◌, Bool, true, false, cond, not, ◌&&◌, ◌||◌, eqb, ltb, leb, ◌⊎◌, length, Decides, refl, inl, inr, ⊎_elim, arith}
use Rattle.std.proofs.lemmas.Bool.{false≢true, leb-true, leb-false, le-leb, lt-leb, ltb-false, eqb-false, not-true, not-false, not_from_false, and_cases, and_left, and_parts, and_right, or_parts}
use Rattle.std.proofs.lemmas.Bool.Decides.{Decides-eqb, Decides-ltb, Decides-and, Decides-or, Decides-like}
use Rattle.table.specs.declared.kind.Side.TheVariants.{Left, Right}
use Rattle.table.specs.declared.kind.Sort.{Sort}
use Rattle.table.specs.declared.kind.Sort.TheVariants.{Leaf, Point, Ahead, Back}
use Rattle.table.specs.declared.node.Node.{Node}
use Rattle.table.specs.Kinds.{shape, binary, leaf, windowed}
use Rattle.table.specs.Tables.{Table, size, node, rule_node}
use Rattle.table.specs.Places.{operand, Use}
use Rattle.table.specs.Accepting.{LeftPlaced, RightPlaced, Fits}
use Rattle.table.specs.Refusals.{placed, parent_of, used}
use Rattle.table.specs.Checking.{WindowPlaced, Placed}
use Rattle.table.proofs.Anywhere.{decides_any}

pub decides_leb : (a b : ℕ) → Decides (leb a b) (a ≤ b)
decides_leb a b = (leb-true a b, le-leb a b)

pub decides_itself : (b : Bool) → Decides b (b ≡ true)
decides_itself b = (λ e. e, λ e. e)

-- the counts
pub decides_miscounted : (n most : ℕ) → Decides (eqb n 0 || ltb most n) ((n ≡ 0) ⊎ (most < n))
decides_miscounted n most = Decides-or _ _ (Decides-eqb n 0) (Decides-ltb most n)

pub counted : (n most : ℕ) → (eqb n 0 || ltb most n) ≡ false → (0 < n) × (n ≤ most)
counted n most e = let apart = or_parts (eqb n 0) (ltb most n) e in (omega (arith, eqb-false n 0 apart.0), ltb-false most n apart.1)

-- where the operands and the window stand
left_placed : (s : Sort) (l k : ℕ) → Decides (cond (leaf s) (leb l 31) (ltb l k)) (LeftPlaced s l k)
left_placed Leaf l k = decides_leb l 31
left_placed Point l k = Decides-ltb l k
left_placed Ahead l k = Decides-ltb l k
left_placed Back l k = Decides-ltb l k

right_placed : (b : Bool) (r k : ℕ) → Decides (cond b (ltb r k) (eqb r 0)) (RightPlaced b r k)
right_placed true r k = Decides-ltb r k
right_placed false r k = Decides-eqb r 0

window_placed : (s : Sort) (from to : ℕ) → Decides (windowed s || (eqb from 0 && eqb to 0)) (WindowPlaced s from to)
window_placed Leaf from to = Decides-and _ _ (Decides-eqb from 0) (Decides-eqb to 0)
window_placed Point from to = Decides-and _ _ (Decides-eqb from 0) (Decides-eqb to 0)
window_placed Ahead from to = (λ e. tt, λ w. refl)
window_placed Back from to = (λ e. tt, λ w. refl)

pub decides_placed : (x : Node) (k : ℕ) → Decides (placed x k) (Placed x k)
decides_placed x k =
    Decides-like (placed x k)
    (λ p. record { left = p.0; right = p.1.0; window = p.1.1 })
    (λ p. (p.left, (p.right, p.window)))
    (Decides-and _ _ (left_placed (shape x.kind).sort x.left k)
    (Decides-and _ _ (right_placed (binary x.kind) x.right k) (window_placed (shape x.kind).sort x.from x.to)))

-- the window itself
pub decides_outside : (from to : ℕ) → Decides (not (leb from to && leb to 4095)) ((to < from) ⊎ (4095 < to))
decides_outside from to = (
  λ e. ⊎_elim (λ a. inl (leb-false from to a)) (λ b. inr (leb-false to 4095 b)) (and_cases _ _ (not-true _ e)),
  λ h. not_from_false _ (⊎_elim (λ a. and_left _ _ (lt-leb from to a)) (λ b. and_right _ _ (lt-leb to 4095 b)) h),
)

pub inside : (from to : ℕ) → not (leb from to && leb to 4095) ≡ false → (from ≤ to) × (to ≤ 4095)
inside from to e = let both = and_parts _ _ (not-false _ e) in (leb-true from to both.0, leb-true to 4095 both.1)

-- a window stands well and in order if and only if it fits
pub window_fits : (s : Sort) (from to : ℕ) → WindowPlaced s from to → from ≤ to → Fits s from to
window_fits Leaf from to w h = w
window_fits Point from to w h = w
window_fits Ahead from to w h = h
window_fits Back from to w h = h

pub fits_window : (s : Sort) (from to : ℕ) → Fits s from to → WindowPlaced s from to × (from ≤ to)
fits_window Leaf from to f = (f, omega arith)
fits_window Point from to f = (f, omega arith)
fits_window Ahead from to f = (tt, f)
fits_window Back from to f = (tt, f)

-- what looks back has no late operand
pub not_late : (past : Bool) (operands : ℕ) → (past && ltb 0 operands) ≡ false → past ≡ true → operands ≡ 0
not_late true operands e h = omega (arith, ltb-false 0 operands e)
not_late false operands e h = absurd (false≢true h)

-- the uses
module _ (t : Table) (k : ℕ) where
  abbrev Parented : Type 0
  Parented = (j : ℕ) × (j < size t) × ((operand (node t j) Left k ≡ true) ⊎ (operand (node t j) Right k ≡ true))

  abbrev Ruled : Type 0
  Ruled = (r : ℕ) × (r < length t.rules) × (rule_node t r ≡ k)

  to_use : Parented ⊎ Ruled → Use t k
  to_use (inl p) = ⊎_elim (λ e. Use.parent p.0 Left p.1 e) (λ e. Use.parent p.0 Right p.1 e) p.2
  to_use (inr r) = Use.rule r.0 r.1 r.2

  from_use : Use t k → Parented ⊎ Ruled
  from_use (Use.parent j Left h e) = inl (j, h, inl e)
  from_use (Use.parent j Right h e) = inl (j, h, inr e)
  from_use (Use.rule r h e) = inr (r, h, e)

  pub decides_used : Decides (used t k) (Use t k)
  decides_used =
      Decides-like (used t k) to_use from_use
      (Decides-or _ _
      (decides_any (size t) (parent_of t k) _ (λ j. Decides-or _ _ (decides_itself (operand (node t j) Left k)) (decides_itself (operand (node t j) Right k))))
      (decides_any (length t.rules) (λ r. eqb (rule_node t r) k) _ (λ r. Decides-eqb (rule_node t r) k)))
