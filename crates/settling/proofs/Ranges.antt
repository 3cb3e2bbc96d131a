-- The greatest and the least of a range are its least upper and greatest lower bound. Assumes nothing.
use Rattle.std.proofs.Common.{ℕ, zero, suc, ◌+◌, ◌-◌, ◌<◌, ◌≤◌, subst, ⊎_elim, arith}
use Rattle.std.proofs.lemmas.Bool.{cases_eq}
use Rattle.scale.specs.Order.{Scale, AtMost, Lattice}
use Rattle.table.specs.Values.{greatest_of, least_of, greatest, least}

module _ {V : Type 0} {s : Scale V} (o : Lattice s) where
  over : (f : ℕ → V) (a n p : ℕ) → a ≤ p → p < a + n → AtMost s (f p) (greatest_of s f a n)
  unfolding greatest_of
  over f a zero p h k = absurd (omega arith)
  over f a (suc n) p h k =
      ⊎_elim
      (λ e. subst (λ q. AtMost s (f q) (greatest_of s f a (suc n))) e (o.greater_left (f a) (greatest_of s f (suc a) n)))
      (λ ne. o.trans _ _ _ (over f (suc a) n p (omega arith) (omega arith)) (o.greater_right (f a) (greatest_of s f (suc a) n)))
      (cases_eq a p)

  under : (f : ℕ → V) (a n : ℕ) (x : V) → ((p : ℕ) → a ≤ p → p < a + n → AtMost s (f p) x) → AtMost s (greatest_of s f a n) x
  unfolding greatest_of
  under f a zero x h = o.low x
  under f a (suc n) x h =
      o.greater_least x _ _ (h a (omega arith) (omega arith)) (under f (suc a) n x (λ p i j. h p (omega arith) (omega arith)))

  below : (f : ℕ → V) (a n p : ℕ) → a ≤ p → p < a + n → AtMost s (least_of s f a n) (f p)
  unfolding least_of
  below f a zero p h k = absurd (omega arith)
  below f a (suc n) p h k =
      ⊎_elim
      (λ e. subst (λ q. AtMost s (least_of s f a (suc n)) (f q)) e (o.lesser_left (f a) (least_of s f (suc a) n)))
      (λ ne. o.trans _ _ _ (o.lesser_right (f a) (least_of s f (suc a) n)) (below f (suc a) n p (omega arith) (omega arith)))
      (cases_eq a p)

  above : (f : ℕ → V) (a n : ℕ) (x : V) → ((p : ℕ) → a ≤ p → p < a + n → AtMost s x (f p)) → AtMost s x (least_of s f a n)
  unfolding least_of
  above f a zero x h = o.high x
  above f a (suc n) x h =
      o.lesser_most x _ _ (h a (omega arith) (omega arith)) (above f (suc a) n x (λ p i j. h p (omega arith) (omega arith)))

  -- the greatest from a up to the position before b is over each of them, and under whatever is over them all
  pub greatest_over : (f : ℕ → V) (a b p : ℕ) → a ≤ p → p < b → AtMost s (f p) (greatest s a b f)
  greatest_over f a b p h k = over f a (b - a) p h (omega arith)

  pub greatest_under : (f : ℕ → V) (a b : ℕ) (x : V) → ((p : ℕ) → a ≤ p → p < b → AtMost s (f p) x) → AtMost s (greatest s a b f) x
  greatest_under f a b x h = under f a (b - a) x (λ p i j. h p i (omega arith))

  -- the least is below each of them, and above whatever is below them all
  pub least_below : (f : ℕ → V) (a b p : ℕ) → a ≤ p → p < b → AtMost s (least s a b f) (f p)
  least_below f a b p h k = below f a (b - a) p h (omega arith)

  pub least_above : (f : ℕ → V) (a b : ℕ) (x : V) → ((p : ℕ) → a ≤ p → p < b → AtMost s x (f p)) → AtMost s x (least s a b f)
  least_above f a b x h = above f a (b - a) x (λ p i j. h p i (omega arith))

  -- larger values, larger greatest and least
  pub greatest_grows : (f g : ℕ → V) (a b : ℕ) → ((p : ℕ) → a ≤ p → p < b → AtMost s (f p) (g p)) → AtMost s (greatest s a b f) (greatest s a b g)
  greatest_grows f g a b h = greatest_under f a b _ (λ p i j. o.trans _ _ _ (h p i j) (greatest_over g a b p i j))

  pub least_grows : (f g : ℕ → V) (a b : ℕ) → ((p : ℕ) → a ≤ p → p < b → AtMost s (f p) (g p)) → AtMost s (least s a b f) (least s a b g)
  least_grows f g a b h = least_above g a b _ (λ p i j. o.trans _ _ _ (least_below f a b p i j) (h p i j))

  pub lesser_grows : (a b c d : V) → AtMost s a c → AtMost s b d → AtMost s (s.lesser a b) (s.lesser c d)
  lesser_grows a b c d p q = o.lesser_most _ c d (o.trans _ _ _ (o.lesser_left a b) p) (o.trans _ _ _ (o.lesser_right a b) q)

  pub greater_grows : (a b c d : V) → AtMost s a c → AtMost s b d → AtMost s (s.greater a b) (s.greater c d)
  greater_grows a b c d p q = o.greater_least _ a b (o.trans _ _ _ p (o.greater_left c d)) (o.trans _ _ _ q (o.greater_right c d))
