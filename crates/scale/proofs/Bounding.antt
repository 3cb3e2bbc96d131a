-- A total order has greatest lower and least upper bounds. Assumes nothing.
use Rattle.std.proofs.Common.{◌≡◌, false, sym, subst, ⊎_elim}
use Rattle.std.proofs.lemmas.Bool.{cond_both, both_ways}
use Rattle.scale.specs.Order.{Scale, AtMost, TotalOrder, Lattice, Bounds}

module _ {V : Type 0} (s : Scale V) (o : TotalOrder s) where
  self : (a : V) → AtMost s a a
  self a = ⊎_elim (λ h. h) (λ h. h) (o.total a a)

  other : (a b : V) → s.leq a b ≡ false → AtMost s b a
  other a b f = ⊎_elim (λ h. absurd (both_ways _ f h)) (λ h. h) (o.total a b)

  -- what holds of a where a is at most b, and of b where it is not, holds of the lesser
  of_lesser : (P : V → Type 0) (a b : V) → (AtMost s a b → P a) → (s.leq a b ≡ false → P b) → P (s.lesser a b)
  of_lesser P a b p q = subst P (sym (o.lesser_is a b)) (cond_both (s.leq a b) a b P p q)

  of_greater : (P : V → Type 0) (a b : V) → (AtMost s a b → P b) → (s.leq a b ≡ false → P a) → P (s.greater a b)
  of_greater P a b p q = subst P (sym (o.greater_is a b)) (cond_both (s.leq a b) b a P p q)

  lattice : Lattice s
  lattice = record {
    reflexive = self;
    trans = o.trans;
    antisym = o.antisym;
    low = o.low;
    high = o.high;
    differ = o.differ;
    lesser_left = λ a b. of_lesser (λ x. AtMost s x a) a b (λ h. self a) (other a b);
    lesser_right = λ a b. of_lesser (λ x. AtMost s x b) a b (λ h. h) (λ f. self b);
    lesser_most = λ x a b p q. of_lesser (AtMost s x) a b (λ h. p) (λ f. q);
    greater_left = λ a b. of_greater (AtMost s a) a b (λ h. h) (λ f. self a);
    greater_right = λ a b. of_greater (AtMost s b) a b (λ h. self b) (other a b);
    greater_least = λ x a b p q. of_greater (λ y. AtMost s y x) a b (λ h. q) (λ f. p);
    turns = o.turns;
    back = o.back;
  }

pub bounds : {V : Type 0} → Bounds V
bounds = lattice
