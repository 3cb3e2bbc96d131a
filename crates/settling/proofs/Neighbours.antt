-- A relation between each element of a list and the next. Assumes nothing.
use Rattle.std.proofs.Common.{ℕ, zero, suc, ◌<◌, List, [], ◌∷◌, ◌++◌, length, get_or, sym, subst, add-one, arith}
use Rattle.std.specs.List.{AllAdjacentBelow, AllByRecursion}

module _ {X : Type 0} (R : X → X → Type 0) where
  abbrev pub Linked : List X → Type 0
  Linked [] = Unit {0}
  Linked (x ∷ []) = Unit {0}
  Linked (x ∷ y ∷ xs) = R x y × Linked (y ∷ xs)

  next : (xs : List X) → Linked xs → (k : ℕ) (d : X) → suc k < length xs → R (get_or xs k d) (get_or xs (suc k) d)
  next [] h k d lt = absurd (omega arith)
  next (x ∷ []) h k d lt = absurd (omega arith)
  next (x ∷ y ∷ xs) h zero d lt = h.0
  next (x ∷ y ∷ xs) h (suc k) d lt = next (y ∷ xs) h.1 k d (omega arith)

  -- the same by places
  pub neighbours : (xs : List X) → Linked xs → AllAdjacentBelow R xs (length xs)
  neighbours xs h k d lt = subst (λ i. R (get_or xs k d) (get_or xs i d)) (sym (add-one k)) (next xs h k d (omega arith))

  -- two lists one after the other, where each element of the first may stand before each of the second
  pub linked_append : (xs ys : List X) → Linked xs → Linked ys → AllByRecursion (λ x. AllByRecursion (R x) ys) xs → Linked (xs ++ ys)
  linked_append [] ys h k all = k
  linked_append (x ∷ []) [] h k all = tt
  linked_append (x ∷ []) (y ∷ ys) h k all = (all.0.0, k)
  linked_append (x ∷ z ∷ xs) ys h k all = (h.0, linked_append (z ∷ xs) ys h.1 k all.1)
