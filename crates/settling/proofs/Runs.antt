-- For a loop that puts records upward: what one position more adds to them. Assumes nothing.
use Rattle.std.proofs.Common.{◌≡◌, ℕ, ◌+◌, Bool, true, false, cond, List, [], ◌∷◌, ◌++◌, map, sym, refl, ap, ◌∙◌, ⊎_elim}
use Rattle.std.specs.List.{range_with_len}
use Rattle.std.proofs.lemmas.List.FromFn.{map-range_with_len_more}
use Rattle.std.proofs.lemmas.Bool.{cases_Bool, cond-true, cond-false}
use Rattle.scale.specs.Order.{Scale, Lattice, same}
use Rattle.record.specs.declared.Record.{Record}
use Rattle.settling.specs.Records.{alone, spanning, in_front, merged, runs}
use Rattle.settling.proofs.Orders.{same_equal}

module _ {V : Type 0} {s : Scale V} (o : Lattice s) where
  abbrev alike : Record V → Record V → Bool
  alike x y = same s x.value y.value

  -- x behind the others: in one record with the last of them if that has the same value
  abbrev at_end : List (Record V) → Record V → List (Record V)
  at_end [] x = x ∷ []
  at_end (y ∷ []) x = cond (alike y x) (spanning y x ∷ []) (y ∷ x ∷ [])
  at_end (y ∷ z ∷ ys) x = y ∷ at_end (z ∷ ys) x

  -- it does not matter which end is added first
  either_first : (z : Record V) (ys : List (Record V)) (x : Record V) → in_front s z (at_end ys x) ≡ at_end (in_front s z ys) x
  either_first z [] x = refl
  either_first z (y ∷ []) x =
      ⊎_elim
      (λ zy.
      let third : alike z x ≡ alike y x = ap (λ v. same s v x.value) (same_equal o _ _ zy) in
      ⊎_elim
      (λ yx. ap (in_front s z) (cond-true _ _ _ yx) ∙ cond-true _ _ _ zy ∙ sym (ap (λ l. at_end l x) (cond-true _ _ _ zy) ∙ cond-true _ _ _ (third ∙ yx)))
      (λ yx. ap (in_front s z) (cond-false _ _ _ yx) ∙ cond-true _ _ _ zy ∙ sym (ap (λ l. at_end l x) (cond-true _ _ _ zy) ∙ cond-false _ _ _ (third ∙ yx)))
      (cases_Bool (alike y x)))
      (λ zy.
      ⊎_elim
      (λ yx. ap (in_front s z) (cond-true _ _ _ yx) ∙ cond-false _ _ _ zy ∙ sym (ap (λ l. at_end l x) (cond-false _ _ _ zy) ∙ ap (λ l. z ∷ l) (cond-true _ _ _ yx)))
      (λ yx. ap (in_front s z) (cond-false _ _ _ yx) ∙ cond-false _ _ _ zy ∙ sym (ap (λ l. at_end l x) (cond-false _ _ _ zy) ∙ ap (λ l. z ∷ l) (cond-false _ _ _ yx)))
      (cases_Bool (alike y x)))
      (cases_Bool (alike z y))
  either_first z (y ∷ w ∷ ys) x =
      ⊎_elim
      (λ zy. cond-true _ _ _ zy ∙ sym (ap (λ l. at_end l x) (cond-true _ _ _ zy)))
      (λ zy. cond-false _ _ _ zy ∙ sym (ap (λ l. at_end l x) (cond-false _ _ _ zy)))
      (cases_Bool (alike z y))

  merged_end : (xs : List (Record V)) (x : Record V) → merged s (xs ++ x ∷ []) ≡ at_end (merged s xs) x
  merged_end [] x = refl
  merged_end (z ∷ xs) x = ap (in_front s z) (merged_end xs x) ∙ either_first z (merged s xs) x

  ended_same : (ys : List (Record V)) (y x : Record V) → alike y x ≡ true → at_end (ys ++ y ∷ []) x ≡ ys ++ spanning y x ∷ []
  ended_same [] y x e = cond-true _ _ _ e
  ended_same (z ∷ []) y x e = ap (λ l. z ∷ l) (cond-true _ _ _ e)
  ended_same (z ∷ w ∷ ys) y x e = ap (λ l. z ∷ l) (ended_same (w ∷ ys) y x e)

  ended_other : (ys : List (Record V)) (y x : Record V) → alike y x ≡ false → at_end (ys ++ y ∷ []) x ≡ (ys ++ y ∷ []) ++ x ∷ []
  ended_other [] y x e = cond-false _ _ _ e
  ended_other (z ∷ []) y x e = ap (λ l. z ∷ l) (cond-false _ _ _ e)
  ended_other (z ∷ w ∷ ys) y x e = ap (λ l. z ∷ l) (ended_other (w ∷ ys) y x e)

  module _ (r n : ℕ) (v : ℕ → V) (a c p : ℕ) (at : a + c ≡ p) where
    runs_end : runs s r n v a (c + 1) ≡ at_end (runs s r n v a c) (alone r n v p)
    runs_end = ap (merged s) (map-range_with_len_more (alone r n v) a c p at) ∙ merged_end (map (alone r n v) (range_with_len a c)) (alone r n v p)

    -- the last record goes on with the same value, or a new one begins
    pub runs_longer : (ys : List (Record V)) (y : Record V) → runs s r n v a c ≡ ys ++ y ∷ [] → same s y.value (v p) ≡ true → runs s r n v a (c + 1) ≡ ys ++ spanning y (alone r n v p) ∷ []
    runs_longer ys y is e = runs_end ∙ ap (λ l. at_end l (alone r n v p)) is ∙ ended_same ys y (alone r n v p) e

    pub runs_new : (ys : List (Record V)) (y : Record V) → runs s r n v a c ≡ ys ++ y ∷ [] → same s y.value (v p) ≡ false → runs s r n v a (c + 1) ≡ (ys ++ y ∷ []) ++ alone r n v p ∷ []
    runs_new ys y is e = runs_end ∙ ap (λ l. at_end l (alone r n v p)) is ∙ ended_other ys y (alone r n v p) e
