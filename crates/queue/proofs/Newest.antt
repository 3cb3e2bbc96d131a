-- The newest of a list: how many, which, and what they are after more came. Assumes nothing.
use Rattle.std.proofs.Common.{◌≡◌, ℕ, ◌+◌, ◌-◌, ◌≤◌, min, List, [], ◌∷◌, ◌++◌, length, get_or, drop, sym, ap, ◌∙◌, arith}
use Rattle.std.proofs.lemmas.List.{length-drop, length_push, length-append, get_or-drop, drop-drop, drop_all, drop-append-le}
use Rattle.queue.specs.Contents.{newest}

module _ {X : Type 0} (n : ℕ) (xs : List X) where
  pub length_newest : length (newest n xs) ≡ min n (length xs)
  unfolding newest
  length_newest = length-drop (length xs - n) xs ∙ omega arith

  pub getD_newest : (i : ℕ) (d : X) → get_or (newest n xs) i d ≡ get_or xs (length xs - n + i) d
  unfolding newest
  getD_newest i d = get_or-drop (length xs - n) xs i d

  -- a list that is short enough is kept whole
  pub newest_all : length xs ≤ n → newest n xs ≡ xs
  unfolding newest
  newest_all short = let none : length xs - n ≡ 0 = omega arith in ap (λ k. drop k xs) none

  -- to keep the newest as they come is to keep the newest of all that came
  pub newest_append : (ys : List X) → newest n (newest n xs ++ ys) ≡ newest n (xs ++ ys)
  unfolding newest
  newest_append ys =
      let k = length xs - n in
      let left = drop k xs ++ ys in
      let joined : drop k (xs ++ ys) ≡ left = drop-append-le k xs ys (omega arith) in
      let size : length left ≡ length (xs ++ ys) - k = ap length (sym joined) ∙ length-drop k (xs ++ ys) in
      let gone : k + (length left - n) ≡ length (xs ++ ys) - n = omega (arith, size, length-append xs ys) in
      ap (drop (length left - n)) (sym joined) ∙ drop-drop (length left - n) k (xs ++ ys) ∙ ap (λ j. drop j (xs ++ ys)) gone

-- one more than there is room for: the oldest goes
pub newest_next : {X : Type 0} (n : ℕ) (y x : X) (ys : List X) → length (y ∷ ys) ≡ n → newest n ((y ∷ ys) ++ x ∷ []) ≡ ys ++ x ∷ []
unfolding newest
newest_next n y x ys full = let one : length ((y ∷ ys) ++ x ∷ []) - n ≡ 1 = omega (arith, length_push (y ∷ ys) x) in ap (λ k. drop k ((y ∷ ys) ++ x ∷ [])) one

-- to keep none
pub newest_none : {X : Type 0} (xs : List X) → newest 0 xs ≡ []
unfolding newest
newest_none xs = drop_all (length xs - 0) xs (omega arith)
