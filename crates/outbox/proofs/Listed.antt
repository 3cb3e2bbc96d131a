-- Records put one after another from a list, and taken one after another into one. Assumes nothing.
use Rattle.std.proofs.Common.{◌≡◌, ℕ, ◌+◌, ◌<◌, ◌≤◌, List, [], ◌∷◌, ◌++◌, length, get_or, take, drop, set, sym, ap, ◌∙◌, arith}
use Rattle.std.proofs.lemmas.List.{append_assoc, drop_more, length-drop, length-take-le, set_at, take_more}

module _ {X : Type 0} where
  -- i of `before` were taken, and x is the next
  module _ (before now then : List X) (i : ℕ) (x : X) (so_far : now ≡ drop i before) (removed : now ≡ x ∷ then) where
    pub one_there : i + 1 ≤ length before
    one_there = omega (arith, ap length (sym removed ∙ so_far), length-drop i before)

    next : x ∷ then ≡ get_or before i x ∷ drop (i + 1) before
    next = sym removed ∙ so_far ∙ drop_more before i x (omega (arith, one_there))

    pub take_more_left : then ≡ drop (i + 1) before
    take_more_left = let n = next in cc

    pub take_more_places : (places start : List X) → places ≡ take i before ++ drop i start → i < length start → set places i x ≡ take (i + 1) before ++ drop (i + 1) start
    take_more_places places start held inside =
        let rest = drop (i + 1) start in
        let same : x ≡ get_or before i x = let n = next in cc in
        let here = held ∙ ap (λ ys. take i before ++ ys) (drop_more start i x inside) in
        let one_more : take (i + 1) before ≡ take i before ++ x ∷ [] = take_more before i x (omega (arith, one_there)) ∙ ap (λ y. take i before ++ y ∷ []) (sym same) in
        ap (λ ys. set ys i x) here
        ∙ set_at (take i before) (get_or start i x) rest x i (length-take-le i before (omega (arith, one_there)))
        ∙ sym (append_assoc (take i before) (x ∷ []) rest)
        ∙ ap (λ ys. ys ++ rest) (sym one_more)
