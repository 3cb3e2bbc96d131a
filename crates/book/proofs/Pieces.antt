-- A list cut into pieces of one size. Assumes nothing.
use Rattle.std.proofs.Common.{◌≡◌, ℕ, zero, suc, ◌+◌, ◌*◌, ◌<◌, List, get_or, take, drop, sym, ap, ◌∙◌, arith}
use Rattle.std.specs.Simd.{first_chunks}
use Rattle.std.proofs.lemmas.List.{drop-drop, get_or-take, get_or-drop}

-- piece i
pub piece : {X : Type 0} (size count : ℕ) (xs : List X) (i : ℕ) (d : List X) → i < count → get_or (first_chunks size count xs) i d ≡ take size (drop (size * i) xs)
piece size zero xs i d inside = absurd (omega (arith, inside))
piece size (suc k) xs zero d inside = let start : size * 0 ≡ 0 = omega arith in ap (λ at. take size (drop at xs)) (sym start)
piece size (suc k) xs (suc i) d inside =
    let next : size + size * i ≡ size * suc i = omega arith in
    piece size k (drop size xs) i d (omega (arith, inside)) ∙ ap (take size) (drop-drop (size * i) size xs) ∙ ap (λ at. take size (drop at xs)) next

-- byte j of the i-th four
pub byte_in : (bytes d : List ℕ) (count i j : ℕ) → i < count → j < 4 → get_or (get_or (first_chunks 4 count bytes) i d) j 0 ≡ get_or bytes (4 * i + j) 0
byte_in bytes d count i j inside four = ap (λ xs. get_or xs j 0) (piece 4 count bytes i d inside) ∙ get_or-take 4 (drop (4 * i) bytes) j 0 four ∙ get_or-drop (4 * i) bytes j 0
