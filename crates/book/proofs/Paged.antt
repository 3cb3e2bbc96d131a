-- The pages of a book, one of them written, and the records on its pages: none, the first, and one more. Assumes nothing.
use Rattle.std.proofs.Common.{◌≡◌, ℕ, zero, suc, ◌+◌, ◌-◌, ◌*◌, ◌<◌, ◌≤◌, List, [], ◌∷◌, ◌++◌, map, length, get_or, take, drop, sym, refl, ap, ◌∙◌, arith}
use Rattle.std.specs.List.{range_with_len}
use Rattle.std.specs.Simd.{first_chunks}
use Rattle.std.proofs.lemmas.List.FromFn.{map-range_with_len_more}
use Rattle.std.proofs.lemmas.List.{length-append, length-take, length-drop, length-take-le, take_at, take-take, take-append-le, drop_at, drop-take}
use Rattle.record.specs.declared.Record.{Record}
use Rattle.book.specs.Format.{restored}
use Rattle.book.specs.Pages.{page_at, with_page, records}
use Rattle.book.proofs.Pieces.{piece}

-- bytes cut into sixteens are cut into their pages
pub page_in : (bytes d : List ℕ) (count i : ℕ) → i < count → get_or (first_chunks 16 count bytes) i d ≡ page_at bytes i
page_in bytes d count i = piece 16 count bytes i d

module _ (bytes page : List ℕ) (n : ℕ) (inside : 16 * n + 16 ≤ length bytes) (sixteen : length page ≡ 16) where
  front : length (take (16 * n) bytes) ≡ 16 * n
  front = length-take-le (16 * n) bytes (omega arith)

  pub length_with_page : length (with_page bytes n page) ≡ length bytes
  length_with_page = simp (length-append, length-take, length-drop) (omega arith)

  page_written : page_at (with_page bytes n page) n ≡ page
  page_written =
      ap (take 16) (drop_at (take (16 * n) bytes) (page ++ drop (16 * n + 16) bytes) (16 * n) front) ∙ take_at page (drop (16 * n + 16) bytes) 16 sixteen

  page_before : (i : ℕ) → i < n → page_at (with_page bytes n page) i ≡ page_at bytes i
  page_before i before =
      let same = take-append-le (16 * i + 16) (take (16 * n) bytes) (page ++ drop (16 * n + 16) bytes) (omega (arith, front)) ∙ take-take (16 * i + 16) (16 * n) bytes (omega arith) in
      sym (drop-take (16 * i) 16 (with_page bytes n page)) ∙ ap (drop (16 * i)) same ∙ drop-take (16 * i) 16 bytes

same_below : {X : Type 0} (f g : ℕ → X) (from k to : ℕ) → from + k ≤ to → ((i : ℕ) → i < to → f i ≡ g i) → map f (range_with_len from k) ≡ map g (range_with_len from k)
same_below f g from zero to fits same = refl
same_below f g from (suc k) to fits same =
    ap (λ x. x ∷ map f (range_with_len (from + 1) k)) (same from (omega arith)) ∙ ap (λ xs. g from ∷ xs) (same_below f g (from + 1) k to (omega arith) same)

module _ {V : Type 0} (value : ℕ → V) (bytes : List ℕ) (from to : ℕ) where
  abbrev record_on : List ℕ → ℕ → Record V
  record_on held n = restored value (page_at held n)

  pub records_none : to ≤ from → records value bytes from to ≡ []
  unfolding records
  records_none none = let no : to - from ≡ 0 = omega arith in ap (λ k. map (record_on bytes) (range_with_len from k)) no

  pub records_first : (x : Record V) → from < to → x ≡ restored value (page_at bytes from) → records value bytes from to ≡ x ∷ records value bytes (from + 1) to
  unfolding records
  records_first x some is =
      let one : to - from ≡ suc (to - (from + 1)) = omega arith in
      ap (λ k. map (record_on bytes) (range_with_len from k)) one ∙ ap (λ y. y ∷ map (record_on bytes) (range_with_len (from + 1) (to - (from + 1)))) (sym is)

  -- page `to` is written
  pub records_push : (page : List ℕ) (x : Record V) → from ≤ to → 16 * to + 16 ≤ length bytes → length page ≡ 16 → restored value page ≡ x → records value (with_page bytes to page) from (to + 1) ≡ records value bytes from to ++ x ∷ []
  unfolding records
  records_push page x order inside sixteen reads =
      let held = with_page bytes to page in
      let one : to + 1 - from ≡ (to - from) + 1 = omega arith in
      let same = same_below (record_on held) (record_on bytes) from (to - from) to (omega arith) (λ i before. ap (restored value) (page_before bytes page to inside sixteen i before)) in
      let new = ap (restored value) (page_written bytes page to inside sixteen) ∙ reads in
      ap (λ k. map (record_on held) (range_with_len from k)) one
      ∙ map-range_with_len_more (record_on held) from (to - from) to (omega arith)
      ∙ ap (λ xs. xs ++ record_on held to ∷ []) same
      ∙ ap (λ y. map (record_on bytes) (range_with_len from (to - from)) ++ y ∷ []) new
