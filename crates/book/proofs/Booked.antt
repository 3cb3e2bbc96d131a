-- What a book's bytes hold after one more record was stored. Assumes nothing.
use Rattle.std.proofs.Common.{◌≡◌, ℕ, ◌+◌, ◌*◌, ◌<◌, ◌≤◌, List, [], ◌∷◌, ◌++◌, length, Option, ap, ◌∙◌}
use Rattle.scale.specs.Codes.{Codes, Decodes}
use Rattle.scale.specs.Order.{Scale}
use Rattle.record.specs.declared.Record.{Record}
use Rattle.book.specs.Format.{stored, value_of}
use Rattle.book.specs.Pages.{with_page, records}
use Rattle.book.proofs.Formed.{length_stored, restored_stored, value_back}
use Rattle.book.proofs.Paged.{length_with_page, records_push}

-- `bytes` became `after`: page `count` is what was made of the record x
module _ {V : Type 0} (coded : V → ℕ) (bytes after page : List ℕ) (count : ℕ) (x : Record V) (made : page ≡ stored coded x) (written : after ≡ with_page bytes count page) where
  entered : after ≡ with_page bytes count (stored coded x)
  entered = written ∙ ap (with_page bytes count) made

  pub as_long : 16 * count + 16 ≤ length bytes → length after ≡ length bytes
  as_long inside = ap length entered ∙ length_with_page bytes (stored coded x) count inside (length_stored coded x)

  pub one_more : (scale : Scale V) (decoded : ℕ → Option V) → Codes coded → ((code : ℕ) → code < 65536 → Decodes coded code (decoded code)) → (taken : ℕ) → taken ≤ count → 16 * count + 16 ≤ length bytes
      → records (value_of scale decoded) after taken (count + 1) ≡ records (value_of scale decoded) bytes taken count ++ x ∷ []
  one_more scale decoded codes decodes taken order inside =
      let value = value_of scale decoded in
      let back = restored_stored coded value x (value_back scale coded decoded codes decodes x.value) in
      ap (λ held. records value held taken (count + 1)) entered ∙ records_push value bytes taken count (stored coded x) x order inside (length_stored coded x) back
