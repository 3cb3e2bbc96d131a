-- A record in 16 bytes is read back as it was. Assumes nothing.
use Rattle.std.proofs.Common.{◌≡◌, ℕ, ◌+◌, ◌*◌, ◌/◌, ◌%◌, ◌<◌, length, Some, None, Option, unwrap_or, sym, refl, ap, ◌∙◌, arith}
use Rattle.scale.specs.Codes.{Codes, Decodes}
use Rattle.scale.specs.Order.{Scale}
use Rattle.record.specs.declared.Record.{Record}
use Rattle.book.specs.Format.{stored, restored, value_of}

pub length_stored : {V : Type 0} (coded : V → ℕ) (r : Record V) → length (stored coded r) ≡ 16
unfolding stored
length_stored coded r = refl

half_back : (n : ℕ) → n / 256 * 256 + n % 256 ≡ n
half_back n = omega arith

word_back : (n : ℕ) → n / 16777216 * 16777216 + n / 65536 % 256 * 65536 + n / 256 % 256 * 256 + n % 256 ≡ n
word_back n = omega arith

pub restored_stored : {V : Type 0} (coded : V → ℕ) (value : ℕ → V) (r : Record V) → value (coded r.value) ≡ r.value → restored value (stored coded r) ≡ r
unfolding stored
restored_stored coded value r back = rw (half_back (coded r.value), word_back r.first, word_back r.last, word_back r.lag, back) refl

module _ {V : Type 0} (scale : Scale V) (coded : V → ℕ) (decoded : ℕ → Option V) (codes : Codes coded) (decodes : (code : ℕ) → code < 65536 → Decodes coded code (decoded code)) where
  -- a code has one decoding, which is what the definition names
  once : (code : ℕ) → code < 65536 → (found : Option V) → Decodes coded code found → found ≡ decoded code
  once code fits found is = same found (decoded code) is (decodes code fits)
    where
      same : (x y : Option V) → Decodes coded code x → Decodes coded code y → x ≡ y
      same None None p q = refl
      same None (Some y) p q = absurd (p y q)
      same (Some x) None p q = absurd (q x p)
      same (Some x) (Some y) p q = ap Some (codes.injective x y (p ∙ sym q))

  pub value_read : (code : ℕ) → code < 65536 → (found : Option V) → Decodes coded code found → unwrap_or found scale.lowest ≡ value_of scale decoded code
  value_read code fits found is = ap (λ o. unwrap_or o scale.lowest) (once code fits found is)

  -- a value's code is read as the value
  pub value_back : (x : V) → value_of scale decoded (coded x) ≡ x
  value_back x = sym (value_read (coded x) (codes.narrow x) (Some x) refl)
