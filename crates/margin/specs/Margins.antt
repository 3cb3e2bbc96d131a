-- Margins are a scale. Assumes nothing.
use Rattle.std.specs.Prelude.{◌≡◌, ◌<◌, true, false, ℤ, pos, negsuc, neg_ℤ, ◌≤ℤ◌, int_le, refl}
use Rattle.std.proofs.Common.{ap, inl, inr, ⊎_elim, arith, of_z}
use mathlib.Core.HLevel.{is_prop→PathP}
use Rattle.std.proofs.Props.{props}
use Rattle.std.specs.Int.{w16}
use Rattle.std.proofs.lemmas.Int.{ints}
use Rattle.std.proofs.lemmas.Bool.{cases_Bool}
use Rattle.scale.specs.Codes.{Codes}
use Rattle.scale.specs.Order.{TotalOrder}
use Rattle.margin.specs.MarginScale.{margin, margin_code, negated}
use Rattle.margin.specs.declared.Margin.{Margin}

-- margins of one number are equal
pub same_number : (x y : Margin) → x.value ≡ y.value → x ≡ y
same_number x y e = λ i. record {
  value = e i;
  low = is_prop→PathP (λ j. negsuc 32766 ≤ℤ e j) (λ j. hlevel props) x.low y.low i;
  high = is_prop→PathP (λ j. e j ≤ℤ pos 32767) (λ j. hlevel props) x.high y.high i;
}

other_way : (x y : ℤ) → int_le x y ≡ false → int_le y x ≡ true
other_way x y f = grind (arith, ints)

onward : (x y z : ℤ) → int_le x y ≡ true → int_le y z ≡ true → int_le x z ≡ true
onward x y z p q = grind (arith, ints)

equal : (x y : ℤ) → int_le x y ≡ true → int_le y x ≡ true → x ≡ y
equal x y p q = grind (arith, ints)

over_least : (x : ℤ) → negsuc 32766 ≤ℤ x → int_le (negsuc 32766) x ≡ true
over_least x p = grind (arith, ints)

under_greatest : (x : ℤ) → x ≤ℤ pos 32767 → int_le x (pos 32767) ≡ true
under_greatest x p = grind (arith, ints)

turned : (x y : ℤ) → int_le x y ≡ true → int_le (neg_ℤ y) (neg_ℤ x) ≡ true
turned x y p = grind (arith, ints)

twice : (x : ℤ) → neg_ℤ (neg_ℤ x) ≡ x
twice x = omega (arith, ints)

pub margin_order : TotalOrder margin
margin_order = record {
  total = λ x y. ⊎_elim inl (λ f. inr (other_way x.value y.value f)) (cases_Bool (int_le x.value y.value));
  trans = λ x y z. onward x.value y.value z.value;
  antisym = λ x y p q. same_number x y (equal x.value y.value p q);
  low = λ x. over_least x.value x.low;
  high = λ x. under_greatest x.value x.high;
  differ = λ e. let ends : negsuc 32766 ≡ pos 32767 = ap (λ (m : Margin). m.value) e in omega (arith, ints);
  lesser_is = λ x y. refl;
  greater_is = λ x y. refl;
  turns = λ x y. turned x.value y.value;
  back = λ x. same_number (negated (negated x)) x (twice x.value);
}

pub margin_codes : Codes margin_code
margin_codes = record {
  narrow = λ x. narrow x.value x.low x.high;
  injective = λ x y e. same_number x y (one_code x.value y.value x.low x.high y.low y.high e);
}
  where
    narrow : (x : ℤ) → negsuc 32766 ≤ℤ x → x ≤ℤ pos 32767 → of_z w16 x < 65536
    narrow x p q = omega (arith, ints)

    one_code : (x y : ℤ) → negsuc 32766 ≤ℤ x → x ≤ℤ pos 32767 → negsuc 32766 ≤ℤ y → y ≤ℤ pos 32767 → of_z w16 x ≡ of_z w16 y → x ≡ y
    one_code x y p q p' q' e = omega (arith, ints)
