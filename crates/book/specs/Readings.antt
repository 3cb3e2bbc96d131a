-- The value of each code of 16 bits, on the two scales. Assumes nothing.
use Rattle.std.specs.Prelude.{◌≡◌, ℕ, zero, suc, ◌-◌, Bool, true, false, pos, negsuc, Some, None, Option, nat_lt, refl}
use Rattle.std.proofs.Common.{ltb-true, arith}
use Rattle.std.proofs.lemmas.Int.{ints}
use Rattle.margin.specs.declared.Margin.{Margin}
use Rattle.scale.specs.declared.yes_no.YesNo.{YesNo}
use Rattle.scale.specs.declared.yes_no.YesNo.TheVariants.{No, Yes}

abbrev pub yes_no_of : ℕ → Option YesNo
yes_no_of zero = Some No
yes_no_of (suc zero) = Some Yes
yes_no_of (suc (suc n)) = None

-- two's complement: below 32,768 the number itself, above it the number less 65,536; 32,768 is no margin
abbrev margin_by : (n : ℕ) (low high : Bool) → nat_lt n 32768 ≡ low → nat_lt 32768 n ≡ high → Option Margin
margin_by n true high is _ = let below = ltb-true n 32768 is in Some (record { value = pos n; low = omega (arith, ints); high = omega (arith, ints) })
margin_by n false true _ is = let above = ltb-true 32768 n is in Some (record { value = negsuc (65535 - n); low = omega (arith, ints); high = omega (arith, ints) })
margin_by n false false _ _ = None

abbrev pub margin_of : ℕ → Option Margin
margin_of n = margin_by n (nat_lt n 32768) (nat_lt 32768 n) refl refl
