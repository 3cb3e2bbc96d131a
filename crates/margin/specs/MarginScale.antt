-- The scale of margins: whole numbers from -32,767 to 32,767, reversed by negation. Assumes nothing.
use Rattle.std.specs.Prelude.{ℕ, Bool, cond, pos, negsuc, neg_ℤ, int_le}
use Rattle.std.specs.Int.Signed.{le_z_yes}
use Rattle.std.proofs.Common.{arith, of_z}
use Rattle.std.specs.Int.{w16}
use Rattle.std.proofs.lemmas.Int.{ints}
use Rattle.scale.specs.Order.{Scale}
use Rattle.margin.specs.declared.Margin.{Margin}

abbrev pub below : Margin → Margin → Bool
below x y = int_le x.value y.value

abbrev pub least : Margin
least = record { value = negsuc 32766; low = le_z_yes tt; high = le_z_yes tt }

abbrev pub greatest : Margin
greatest = record { value = pos 32767; low = le_z_yes tt; high = le_z_yes tt }

abbrev pub negated : Margin → Margin
negated x = record { value = neg_ℤ x.value; low = omega (arith, ints, x.low, x.high); high = omega (arith, ints, x.low, x.high) }

abbrev pub margin : Scale Margin
margin = record {
  leq = below;
  lowest = least;
  highest = greatest;
  lesser = λ x y. cond (below x y) x y;
  greater = λ x y. cond (below x y) y x;
  reversed = negated;
}

-- in 16 bits, two's complement
abbrev pub margin_code : Margin → ℕ
margin_code x = of_z w16 x.value
