-- A term of a comparator: sign × 2^shift × word. Assumes nothing.
use Rattle.std.specs.Prelude.{◌^◌, Bool, ◌&&◌, ℤ, pos, negsuc, ◌*ℤ◌, ◌≤ℤ◌, int_le, nat_le}
use Rattle.comparators.specs.declared.adding.Term.{Term}
use Rattle.comparators.specs.declared.scaled.Sign.{Sign}
use Rattle.comparators.specs.declared.scaled.Sign.TheVariants.{Minus, Zero, Plus}
use Rattle.comparators.specs.declared.scaled.Scaled.{Scaled}

-- the number that a sign stands for
abbrev pub sign_number : Sign → ℤ
sign_number Minus = negsuc 0
sign_number Zero = pos 0
sign_number Plus = pos 1

-- whether a sign has this number: -1, 0 or 1
abbrev pub signed : ℤ → Bool
signed n = int_le (negsuc 0) n && int_le n (pos 1)

-- whether the sign is -1, 0 or 1 and the shift 0 to 7
abbrev pub fair : Term → Bool
fair t = signed t.sign && nat_le t.shift 7

-- the numbers that a term was made of
abbrev pub as_given : Scaled → Term
as_given x = record { word = x.word; sign = sign_number x.sign; shift = x.shift }

-- sign × 2^shift × the value of the word
abbrev pub weighed : Scaled → ℤ → ℤ
weighed x v = sign_number x.sign *ℤ (pos (2 ^ x.shift) *ℤ v)

-- at most 128 times 32,767, either way, so that two such numbers have a sum in 32 bits
pub record Narrow (z : ℤ) : Type 0 where
  pub low : negsuc 4194175 ≤ℤ z
  pub high : z ≤ℤ pos 4194176
