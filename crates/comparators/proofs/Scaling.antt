-- A power of two times a margin, and a term's part in a sum, stay far within 32 bits. Assumes nothing.
use Rattle.std.proofs.Common.{◌≡◌, ℕ, suc, ◌*◌, ◌%◌, ◌^◌, ◌≤◌, ℤ, pos, negsuc, ◌+ℤ◌, ◌*ℤ◌, ◌≤ℤ◌, sym, ap, ◌∙◌, subst, arith, pow_mono, w32, to_z, of_z}
use Rattle.std.proofs.lemmas.Nat.{mul-le, one_shl, pow_below}
use Rattle.std.proofs.lemmas.Int.{ints, to_z_pos}
use Rattle.margin.specs.declared.Margin.{Margin}
use Rattle.comparators.specs.Terms.{Narrow, sign_number, weighed}
use Rattle.comparators.specs.declared.scaled.Scaled.{Scaled}
use Rattle.comparators.specs.declared.scaled.Sign.{Sign}
use Rattle.comparators.specs.declared.scaled.Sign.TheVariants.{Minus, Zero, Plus}

-- a narrow number is kept in 32 bits
pub kept : (x : ℤ) → Narrow x → to_z w32 (of_z w32 x) ≡ x
kept x n = omega (arith, ints, n.low, n.high)

-- two narrow parts add up in 32 bits
pub sum_is : (a b : ℤ) → Narrow a → Narrow b → to_z w32 (of_z w32 (to_z w32 (of_z w32 a) +ℤ to_z w32 (of_z w32 b))) ≡ a +ℤ b
sum_is a b p q = omega (arith, ints)

times : (a : ℕ) (v : ℤ) → a ≤ 128 → negsuc 32766 ≤ℤ v → v ≤ℤ pos 32767 → Narrow (pos a *ℤ v)
times a (pos b) h p q =
    let m : a * b ≤ 128 * 32767 = mul-le a b 128 32767 h (omega (arith, ints)) in
    record { low = omega (arith, ints); high = omega (arith, ints) }
times a (negsuc b) h p q =
    let m : a * suc b ≤ 128 * 32767 = mul-le a (suc b) 128 32767 h (omega (arith, ints)) in
    record { low = omega (arith, ints); high = omega (arith, ints) }

-- the power that a term's shift stands for, times a margin
module _ (x : Scaled) (m : Margin) where
  pub shifted_narrow : Narrow (pos (2 ^ x.shift) *ℤ m.value)
  shifted_narrow = times (2 ^ x.shift) m.value (pow_mono x.small) m.low m.high

  -- as the code has it, with v for the margin's number
  pub shifted_is : (v : ℤ) → v ≡ m.value → to_z w32 ((1 * 2 ^ x.shift) % 2 ^ 32) *ℤ to_z w32 (of_z w32 v) ≡ pos (2 ^ x.shift) *ℤ m.value
  shifted_is v is =
      let power : to_z w32 ((1 * 2 ^ x.shift) % 2 ^ 32) ≡ pos (2 ^ x.shift) =
      ap (to_z w32) (one_shl x.shift 32 (omega (arith, x.small))) ∙ to_z_pos w32 (2 ^ x.shift) (pow_below x.shift 31 (omega (arith, x.small))) in
      let value : to_z w32 (of_z w32 v) ≡ m.value = omega (arith, ints, m.low, m.high) in
      cc

with_sign : (s : Sign) (x : ℤ) → Narrow x → Narrow (sign_number s *ℤ x)
with_sign Minus x n = record { low = omega (arith, ints, n.high); high = omega (arith, ints, n.low) }
with_sign Zero x n = record { low = omega (arith, ints); high = omega (arith, ints) }
with_sign Plus x n = record { low = omega (arith, ints, n.low); high = omega (arith, ints, n.high) }

-- a term's part in the sum, as the code has it
pub part_narrow : (x : Scaled) (m : Margin) (a : ℤ) → a ≡ weighed x m.value → Narrow (to_z w32 (of_z w32 a))
part_narrow x m a is =
    let n : Narrow a = subst Narrow (sym is) (with_sign x.sign _ (shifted_narrow x m)) in
    rw (kept a n) n
