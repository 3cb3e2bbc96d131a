-- A power of two times a margin fits 32 bits.
use Rattle.std.proofs.Common.{◌≡◌, refl, arith}
use Rattle.std.proofs.lemmas.Int.{ints}
use Rattle.comparators.proofs.Scaling.{shifted_is, shifted_narrow, kept}
use Rattle.comparators.proofs.scaled.Scaled.shifted.Goals as goal

widened : (c : goal.After-from) → c.from.result ≡ c.args.value.value
widened c = omega (arith, ints, c.from.ensures, c.get.ensures, c.args.value.low, c.args.value.high)

pub overflow_mul-result : goal.overflow_mul-result
overflow_mul-result c =
    let n = shifted_narrow c.args.self c.args.value in
    rw (shifted_is c.args.self c.args.value c.from.result (widened c)) (omega (arith, ints, n.low, n.high))

pub returns : goal.returns
returns c =
    let n = shifted_narrow c.args.self c.args.value in
    rw (shifted_is c.args.self c.args.value c.from.result (widened c), kept _ n) record { value = refl; narrow = n }
