-- No more records are expected than there are positions of the rules. Assumes nothing.
use Rattle.std.proofs.Common.{◌≡◌, ℕ, zero, suc, ◌+◌, ◌*◌, ◌<◌, ◌≤◌, length, ap, mul-le-mul_left, mul-suc, arith}
use Rattle.std.proofs.lemmas.List.{length-append}
use Rattle.scale.specs.Order.{Scale, Lattice}
use Rattle.table.specs.Accepting.{Accepted}
use Rattle.table.specs.Places.{total}
use Rattle.table.specs.Tables.{Table, rule_node}
use Rattle.settling.specs.Records.{newly_settled, tick_records, expected}
use Rattle.settling.specs.Settled.{settled}
use Rattle.settling.proofs.Bounding.{bounded}
use Rattle.settling.proofs.Burst.{burst_bound}
use Rattle.settling.proofs.Lasting.{lasting}
use Rattle.settling.proofs.Telling.{expected_next}

total_sum : (n : ℕ) (f g h : ℕ → ℕ) → ((r : ℕ) → r < n → f r + g r ≡ h r) → total n f + total n g ≡ total n h
total_sum zero f g h e = omega arith
total_sum (suc n) f g h e = omega (arith, total_sum n f g h (λ r i. e r (omega arith)), e n (omega arith))

total_below : (n m : ℕ) (f : ℕ → ℕ) → ((r : ℕ) → r < n → f r ≤ m) → total n f ≤ m * n
total_below zero m f h = omega arith
total_below (suc n) m f h = omega (arith, total_below n m f (λ r i. h r (omega arith)), h n (omega arith), mul-suc m n)

module _ {V : Type 0} {s : Scale V} (o : Lattice s) {t : Table} (a : Accepted t) (σ : ℕ → ℕ → V) where
  abbrev all_settled : ℕ → ℕ
  all_settled m = total (length t.rules) (λ r. settled s σ m t (rule_node t r))

  few_positions : (m : ℕ) → length (expected s σ m t) ≤ all_settled m
  unfolding expected
  few_positions zero = omega arith
  few_positions (suc n) =
      let more = (burst_bound s o t a σ n).0 in
      let both = total_sum (length t.rules) (λ r. settled s σ n t (rule_node t r)) (newly_settled s σ n t) (λ r. settled s σ (suc n) t (rule_node t r)) (λ r h. omega (arith, (lasting s o t a σ n (rule_node t r) (a.rules_fit r h)).0)) in
      omega (arith, ap length (expected_next s σ n t), length-append (expected s σ n t) (tick_records s σ n t), few_positions n, more, both)

  pub few_expected : (m : ℕ) → length (expected s σ m t) ≤ m * 16
  few_expected m =
      let below = total_below (length t.rules) m (λ r. settled s σ m t (rule_node t r)) (λ r h. omega (arith, (bounded s o t a σ m (rule_node t r) (a.rules_fit r h)).1)) in
      omega (arith, few_positions m, below, mul-le-mul_left m a.few_rules)
