-- A tick settles no more positions of its rules than the burst, and issues no more records. Assumes nothing.
use Rattle.std.proofs.Common.{ℕ, zero, suc, ◌+◌, ◌<◌, ◌≤◌, List, length, ap, arith}
use Rattle.std.specs.List.{range_with_len, flat_map}
use Rattle.std.proofs.lemmas.List.{length-append}
use Rattle.table.specs.Places.{total, slack, burst}
use Rattle.table.specs.Tables.{rule_node}
use Rattle.settling.specs.Records.{newly_settled, rule_records, tick_records}
use Rattle.settling.specs.Settled.{settled, verdict}
use Rattle.settling.specs.Telling.{BurstBound}
use Rattle.settling.proofs.Bounding.{bounded}
use Rattle.settling.proofs.Lists.{joined_next}
use Rattle.settling.proofs.Merging.{few_runs}

total_most : (n : ℕ) (f g : ℕ → ℕ) → ((j : ℕ) → j < n → f j ≤ g j) → total n f ≤ total n g
total_most zero f g h = omega arith
total_most (suc n) f g h = omega (arith, total_most n f g (λ j i. h j (omega arith)), h n (omega arith))

length_joined : {X : Type 0} (f : ℕ → List X) (g : ℕ → ℕ) (n : ℕ) → ((j : ℕ) → length (f j) ≤ g j) → length (flat_map f (range_with_len 0 n)) ≤ total n g
length_joined f g zero h = omega arith
length_joined f g (suc n) h =
    omega (
      arith,
      ap length (joined_next f 0 n n (omega arith)),
      length-append (flat_map f (range_with_len 0 n)) (f n),
      length_joined f g n h,
      h n,
    )

pub burst_bound : {V : Type 0} → BurstBound V
unfolding burst tick_records
burst_bound s o t a σ n = (
  length_joined (rule_records s σ n t) (newly_settled s σ n t) (length t.rules) (λ r.
      let k = rule_node t r in
      few_runs s r n (verdict s σ (suc n) t k) (settled s σ n t k) (newly_settled s σ n t r)),
  total_most (length t.rules) (newly_settled s σ n t) (λ r. slack t (rule_node t r) + 1) (λ r h.
      let k = rule_node t r in
      omega (arith, (bounded s o t a σ (suc n) k (a.rules_fit r h)).1, (bounded s o t a σ n k (a.rules_fit r h)).0)),
)
