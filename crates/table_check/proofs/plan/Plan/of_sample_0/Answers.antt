use Rattle.std.proofs.Common.{ℕ, zero, suc, ◌<◌, refl, arith, lit≤}
use Rattle.table.specs.Tables.{after, each}
use Rattle.table.specs.Lags.{lag_of, lags}
use Rattle.table.specs.Places.{places, need, burst}
use Rattle.table.specs.Refusals.{first_fault}
use Rattle.table_check.proofs.plan.Plan.of_sample_0.Goals as goal

-- only node 0 is there
only : (P : ℕ → Type 0) → P 0 → (k : ℕ) → k < 1 → P k
only P h zero i = h
only P h (suc k) i = absurd (omega arith)

pub invariant_of-result : goal.invariant_of-result
unfolding each after lag_of lags
invariant_of-result c = record { few = lit≤ tt; lags_are = refl }

pub invariant_of-result-3 : goal.invariant_of-result-3
unfolding first_fault after each lag_of lags places need burst
invariant_of-result-3 c = record {
  passed = refl;
  places_are = only _ refl;
  need_is = refl;
  burst_is = refl;
}
