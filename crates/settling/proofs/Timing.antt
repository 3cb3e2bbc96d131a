-- Each record is issued at the first tick possible, no later than the worst lag. Assumes nothing.
use Rattle.std.proofs.Common.{ℕ, suc, ◌+◌, ◌<◌, ◌≤◌, length, sym, subst, arith}
use Rattle.std.specs.List.{AllByRecursion}
use Rattle.std.proofs.ByRecursion.{All-weaker}
use Rattle.scale.specs.Order.{Scale, Lattice}
use Rattle.record.specs.declared.Record.{Record}
use Rattle.table.specs.Accepting.{Accepted}
use Rattle.table.specs.Lags.{worst}
use Rattle.table.specs.Tables.{Table, rule_node}
use Rattle.settling.specs.Records.{newly_settled, rule_records, tick_records, expected}
use Rattle.settling.specs.Settled.{settled, verdict}
use Rattle.settling.specs.Telling.{InTime, AllInTime}
use Rattle.settling.proofs.Bounding.{bounded}
use Rattle.settling.proofs.Lasting.{lasting, rising}
use Rattle.settling.proofs.Lists.{all_joined}
use Rattle.settling.proofs.Positions.{Inside, tell_runs, all_tell}

module _ {V : Type 0} {s : Scale V} (o : Lattice s) {t : Table} (a : Accepted t) (σ : ℕ → ℕ → V) where
  -- what holds of each run of positions that a rule's node newly settles at a tick holds of each of the tick's records
  pub all_of_tick : (n : ℕ) (P : Record V → Type 0) → ((r : ℕ) → r < length t.rules → let k = rule_node t r in (y : Record V) → Inside r n (verdict s σ (suc n) t k) (settled s σ n t k) (settled s σ (suc n) t k) y → P y) → AllByRecursion P (tick_records s σ n t)
  unfolding tick_records
  all_of_tick n P each = all_joined P (rule_records s σ n t) 0 (length t.rules) (λ r i j.
      let h : r < length t.rules = omega arith in
      let k = rule_node t r in
      let c = settled s σ n t k in
      let b = settled s σ (suc n) t k in
      let v = verdict s σ (suc n) t k in
      let up = (lasting s o t a σ n k (a.rules_fit r h)).0 in
      All-weaker _ _ (each r h) (rule_records s σ n t r) (all_tell o r n v c b _ (tell_runs o r n v c (newly_settled s σ n t r) b (omega arith))))

  run_in_time : (n r : ℕ) → r < length t.rules → let k = rule_node t r in (y : Record V) → Inside r n (verdict s σ (suc n) t k) (settled s σ n t k) (settled s σ (suc n) t k) y → InTime s σ n t y
  run_in_time n r h y q =
      let k = rule_node t r in
      let run = q.0 in
      let fits = a.rules_fit r h in
      let most = (bounded s o t a σ (suc n) k fits).1 in
      let late = (bounded s o t a σ n k fits).0 in
      let own = run.rule in
      let lag = run.lag in
      let order = run.order in
      record {
        has_rule = omega arith;
        order = order;
        lag = omega arith;
        not_before = λ m le. subst (λ w. settled s σ m t (rule_node t w) ≤ y.first) (sym own) (omega (arith, rising o a σ m n k fits le));
        then = subst (λ w. y.last < settled s σ (suc n) t (rule_node t w)) (sym own) q.2;
        bound = subst (λ w. y.lag ≤ worst t (rule_node t w)) (sym own) (omega arith);
      }

  tick_in_time : (n : ℕ) → AllByRecursion (InTime s σ n t) (tick_records s σ n t)
  tick_in_time n = all_of_tick n (InTime s σ n t) (run_in_time n)

  -- by its own tick
  own_tick : (m n : ℕ) → n < m → (y : Record V) → InTime s σ n t y → (y.first + y.lag < m) × InTime s σ (y.first + y.lag) t y
  own_tick m n lt y i = (omega (arith, i.lag), subst (λ q. InTime s σ q t y) (sym i.lag) i)

  expected_in_time : (m : ℕ) → AllByRecursion (λ y. (y.first + y.lag < m) × InTime s σ (y.first + y.lag) t y) (expected s σ m t)
  unfolding expected
  expected_in_time m = all_joined _ (λ n. tick_records s σ n t) 0 m (λ n i j. All-weaker _ _ (own_tick m n (omega arith)) (tick_records s σ n t) (tick_in_time n))

pub all_in_time : {V : Type 0} → AllInTime V
all_in_time s o t a σ = (tick_in_time o a σ, expected_in_time o a σ)
