-- Every record that is expected tells only what the formulas give. Assumes nothing.
use Rattle.std.proofs.Common.{◌≡◌, ℕ, suc, ◌<◌, length, sym, ap, ◌∙◌, subst, arith}
use Rattle.std.specs.List.{AllByRecursion}
use Rattle.scale.specs.Order.{Scale, Lattice, AtMost}
use Rattle.record.specs.declared.Record.{Record}
use Rattle.table.specs.Accepting.{Accepted}
use Rattle.table.specs.Tables.{Table, rule_node}
use Rattle.table.specs.Values.{val}
use Rattle.settling.specs.Early.{ends}
use Rattle.settling.specs.Records.{tick_records, expected}
use Rattle.settling.specs.Settled.{settled, verdict}
use Rattle.settling.proofs.Early.{enclosing}
use Rattle.settling.proofs.Lasting.{agree_itself}
use Rattle.settling.proofs.Lists.{all_joined}
use Rattle.settling.proofs.Positions.{Inside}
use Rattle.settling.proofs.Timing.{all_of_tick}
use Rattle.settling.proofs.Soundness.{sound}
use Rattle.calls.specs.Promises.{TrueAt, TrueRecord}

module _ {V : Type 0} {s : Scale V} (o : Lattice s) {t : Table} (a : Accepted t) (σ : ℕ → ℕ → V) where
  run_true : (n r : ℕ) → r < length t.rules → let k = rule_node t r in (y : Record V) → Inside r n (verdict s σ (suc n) t k) (settled s σ n t k) (settled s σ (suc n) t k) y → TrueRecord s σ t y
  run_true n r h y inside p from to =
      let k = rule_node t r in
      let fits = a.rules_fit r h in
      let is : y.value ≡ val s σ t k p = sym (inside.0.values p from to) ∙ sound s o t a σ σ (suc n) (agree_itself (suc n) t σ) k p fits (omega (arith, inside.2)) in
      let enclosed = enclosing s o t a σ σ p (agree_itself (suc p) t σ) k fits in
      let same : k ≡ rule_node t y.rule = ap (rule_node t) (sym inside.0.rule) in
      subst (λ k. (y.value ≡ val s σ t k p) → AtMost s (ends s σ p t k).lower y.value → AtMost s y.value (ends s σ p t k).upper → TrueAt s σ t y p) (sym same)
      (λ v l u. record { value = v; above = l; below = u })
      is
      (subst (AtMost s (ends s σ p t k).lower) (sym is) enclosed.0)
      (subst (λ v. AtMost s v (ends s σ p t k).upper) (sym is) enclosed.1)

  tick_true : (n : ℕ) → AllByRecursion (TrueRecord s σ t) (tick_records s σ n t)
  tick_true n = all_of_tick o a σ n (TrueRecord s σ t) (run_true n)

  pub all_true : (m : ℕ) → AllByRecursion (TrueRecord s σ t) (expected s σ m t)
  unfolding expected
  all_true m = all_joined (TrueRecord s σ t) (λ n. tick_records s σ n t) 0 m (λ n i j. tick_true n)
