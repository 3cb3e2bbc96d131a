-- What a monitor counts at close is what the definitions owe. Assumes nothing.
use Rattle.std.proofs.Common.{◌≡◌, ℕ, suc, ◌<◌, List, [], ◌∷◌, map, length, get_or, refl, ap₂, arith}
use Rattle.scale.specs.Order.{Scale}
use Rattle.settling.specs.Totals.{RuleTotal, rule_total, totals}
use Rattle.table_check.proofs.Lawful.{plan_accepted}
use Rattle.engine.specs.declared.state.Core.{Core}
use Rattle.engine.specs.Represents.{Represents, monitored}
use Rattle.monitor.specs.Calls.{totals_of}

same_map : (f g : ℕ → RuleTotal) (ks : List ℕ) → ((r : ℕ) → r < length ks → f (get_or ks r 0) ≡ g (get_or ks r 0)) → map f ks ≡ map g ks
same_map f g [] h = refl
same_map f g (k ∷ ks) h = ap₂ ◌∷◌ (h 0 (omega arith)) (same_map f g ks (λ r i. h (suc r) (omega arith)))

pub totals_owed : {V : Type 0} (s : Scale V) (σ : ℕ → ℕ → V) (m : ℕ) (c : Core) (memory : List V) → Represents s σ m c memory → totals_of c ≡ totals s σ m (monitored c)
totals_owed s σ m c memory rep =
    let t = monitored c in
    let fits = (plan_accepted c.plan).rules_fit in
    ap₂ (λ n l. record { ticks = n; rules = l }) rep.ticks
    (same_map _ _ t.rules (λ r h. ap₂ rule_total rep.ticks (rep.queues (get_or t.rules r 0) (fits r h)).counts))
