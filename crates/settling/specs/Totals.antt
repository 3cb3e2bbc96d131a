-- What close gives: the ticks, and for each rule what is settled and what is open. Assumes nothing.
use Rattle.std.specs.Prelude.{ℕ, ◌-◌, List, map}
use Rattle.scale.specs.Order.{Scale}
use Rattle.table.specs.Tables.{Table}
use Rattle.settling.specs.Settled.{settled}

-- how many positions of a rule are settled, and how many are not
pub record RuleTotal : Type 0 where
  pub settled : ℕ
  pub «open» : ℕ

-- the ticks, and the rules in their order
pub record Totals : Type 0 where
  pub ticks : ℕ
  pub rules : List RuleTotal

-- of this many positions so many are settled; every other is open, whatever its value will be
abbrev pub rule_total : (ticks settled : ℕ) → RuleTotal
rule_total m c = record { settled = c; «open» = m - c }

-- what close gives after m ticks
abbrev pub totals : {V : Type 0} → Scale V → (ℕ → ℕ → V) → ℕ → Table → Totals
totals s σ m t = record { ticks = m; rules = map (λ k. rule_total m (settled s σ m t k)) t.rules }
