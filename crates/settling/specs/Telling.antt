-- What is promised of the records, of their time and number, and of the totals. Assumes nothing.
use Rattle.std.specs.Prelude.{◌≡◌, ℕ, suc, ◌+◌, ◌-◌, ◌<◌, ◌≤◌, Bool, ◌⊎◌, List, map, length, filter, ◌==◌, ◌≢◌, slice_index_or}
use Rattle.std.specs.List.{range_with_len, flat_map, AllAdjacentBelow, AllByRecursion}
use Rattle.scale.specs.Order.{Scale}
use Rattle.record.specs.declared.Record.{Record}
use Rattle.table.specs.Lags.{worst}
use Rattle.table.specs.Places.{total, burst}
use Rattle.table.specs.Tables.{Table, size, rule_node}
use Rattle.table.specs.Values.{val}
use Rattle.settling.specs.Settled.{settled, verdict}
use Rattle.settling.specs.Early.{ends}
use Rattle.settling.specs.Records.{newly_settled, tick_records, expected}
use Rattle.settling.specs.Totals.{RuleTotal, totals}
use Rattle.settling.specs.Formulas.{Everywhere}
use Rattle.settling.specs.Statements.{Agree}

-- whether a record is of rule r
abbrev pub of_rule : {V : Type 0} → ℕ → Record V → Bool
of_rule r y = y.rule == r

-- the positions that a record tells, each with its verdict
abbrev pub told : {V : Type 0} → Record V → List (ℕ × V)
told y = map (λ p. (p, y.value)) (range_with_len y.first (suc y.last - y.first))

-- all that the records of rule r tell
abbrev pub told_of : {V : Type 0} → ℕ → List (Record V) → List (ℕ × V)
told_of r ys = flat_map told (filter (of_rule r) ys)

-- the records of a rule tell its settled positions, each once, upward and with its value
abbrev pub ToldOnce : Type 0 → Type 0
ToldOnce V = Everywhere V λ s t σ.
    (m r : ℕ)
    → r < length t.rules
    → let k = rule_node t r in
    told_of r (expected s σ m t) ≡ map (λ p. (p, val s σ t k p)) (range_with_len 0 (settled s σ m t k))

-- y is issued at tick n, the first after which its positions and all before them are known: not settled after n ticks or
-- fewer, settled after the next; its lag is n minus its first position, and at most the worst lag
pub record InTime {V : Type 0} (s : Scale V) (σ : ℕ → ℕ → V) (n : ℕ) (t : Table) (y : Record V) : Type 0 where
  pub has_rule : y.rule < length t.rules
  pub order : y.first ≤ y.last
  pub lag : y.first + y.lag ≡ n
  pub not_before : (m : ℕ) → m ≤ n → settled s σ m t (rule_node t y.rule) ≤ y.first
  pub then : y.last < settled s σ (suc n) t (rule_node t y.rule)
  pub bound : y.lag ≤ worst t (rule_node t y.rule)

-- each record of a tick is in time, and so each of the expected list is, at a tick before m
abbrev pub AllInTime : Type 0 → Type 0
AllInTime V = Everywhere V λ s t σ.
    ((n : ℕ) → AllByRecursion (InTime s σ n t) (tick_records s σ n t))
    × ((m : ℕ) → AllByRecursion (λ y. (y.first + y.lag < m) × InTime s σ (y.first + y.lag) t y) (expected s σ m t))

-- z may come after y in one tick: it is of a later rule, or goes on with the same rule where y ends, with another verdict
abbrev pub Follows : {V : Type 0} → Record V → Record V → Type 0
Follows y z = (y.rule < z.rule) ⊎ ((y.rule ≡ z.rule) × (z.first ≡ suc y.last) × (y.value ≢ z.value))

-- so each record of a tick comes after the one before it
abbrev pub RunsApart : Type 0 → Type 0
RunsApart V = Everywhere V λ s t σ. (n : ℕ) → AllAdjacentBelow Follows (tick_records s σ n t) (length (tick_records s σ n t))

-- a tick settles no more positions of its rules than the burst, and issues no more records
abbrev pub BurstBound : Type 0 → Type 0
BurstBound V = Everywhere V λ s t σ.
    (n : ℕ)
    → (length (tick_records s σ n t) ≤ total (length t.rules) (newly_settled s σ n t))
    × (total (length t.rules) (newly_settled s σ n t) ≤ burst t)

-- close counts as settled what the records of a rule told, and as open the other ticks
abbrev pub Totalled : Type 0 → Type 0
Totalled V = Everywhere V λ s t σ.
    (m r : ℕ) (d : RuleTotal)
    → r < length t.rules
    → let x = slice_index_or (totals s σ m t).rules r d in
    (x.settled ≡ length (told_of r (expected s σ m t))) × (x.settled + x.«open» ≡ (totals s σ m t).ticks)

-- with both samples the same is settled, read early, issued and counted, up to m ticks
pub record SameSoFar {V : Type 0} (s : Scale V) (σ σ' : ℕ → ℕ → V) (m : ℕ) (t : Table) : Type 0 where
  pub counts : (k : ℕ) → k < size t → settled s σ m t k ≡ settled s σ' m t k
  pub verdicts : (k p : ℕ) → k < size t → p < settled s σ m t k → verdict s σ m t k p ≡ verdict s σ' m t k p
  pub early : (n k : ℕ) → n < m → k < size t → ends s σ n t k ≡ ends s σ' n t k
  pub records : expected s σ m t ≡ expected s σ' m t
  pub closing : totals s σ m t ≡ totals s σ' m t

-- however the samples go on
abbrev pub Unforeseen : Type 0 → Type 0
Unforeseen V = Everywhere V λ s t σ. (σ' : ℕ → ℕ → V) (m : ℕ) → Agree m t σ σ' → SameSoFar s σ σ' m t
