-- What the calls of a monitor make of it. Assumes nothing.
use Rattle.std.specs.Prelude.{◌≡◌, ℕ, suc, List, map, take, drop, Result}
use Rattle.record.specs.declared.Record.{Record}
use Rattle.scale.specs.Order.{Scale}
use Rattle.settling.specs.Early.{ends}
use Rattle.settling.specs.Records.{tick_records}
use Rattle.settling.specs.Totals.{RuleTotal, Totals, rule_total}
use Rattle.source.specs.declared.fault.Fault.{Fault}
use Rattle.table_check.specs.declared.plan.Plan.{Plan}
use Rattle.table.specs.Places.{need}
use Rattle.table.specs.Tables.{Table, rule_node}
use Rattle.engine.specs.declared.state.Core.{Core}
use Rattle.engine.specs.Represents.{Represents, monitored}
use Rattle.engine.specs.State.{keep_of}
use Rattle.engine.specs.Ticking.{Asked}
use Rattle.monitor.specs.declared.totals.RuleTotal.{RuleTotal as RuleCount}
use Rattle.monitor.specs.declared.totals.Totals.{Totals as Counted}
use Rattle.monitor.specs.declared.watch.Monitor.{Monitor}
use Rattle.monitor.specs.Issuing.{Issued}
use Rattle.monitor.specs.Reading.{stored_lower, stored_upper}

-- the table that a monitor is of, its queue memory, and how many ticks it has accepted
abbrev pub table_in : {V : Type 0} → Monitor V → Table
table_in x = monitored x.core

abbrev pub memory_in : {V : Type 0} → Monitor V → List V
memory_in x = x.memory.now

abbrev pub ticks_in : {V : Type 0} → Monitor V → ℕ
ticks_in x = x.core.ticks

-- it stands for the samples σ after m ticks
abbrev pub StandsFor : {V : Type 0} → Scale V → (ℕ → ℕ → V) → ℕ → Monitor V → Type 0
StandsFor s σ m x = Represents s σ m x.core (memory_in x)

-- Set-up: the monitor holds this plan and this memory, and with no tick accepted it stands for all samples.
pub record SetUp {V : Type 0} (s : Scale V) (p : Plan) (memory : List V) (x : Monitor V) : Type 0 where
  pub plan : x.core.plan ≡ p
  pub lent : memory_in x ≡ memory
  pub every : (σ : ℕ → ℕ → V) → StandsFor s σ 0 x

-- An accepted tick, from what the source answers at it, with an outbox by what waits in it and how much is free. The plan
-- stays, one tick more is accepted, and memory beyond the need is as it was. For all samples whose row of this tick is
-- what was answered: if the monitor stood for them it stands for them one tick on, and the records that the tick owes
-- are issued, and no others.
pub record Ticked {V O : Type 0} (s : Scale V) (answers : ℕ → Result V Fault) (waiting : O → List (Record V)) (free : O → ℕ) (x x' : Monitor V) (o o' : O) : Type 0 where
  pub plan : x'.core.plan ≡ x.core.plan
  pub ticks : ticks_in x' ≡ suc (ticks_in x)
  pub beyond : drop (need (table_in x)) (memory_in x') ≡ drop (need (table_in x)) (memory_in x)
  pub stands : (σ : ℕ → ℕ → V) (m : ℕ) → Asked answers σ m (table_in x) → StandsFor s σ m x → StandsFor s σ (suc m) x'
  pub issued : (σ : ℕ → ℕ → V) (m : ℕ) → Asked answers σ m (table_in x) → StandsFor s σ m x → Issued waiting free o o' (tick_records s σ m (table_in x))

-- What a reading of rule r answers: what stands behind the queue of its node, and that is, for all samples that the
-- monitor stands for, the early ends of the rule's node at the last tick.
pub record ReadEnds {V : Type 0} (s : Scale V) (c : Core) (memory : List V) (r : ℕ) (e : V × V) : Type 0 where
  pub lower : e.0 ≡ stored_lower s c memory r
  pub upper : e.1 ≡ stored_upper s c memory r
  pub early : (σ : ℕ → ℕ → V) (n : ℕ) → Represents s σ (suc n) c memory → let early = ends s σ n (monitored c) (rule_node (monitored c) r) in (e.0 ≡ early.lower) × (e.1 ≡ early.upper)

-- the totals that close gives, as the definitions have them
abbrev pub as_total : RuleCount → RuleTotal
as_total x = record { settled = x.settled; «open» = x.«open» }

abbrev pub as_totals : Counted → Totals
as_totals x = record { ticks = x.ticks; rules = map as_total (take x.count x.rules) }

-- what a monitor's counters come to: of each rule what its node has settled, and every other tick as open
abbrev pub totals_of : Core → Totals
totals_of c = record { ticks = c.ticks; rules = map (λ k. rule_total c.ticks (keep_of c.keeps k).count) (monitored c).rules }
