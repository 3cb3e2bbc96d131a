-- What a monitor stands for after m ticks. Assumes nothing.
use Rattle.std.specs.Prelude.{◌≡◌, ℕ, suc, ◌<◌, List, drop, Result}
use Rattle.scale.specs.Order.{Scale}
use Rattle.source.specs.declared.fault.Fault.{Fault}
use Rattle.table_check.specs.declared.plan.Plan.{Plan}
use Rattle.table.specs.Places.{need}
use Rattle.table_check.specs.Plans.{table_of}
use Rattle.table.specs.Tables.{Table, size}
use Rattle.engine.specs.declared.state.Core.{Core}
use Rattle.engine.specs.State.{keep_of, AllAt, AllEnds}
use Rattle.engine.specs.Ticking.{Asked}

-- of this plan, and no tick is accepted yet
pub record Fresh (p : Plan) (c : Core) : Type 0 where
  pub plan : c.plan ≡ p
  pub ticks : c.ticks ≡ 0
  pub empty : (k : ℕ) → k < size (table_of p) → (keep_of c.keeps k).at.len ≡ 0
  pub unsettled : (k : ℕ) → k < size (table_of p) → (keep_of c.keeps k).count ≡ 0

-- the table that a monitor is of
abbrev pub monitored : Core → Table
monitored c = table_of c.plan

-- It stands for the samples σ after m ticks: so many ticks are accepted, and each queue holds the verdicts of its node's
-- newest settled positions, with the ends of its early reading behind them once there was a tick. Where in its region a
-- queue begins is left open.
pub record Represents {V : Type 0} (s : Scale V) (σ : ℕ → ℕ → V) (m : ℕ) (c : Core) (memory : List V) : Type 0 where
  pub ticks : c.ticks ≡ m
  pub queues : AllAt s σ m (monitored c) memory c.keeps
  pub ends : (n : ℕ) → suc n ≡ m → AllEnds s σ n (monitored c) memory c.keeps

-- What an accepted tick does, from what the source answers at it. The plan stays, one tick more is accepted, and memory
-- beyond the need is as it was. For all samples whose row of this tick is what was answered: if it stood for them before,
-- it stands for them after, one tick on.
pub record Advanced {V : Type 0} (s : Scale V) (answers : ℕ → Result V Fault) (c c' : Core) (memory now : List V) : Type 0 where
  pub plan : c'.plan ≡ c.plan
  pub ticks : c'.ticks ≡ suc c.ticks
  pub beyond : drop (need (monitored c)) now ≡ drop (need (monitored c)) memory
  pub next : (σ : ℕ → ℕ → V) (m : ℕ) → Asked answers σ m (monitored c) → Represents s σ m c memory → Represents s σ (suc m) c' now
