-- What is promised of every run, at each of its calls, whatever samples follow. Assumes nothing.
use Rattle.std.specs.Prelude.{◌≡◌, ℕ, ◌+◌, ◌-◌, ◌<◌, ◌≤◌, List, ◌++◌, map, length, get_or, take, drop, Result, slice_index_or}
use Rattle.std.specs.List.{range_with_len, AllByRecursion}
use Rattle.record.specs.declared.Record.{Record}
use Rattle.scale.specs.Order.{Scale, AtMost}
use Rattle.source.specs.declared.fault.Fault.{Fault}
use Rattle.table.specs.Places.{Use, places}
use Rattle.table.specs.Tables.{Table, size, rule_node}
use Rattle.table.specs.Values.{val}
use Rattle.settling.specs.Early.{ends}
use Rattle.settling.specs.Records.{expected}
use Rattle.settling.specs.Settled.{settled}
use Rattle.settling.specs.Telling.{told_of, InTime}
use Rattle.settling.specs.Totals.{RuleTotal, totals}
use Rattle.settling.specs.Waiting.{released, waiting}
use Rattle.engine.specs.Kept.{values_in}
use Rattle.engine.specs.State.{keep_of}
use Rattle.engine.specs.Ticking.{Asked}
use Rattle.monitor.specs.Calls.{totals_of}
use Rattle.calls.specs.States.{Box, State, table_at}
use Rattle.calls.specs.Runs.{Log, Run, accepted, taken}

-- The samples σ go on from the m that were accepted: at each of those ticks they are what the source answered for the
-- sample nodes; after them they may be any values, without end.
abbrev pub GoesOn : {V : Type 0} → (ask : ℕ → ℕ → Result V Fault) → (ℕ → ℕ → V) → (m : ℕ) → Table → Type 0
GoesOn ask σ m t = (n : ℕ) → n < m → Asked (ask n) σ n t

module _ {V : Type 0} (s : Scale V) (σ : ℕ → ℕ → V) where
  -- A record tells position p truly: its value is what the formulas give the rule's node there, and it lies between the
  -- ends of the early reading at that position's own tick, asked or not.
  pub record TrueAt (t : Table) (y : Record V) (p : ℕ) : Type 0 where
    pub value : y.value ≡ val s σ t (rule_node t y.rule) p
    pub above : AtMost s (ends s σ p t (rule_node t y.rule)).lower y.value
    pub below : AtMost s y.value (ends s σ p t (rule_node t y.rule)).upper

  -- so does it with every position that it tells
  abbrev pub TrueRecord : Table → Record V → Type 0
  TrueRecord t y = (p : ℕ) → y.first ≤ p → p ≤ y.last → TrueAt t y p

  -- After m ticks a node's queue has no more values than places, and has, in its place, the value of every settled
  -- position that some use has not released.
  pub record QueueKeeps (m : ℕ) (t : Table) (k : ℕ) (held : List V) : Type 0 where
    pub few : length held ≤ places t k
    pub there : (u : Use t k) (p : ℕ) → p < settled s σ m t k → released s σ m t k u ≤ p → settled s σ m t k ≤ p + length held
    pub value : (u : Use t k) (p : ℕ) → p < settled s σ m t k → released s σ m t k u ≤ p → slice_index_or held (p + length held - settled s σ m t k) s.lowest ≡ val s σ t k p

  -- What holds after a log that begins with these records waiting, in state x, of table t.
  pub record Promised {O : Type 0} (b : Box V O) (t : Table) (before : List (Record V)) (log : Log V) (x : State V O) : Type 0 where
    -- Verdicts: each record issued tells only what the formulas give, at each of its positions.
    pub verdicts : AllByRecursion (TrueRecord t) (expected s σ (accepted log) t)
    -- Records: those taken, followed by those waiting, are those that waited at the start, followed by exactly the
    -- expected list, in order.
    pub records : taken log ++ b.waiting x.outbox ≡ before ++ expected s σ (accepted log) t
    -- Of each rule they tell the settled positions, which are those that are known with all before them: each once,
    -- upward, with its value.
    pub once : (r : ℕ) → r < length t.rules → let k = rule_node t r in told_of r (expected s σ (accepted log) t) ≡ map (λ p. (p, val s σ t k p)) (range_with_len 0 (settled s σ (accepted log) t k))
    -- Each at the first tick after which its positions are so, by its lag, which is at most the rule's worst lag.
    pub in_time : AllByRecursion (λ y. (y.first + y.lag < accepted log) × InTime s σ (y.first + y.lag) t y) (expected s σ (accepted log) t)
    -- A close now counts what the definitions owe, and as settled of each rule just the positions issued.
    pub closing : totals_of x.core ≡ totals s σ (accepted log) t
    pub counted : (r : ℕ) (d : RuleTotal) → r < length t.rules → let c = get_or (totals_of x.core).rules r d in (c.settled ≡ length (told_of r (expected s σ (accepted log) t))) × (c.settled + c.«open» ≡ accepted log)
    -- Queues: at no accepted tick had a node more positions waiting than places, and what some use has not released is in
    -- the queue now.
    pub few_wait : (n k : ℕ) → n < accepted log → k < size t → length (waiting s σ n t k) ≤ places t k
    pub queues : (k : ℕ) → k < size t → QueueKeeps (accepted log) t k (values_in x.memory (keep_of x.core.keeps k))

-- After the first k calls of a run: there is the state that they lead to and from which the rest goes on; so many ticks are
-- accepted as were answered; and all of that is kept, whatever samples follow.
pub record KeptAfter {V O : Type 0} (s : Scale V) (ask : ℕ → ℕ → Result V Fault) (b : Box V O) (begun : State V O) (log : Log V) (last : State V O) (k : ℕ) : Type 0 where
  pub state : State V O
  pub before : Run s ask b begun (take k log) state
  pub rest : Run s ask b state (drop k log) last
  pub plan : state.core.plan ≡ begun.core.plan
  pub ticks : state.core.ticks ≡ accepted (take k log)
  pub promised : (σ : ℕ → ℕ → V) → GoesOn ask σ (accepted (take k log)) (table_at begun) → Promised s σ b (table_at begun) (b.waiting begun.outbox) (take k log) state

-- at every call of the run
abbrev pub AlwaysKept : {V O : Type 0} → Scale V → (ask : ℕ → ℕ → Result V Fault) → Box V O → (begun : State V O) → Log V → (last : State V O) → Type 0
AlwaysKept s ask b begun log last = (k : ℕ) → k ≤ length log → KeptAfter s ask b begun log last k
