-- What a tick puts into an outbox, by what waits in it and how much is free. Assumes nothing.
use Rattle.std.specs.Prelude.{◌≡◌, ℕ, suc, ◌+◌, ◌-◌, ◌<◌, ◌≤◌, List, ◌++◌, length, take, slice_index}
use Rattle.queue.specs.Regions.{Stands}
use Rattle.scale.specs.Order.{Scale}
use Rattle.record.specs.declared.Record.{Record}
use Rattle.table.specs.Accepting.{Accepted}
use Rattle.table.specs.Places.{burst}
use Rattle.table.specs.Tables.{Table, rule_node}
use Rattle.settling.specs.Records.{runs, tick_records}
use Rattle.settling.specs.Settled.{settled}
use Rattle.engine.specs.declared.keep.Keep.{Keep}
use Rattle.engine.specs.Kept.{value_in}
use Rattle.engine.specs.State.{keep_of, AllAt}

-- the record of a rule's positions from first to last, issued at this tick
abbrev pub run : {V : Type 0} → (rule tick first last : ℕ) → V → Record V
run r n first last v = record { rule = r; first = first; last = last; value = v; lag = n - first }

-- the records of a rule's positions from `old` on, as its node's queue has them
abbrev pub queue_runs : {V : Type 0} → Scale V → List V → (rule tick old : ℕ) → Keep → List (Record V)
queue_runs s memory r n old q = runs s r n (value_in s.lowest memory q) old (q.count - old)

-- the queue of each rule's node stands in the memory, and after tick n it counts no more than the ticks
abbrev pub RulesStand : (rules : List ℕ) (count : ℕ) → List Keep → (space n : ℕ) → Type 0
RulesStand rules count qs space n =
    (r : ℕ)
    → r < count
    → let q = keep_of qs (slice_index rules r) in
    Stands space q.from q.to q.at × (q.count ≤ n + 1)

module _ {S V : Type 0} (waiting : S → List (Record V)) (free : S → ℕ) (before after : S) where
  -- these records were offered one after another: as many as there was room for wait now, after all others
  pub record Offered (xs : List (Record V)) : Type 0 where
    pub waits : waiting after ≡ waiting before ++ take (free before) xs
    pub left : free after ≡ free before - length xs

  -- there was room for all of them
  pub record Issued (xs : List (Record V)) : Type 0 where
    pub waits : waiting after ≡ waiting before ++ xs
    pub left : free after + length xs ≡ free before

  -- Tick n issues what it owes: for every accepted table with these rules and all samples, if the queues are those after
  -- the tick, `olds` counts what each rule's node had settled before it, and the burst was free.
  abbrev pub TickIssued : Scale V → (rules olds : List ℕ) → List V → List Keep → ℕ → Type 0
  TickIssued s rules olds memory qs n =
      (t : Table) (σ : ℕ → ℕ → V)
      → Accepted t
      → t.rules ≡ rules
      → AllAt s σ (suc n) t memory qs
      → ((r : ℕ) → r < length rules → slice_index olds r ≡ settled s σ n t (rule_node t r))
      → burst t ≤ free before
      → Issued (tick_records s σ n t)
