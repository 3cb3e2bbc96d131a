-- One accepted tick: what it took to be accepted, and what it issues. Assumes nothing.
use Rattle.std.proofs.Common.{◌≡◌, ℕ, suc, ◌-◌, ◌<◌, ◌≤◌, Bool, true, false, cond, ltb, leb, List, length, get_or, Some, None, Option, Result, refl, ap, ◌∙◌, subst, arith}
use Rattle.source.specs.declared.fault.Fault.{Fault}
use Rattle.source.specs.Frames.{first_fault}
use Rattle.scale.specs.Order.{Scale}
use Rattle.record.specs.declared.Record.{Record}
use Rattle.settling.specs.Records.{tick_records}
use Rattle.table.specs.Places.{need, burst}
use Rattle.table_check.specs.Plans.{table_of}
use Rattle.table.specs.Tables.{Table, rule_node}
use Rattle.table_check.proofs.Lawful.{plan_accepted}
use Rattle.engine.specs.declared.fault.TickFault.{TickFault}
use Rattle.engine.specs.declared.state.Core.{Core}
use Rattle.engine.specs.declared.fault.TickFault.TheVariants.{Memory, Ticks, Room}
use Rattle.engine.specs.Asking.{samples_of}
use Rattle.engine.specs.Refusals.{of_source, tick_fault}
use Rattle.engine.specs.Represents.{Represents, Advanced, monitored}
use Rattle.engine.specs.State.{keep_of, AllAt}
use Rattle.engine.specs.Ticking.{Asked}
use Rattle.monitor.specs.Issuing.{TickIssued, Issued}

-- where nothing is refused, the first reason is not there, and neither is what comes next
pub not_refused : {X : Type 0} (b : Bool) (x : X) (rest : Option X) → None ≡ cond b (Some x) rest → (b ≡ false) × (None ≡ rest)
not_refused true x rest e = let z : ◌≡◌ {A = ℕ} 0 1 = cc in absurd (omega arith)
not_refused false x rest e = (refl, e)

module _ {V : Type 0} (t : Table) (ticks space : ℕ) (cramped : Bool) (answers : ℕ → Result V Fault) (accepted : None ≡ tick_fault t ticks space cramped answers) where
  abbrev from_source : Option TickFault
  from_source = of_source (first_fault answers (samples_of t.nodes))

  past_ticks : (cramped ≡ false) × (None ≡ from_source)
  past_ticks =
      let past_memory = (not_refused (ltb space (need t)) Memory (cond (leb 16777216 ticks) (Some Ticks) (cond cramped (Some Room) from_source)) accepted).1 in
      not_refused cramped Room from_source (not_refused (leb 16777216 ticks) Ticks (cond cramped (Some Room) from_source) past_memory).1

  pub enough_room : cramped ≡ false
  enough_room = past_ticks.0

-- what the tick issues, from what stood before it
pub all_issued_by : {V O : Type 0} (s : Scale V) (answers : ℕ → Result V Fault) (waiting : O → List (Record V)) (free : O → ℕ) (c c' : Core) (memory now : List V) (o o' : O) (olds : List ℕ)
    → Advanced s answers c c' memory now
    → ((r : ℕ) → r < length (monitored c).rules → get_or olds r 0 ≡ (keep_of c.keeps (rule_node (monitored c) r)).count)
    → burst (monitored c) ≤ free o
    → TickIssued waiting free o o' s (monitored c').rules olds now c'.keeps (c'.ticks - 1)
    → (σ : ℕ → ℕ → V) (m : ℕ) → Asked answers σ m (monitored c) → Represents s σ m c memory → Issued waiting free o o' (tick_records s σ m (monitored c))
all_issued_by s answers waiting free c c' memory now o o' olds done was room told σ m asked rep =
    let t = monitored c in
    let acc = plan_accepted c.plan in
    let same : monitored c' ≡ t = ap table_of done.plan in
    let last : c'.ticks - 1 ≡ m = omega (arith, done.ticks, rep.ticks) in
    let next = done.next σ m asked rep in
    let all : AllAt s σ (suc m) t now c'.keeps = subst (λ t. AllAt s σ (suc m) t now c'.keeps) same next.queues in
    let say : TickIssued waiting free o o' s t.rules olds now c'.keeps m = subst (λ n. TickIssued waiting free o o' s t.rules olds now c'.keeps n) last (subst (λ t. TickIssued waiting free o o' s t.rules olds now c'.keeps (c'.ticks - 1)) same told) in
    say t σ acc refl all (λ r h. was r h ∙ (rep.queues (rule_node t r) (acc.rules_fit r h)).counts) room
