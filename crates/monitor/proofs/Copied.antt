-- The rules of a plan, as a copy has them. Assumes nothing.
use Rattle.std.proofs.Common.{◌≡◌, ℕ, ◌+◌, ◌-◌, ◌<◌, ◌≤◌, List, length, get_or, take, sym, ap, ◌∙◌, subst, arith}
use Rattle.std.proofs.lemmas.List.{length-take-le, get_or-take}
use Rattle.queue.specs.Regions.{Stands}
use Rattle.table.specs.Places.{need}
use Rattle.table.specs.Tables.{size, rule_node}
use Rattle.table_check.proofs.Lawful.{plan_accepted}
use Rattle.engine.specs.declared.state.Core.{Core}
use Rattle.engine.specs.Represents.{monitored}
use Rattle.engine.specs.State.{keep_of}
use Rattle.engine.proofs.Cores.{queue_stands}
use Rattle.monitor.specs.Issuing.{RulesStand}

module _ (rules : List ℕ) (count : ℕ) (ks : List ℕ) (is : take count rules ≡ ks) where
  pub copied_rule : (r : ℕ) → r < count → get_or rules r 0 ≡ get_or ks r 0
  copied_rule r h = sym (get_or-take count rules r 0 h) ∙ ap (λ l. get_or l r 0) is

-- the queues of the rules' nodes stand in the memory
pub rules_stand : (c : Core) (space : ℕ) (rules : List ℕ) (count : ℕ) → need (monitored c) ≤ space → take count rules ≡ (monitored c).rules → count ≤ length rules → 0 < c.ticks → RulesStand rules count c.keeps space (c.ticks - 1)
rules_stand c space rules count room is whole some r h =
    let there : r < length (monitored c).rules = omega (arith, ap length is, length-take-le count rules whole) in
    let k = rule_node (monitored c) r in
    let fits : k < size (monitored c) = (plan_accepted c.plan).rules_fit r there in
    let Q : ℕ → Type 0 = λ k. let q = keep_of c.keeps k in Stands space q.from q.to q.at × (q.count ≤ c.ticks - 1 + 1) in
    subst Q (sym (copied_rule rules count (monitored c).rules is r h)) (queue_stands c space room k fits, omega (arith, c.counted k fits))
