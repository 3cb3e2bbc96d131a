-- The records of all rules, put one rule after another. Assumes nothing.
use Rattle.std.proofs.Common.{◌≡◌, ℕ, suc, ◌+◌, ◌-◌, ◌<◌, ◌≤◌, List, length, get_or, take, sym, ap, ◌∙◌, subst, arith}
use Rattle.std.specs.List.{range_with_len, flat_map}
use Rattle.std.proofs.lemmas.List.{get_or-take, length-take-le}
use Rattle.scale.specs.Order.{Scale, Lattice}
use Rattle.record.specs.declared.Record.{Record}
use Rattle.table.specs.Accepting.{Accepted}
use Rattle.table.specs.Tables.{Table, rule_node}
use Rattle.settling.specs.Records.{rule_records, tick_records}
use Rattle.settling.specs.Settled.{settled}
use Rattle.settling.proofs.Burst.{burst_bound}
use Rattle.settling.proofs.Lists.{joined_next, joined_same}
use Rattle.settling.proofs.Queues.{rule_from_queue}
use Rattle.engine.specs.declared.keep.Keep.{Keep}
use Rattle.engine.specs.Kept.{value_in}
use Rattle.engine.specs.State.{At, keep_of, AllAt}
use Rattle.engine.proofs.Nodestep.{queued}
use Rattle.monitor.specs.Issuing.{queue_runs, Offered, RulesStand, TickIssued}
use Rattle.monitor.proofs.Putting.{offered_more, all_issued}

module _ {S V : Type 0} (waiting : S → List (Record V)) (free : S → ℕ) (s : Scale V) (memory : List V) (qs : List Keep) (rules olds : List ℕ) (n : ℕ) (before : S) where
  -- the records of rule r, as the queue of its node has them
  abbrev its_records : ℕ → List (Record V)
  its_records r = queue_runs s memory r n (get_or olds r 0) (keep_of qs (get_or rules r 0))

  -- the records of the rules below r were offered
  abbrev pub OfferedBelow : S → ℕ → Type 0
  OfferedBelow now r = Offered waiting free before now (flat_map its_records (range_with_len 0 r))

  pub below_more : (now after : S) (r : ℕ) (q : Keep) → q ≡ keep_of qs (get_or rules r 0) → OfferedBelow now r → Offered waiting free now after (queue_runs s memory r n (get_or olds r 0) q) → OfferedBelow after (r + 1)
  below_more now after r q is h put =
      let next : suc r ≡ r + 1 = omega arith in
      subst (OfferedBelow after) next
      (subst (Offered waiting free before after) (sym (joined_next its_records 0 r r (omega arith)))
      (offered_more waiting free before now after (flat_map its_records (range_with_len 0 r)) (its_records r) h (subst (λ u. Offered waiting free now after (queue_runs s memory r n (get_or olds r 0) u)) is put)))

  module _ (o : Lattice s) (count : ℕ) (long : count ≤ length rules) (stand : RulesStand rules count qs (length memory) n) where
    -- for a table with these rules, it is what the tick owes of the rule
    its_owed : (t : Table) (σ : ℕ → ℕ → V) → Accepted t → t.rules ≡ take count rules → AllAt s σ (suc n) t memory qs → (r : ℕ) → r < length t.rules → get_or olds r 0 ≡ settled s σ n t (rule_node t r) → its_records r ≡ rule_records s σ n t r
    its_owed t σ acc is all r h was =
        let k = rule_node t r in
        let q = keep_of qs (get_or rules r 0) in
        let below : r < count = omega (arith, ap length is, length-take-le count rules long) in
        let its : k ≡ get_or rules r 0 = ap (λ l. get_or l r 0) is ∙ get_or-take count rules r 0 below in
        let at = subst (λ j. At s σ (suc n) t k memory (keep_of qs j)) its (all k (acc.rules_fit r h)) in
        rule_from_queue o acc σ n r q.count (q.to - q.from) (get_or olds r 0) (value_in s.lowest memory q) h (queued o acc σ (suc n) k memory q s.lowest (stand r below).0 at) was

    -- so it is with all rules, and then the tick has issued what it owes
    pub below_all : (after : S) → OfferedBelow after count → TickIssued waiting free before after s (take count rules) olds memory qs n
    unfolding tick_records
    below_all after h t σ acc is all was room =
        let many : count ≡ length t.rules = sym (ap length is ∙ length-take-le count rules long) in
        let owed = joined_same its_records (rule_records s σ n t) 0 (length t.rules) (λ r from to. let in_table : r < length t.rules = omega arith in its_owed t σ acc is all r in_table (was r (omega (arith, ap length is)))) in
        let few = burst_bound s o t acc σ n in
        all_issued waiting free before after (tick_records s σ n t) (omega (arith, few.0, few.1))
        (subst (Offered waiting free before after) owed (subst (OfferedBelow after) many h))
