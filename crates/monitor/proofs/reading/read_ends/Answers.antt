use Rattle.std.proofs.Common.{◌≡◌, ◌<◌, length, ap, ◌∙◌, arith}
use Rattle.table_check.specs.Plans.{table_of}
use Rattle.table_check.proofs.Lawful.{plan_accepted}
use Rattle.table.specs.Tables.{rule_node}
use Rattle.engine.specs.declared.keep.Keep.{Keep}
use Rattle.engine.specs.Represents.{monitored}
use Rattle.engine.specs.State.{keep_of}
use Rattle.monitor.proofs.reading.read_ends.Goals as goal

pub overflow_add-slot : goal.overflow_add-slot
overflow_add-slot g c =
    let core = c.args.core.now in
    let rule = c.args.rule in
    let accepted = plan_accepted core.plan in
    let rules : c.rules-rules.result.now ≡ (monitored core).rules = c.rules-rules.ensures ∙ ap (λ p. (table_of p).rules) c.plan.ensures in
    let there : rule < length (monitored core).rules = grind (arith, rules, c.from.ensures, c.get.ensures.lookup, c.in_ok-node.is, c.in_ok-node.was, c.in_ok-node.ensures.variant, c.ok_or.ensures.variant, c.branch-node.ensures) in
    let node = rule_node (monitored core) rule in
    let is : c.keep_of-slot.result ≡ keep_of core.keeps node = grind (arith, rules, c.from.ensures, c.get.ensures.lookup, c.in_ok-node.is, c.ok_or.ensures, c.branch-node.ensures) in
    omega (arith, ap (λ (q : Keep). q.to) is, core.inside node (accepted.rules_fit rule there), accepted.fits)
