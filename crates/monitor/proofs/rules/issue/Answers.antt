use Rattle.std.proofs.Common.{◌-◌, length, sym, ap, ◌∙◌, subst, arith}
use Rattle.table_check.specs.Plans.{table_of}
use Rattle.monitor.specs.Issuing.{RulesStand}
use Rattle.monitor.proofs.Copied.{rules_stand}
use Rattle.monitor.proofs.rules.issue.Goals as goal

pub tell_all-requires : goal.tell_all-requires
tell_all-requires g c =
    let core = c.args.core.now in
    let copy = c.copy_rules-count.result in
    let space = length c.args.memory.now in
    record {
      few = c.copy_rules-count.ensures.few;
      stand =
          subst (λ qs. RulesStand copy.0 copy.1 qs space (c.ticks.result - 1)) (sym c.keeps.ensures)
          (subst (λ n. RulesStand copy.0 copy.1 core.keeps space (n - 1)) (sym c.ticks.ensures.value) (rules_stand core space copy.0 copy.1 c.requires.room (c.copy_rules-count.ensures.rules ∙ ap (λ p. (table_of p).rules) c.plan.ensures) (omega (arith, c.copy_rules-count.ensures.few)) c.requires.ticked));
    }
