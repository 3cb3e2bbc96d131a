use Rattle.comparators.proofs.Scaling.{part_narrow}
use Rattle.comparators.proofs.scaled.Scaled.work_out.Goals as goal

pub returns-in_ok-ask-in-Minus-clause-narrow : goal.returns-in_ok-ask-in-Minus-clause-narrow
returns-in_ok-ask-in-Minus-clause-narrow g c = part_narrow c.args.self c.in_ok-ask-in-Minus.field-0 c.weigh.result c.weigh.ensures
