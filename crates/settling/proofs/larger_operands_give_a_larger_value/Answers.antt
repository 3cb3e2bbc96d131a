use Rattle.settling.proofs.Growing.{monotone}
use Rattle.settling.proofs.larger_operands_give_a_larger_value.Goals as goal

pub returns : goal.returns
returns g c = monotone
