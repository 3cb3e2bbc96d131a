use Rattle.settling.proofs.Future.{unforeseen}
use Rattle.settling.proofs.later_samples_do_not_matter.Goals as goal

pub returns : goal.returns
returns g c = unforeseen
