use Rattle.settling.proofs.Soundness.{sound}
use Rattle.settling.proofs.settled_verdicts_are_the_values.Goals as goal

pub returns : goal.returns
returns g c = sound
