use Rattle.settling.proofs.Meant.{meant}
use Rattle.settling.proofs.values_mean_what_they_say.Goals as goal

pub returns : goal.returns
returns g c = meant
