use Rattle.settling.proofs.Bounding.{bounded}
use Rattle.settling.proofs.settled_within_the_lags.Goals as goal

pub returns : goal.returns
returns g c = bounded
