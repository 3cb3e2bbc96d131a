use Rattle.settling.proofs.Lasting.{lasting}
use Rattle.settling.proofs.settled_stays_settled.Goals as goal

pub returns : goal.returns
returns g c = lasting
