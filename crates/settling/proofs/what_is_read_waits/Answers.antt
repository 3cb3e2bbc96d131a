use Rattle.settling.proofs.Needed.{enough_waits}
use Rattle.settling.proofs.what_is_read_waits.Goals as goal

pub returns : goal.returns
returns g c = enough_waits
