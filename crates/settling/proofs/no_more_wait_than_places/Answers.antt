use Rattle.settling.proofs.Counts.{waiting_counted}
use Rattle.settling.proofs.no_more_wait_than_places.Goals as goal

pub returns : goal.returns
returns g c = waiting_counted
