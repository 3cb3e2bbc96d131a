use Rattle.settling.proofs.Apart.{runs_apart}
use Rattle.settling.proofs.neighbouring_records_differ.Goals as goal

pub returns : goal.returns
returns g c = runs_apart
