use Rattle.settling.proofs.Telling.{totalled}
use Rattle.settling.proofs.close_counts_what_was_told.Goals as goal

pub returns : goal.returns
returns g c = totalled
