use Rattle.settling.proofs.Telling.{told_once}
use Rattle.settling.proofs.each_position_is_told_once.Goals as goal

pub returns : goal.returns
returns g c = told_once
