use Rattle.settling.proofs.Lasting.{earliest}
use Rattle.settling.proofs.nothing_known_is_held_back.Goals as goal

pub returns : goal.returns
returns g c = earliest
