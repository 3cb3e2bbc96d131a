use Rattle.settling.proofs.Deciding.{decided}
use Rattle.settling.proofs.settled_at_its_own_tick_is_decided.Goals as goal

pub returns : goal.returns
returns g c = decided
