use Rattle.settling.proofs.Held.{held_in_places}
use Rattle.settling.proofs.what_waits_has_a_place.Goals as goal

pub returns : goal.returns
returns g c = held_in_places
