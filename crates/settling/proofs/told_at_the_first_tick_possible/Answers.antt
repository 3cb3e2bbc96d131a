use Rattle.settling.proofs.Timing.{all_in_time}
use Rattle.settling.proofs.told_at_the_first_tick_possible.Goals as goal

pub returns : goal.returns
returns g c = all_in_time
