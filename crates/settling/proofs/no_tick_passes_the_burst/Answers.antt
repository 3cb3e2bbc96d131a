use Rattle.settling.proofs.Burst.{burst_bound}
use Rattle.settling.proofs.no_tick_passes_the_burst.Goals as goal

pub returns : goal.returns
returns g c = burst_bound
