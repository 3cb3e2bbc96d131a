use Rattle.scale.proofs.Bounding.{bounds}
use Rattle.scale.proofs.total_orders_have_bounds.Goals as goal

pub returns : goal.returns
returns g c = bounds
