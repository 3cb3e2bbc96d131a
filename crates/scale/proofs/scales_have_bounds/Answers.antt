use Rattle.scale.proofs.Bounding.{bounds}
use Rattle.scale.proofs.scales_have_bounds.Goals as goal

pub returns : goal.returns
returns g c = bounds g.V.Scale.scale g.met.V.Scale.order
