use Rattle.settling.proofs.Early.{enclosing}
use Rattle.settling.proofs.early_ends_enclose_the_value.Goals as goal

pub returns : goal.returns
returns g c = enclosing
