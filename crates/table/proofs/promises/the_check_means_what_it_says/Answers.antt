use Rattle.table.proofs.Answering.{checked}
use Rattle.table.proofs.promises.the_check_means_what_it_says.Goals as goal

pub returns : goal.returns
returns c = checked
