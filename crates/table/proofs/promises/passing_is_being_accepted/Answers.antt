use Rattle.table.proofs.Answering.{passed}
use Rattle.table.proofs.promises.passing_is_being_accepted.Goals as goal

pub returns : goal.returns
returns c = passed
