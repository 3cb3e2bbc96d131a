-- The sum that is held against the limit does not wrap.
use Rattle.std.proofs.Common.{w32, SFits, rules}
use Rattle.std.proofs.lemmas.Int.{to_z-of_z}
use Rattle.comparators.proofs.Scaling.{sum_is}
use Rattle.comparators.proofs.comparator.Comparator.say.Goals as goal

pub returns : goal.returns
returns c =
    let fits : SFits w32 c.args.self.limit = search rules in
    let met = rw (sum_is c.args.first c.args.second c.requires.first c.requires.second, to_z-of_z w32 c.args.self.limit fits) at c.is_met.ensures in
    cc
