use Rattle.std.proofs.Common.{refl, ◌∙◌}
use Rattle.monitor.proofs.Counting.{totals_owed}
use Rattle.monitor.proofs.watch.Monitor.close.Goals as goal

pub returns : goal.returns
returns g c =
    let core = c.args.self.core in
    record {
      totals = c.total_up.ensures;
      owed = λ σ m rep. c.total_up.ensures ∙ totals_owed g.V.Scale.scale σ m core c.args.self.memory.now rep;
      memory = refl;
    }
