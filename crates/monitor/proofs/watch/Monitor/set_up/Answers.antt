use Rattle.std.proofs.Common.{refl}
use Rattle.scale.proofs.Bounding.{bounds}
use Rattle.engine.proofs.Beginning.{stands_for_all}
use Rattle.monitor.proofs.watch.Monitor.set_up.Goals as goal

pub returns : goal.returns
returns g c =
    let s = g.V.Scale.scale in
    let fresh = c.new.ensures in
    record {
      set_up = record {
        plan = fresh.plan;
        lent = refl;
        every = λ σ. stands_for_all s (bounds s g.met.V.Scale.order) σ c.args.plan c.new.result c.args.memory.now fresh;
      };
      lends = refl;
    }
