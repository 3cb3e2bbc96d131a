use Rattle.std.proofs.Common.{refl}
use Rattle.source.specs.Frames.{answer}
use Rattle.monitor.proofs.Wholemonitor.{tick_of}
use Rattle.monitor.proofs.watch.Monitor.tick.Goals as goal

pub returns : goal.returns
returns g c =
    let x = c.args.self.now in
    let answers = answer g.S.Source.layer (g.S.Source.frames c.args.source.now) x.core.ticks in
    record {
      fault = c.run_tick.ensures.fault;
      outcome = tick_of g.V.Scale.scale answers g.O.Outbox.waiting g.O.Outbox.free x c.run_tick.new.core c.run_tick.new.memory c.args.outbox.now c.run_tick.new.outbox c.run_tick.result c.run_tick.ensures.outcome;
      lends = refl;
    }
