use Rattle.monitor.proofs.Earlyread.{ends_read}
use Rattle.monitor.proofs.watch.Monitor.read.Goals as goal

pub returns : goal.returns
returns g c =
    let x = c.args.self.now in
    let said = c.read_ends.ensures in
    record {
      fault = said.fault;
      ends = ends_read g.V.Scale.scale x.core x.memory.now c.args.rule c.read_ends.result said.fault said.lower said.upper;
    }
