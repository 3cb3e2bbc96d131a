-- The first closure's answer that is a fault is the first fault.
use Rattle.std.proofs.Common.{rules}
use Rattle.source.specs.Frames.{answer}
use Rattle.source.proofs.Firsts.{found}
use Rattle.source.proofs.first_fault.Goals as goal

pub returns : goal.returns
returns g c =
    let ask = answer g.S.Source.layer (g.S.Source.frames c.args.source.now) c.args.tick in
    let run = c.find_map.ensures.runs in
    found ask (λ x. x.now) (λ x r h called. search rules) c.args.samples.now run.0 (rw (run.1, c.iter.ensures.rest) at (c.iter.ensures.runs run.0 run.0.seen)) c.find_map.result run.2
