use Rattle.std.proofs.Common.{◌≡◌, drop}
use Rattle.source.specs.Frames.{answer, first_fault}
use Rattle.engine.specs.Asking.{samples_of}
use Rattle.engine.proofs.ask.ask_all.Given as goal

-- no fault among the nodes so far
abbrev pub invariant-loop-node : goal.invariant-loop-node
invariant-loop-node g l =
    let answers = answer g.S.Source.layer (g.S.Source.frames l.source) l.n in
    first_fault answers (samples_of (drop l.node-index l.nodes)) ≡ first_fault answers (samples_of l.nodes)
