use Rattle.source.specs.Frames.{answer}
use Rattle.engine.proofs.Allnodes.{Going}
use Rattle.engine.proofs.tick.settle_all.Given as goal

abbrev pub invariant-loop-k : goal.invariant-loop-k
invariant-loop-k g l = Going g.V.Scale.scale (answer g.S.Source.layer (g.S.Source.frames l.source) l.tick.number) l.nodes l.tick.number l.initial.memory l.initial.keeps l.k l.memory l.keeps
