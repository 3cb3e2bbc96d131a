use Rattle.engine.specs.Kept.{reading}
use Rattle.engine.proofs.Folding.{SinceSoFar}
use Rattle.engine.proofs.operands.Operands.since.Given as goal

abbrev pub invariant-loop-j : goal.invariant-loop-j
invariant-loop-j g l = SinceSoFar g.V.Scale.scale (reading l.other l.left.memory.now l.left.keep) (reading l.other l.right.memory.now l.right.keep) l.i l.from l.j l.most l.run
