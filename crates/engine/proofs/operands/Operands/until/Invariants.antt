use Rattle.engine.specs.Kept.{reading}
use Rattle.engine.proofs.Folding.{UntilSoFar}
use Rattle.engine.proofs.operands.Operands.until.Given as goal

abbrev pub invariant-loop-j : goal.invariant-loop-j
invariant-loop-j g l = UntilSoFar g.V.Scale.scale (reading l.other l.left.memory.now l.left.keep) (reading l.other l.right.memory.now l.right.keep) l.i l.from l.j l.most l.run
