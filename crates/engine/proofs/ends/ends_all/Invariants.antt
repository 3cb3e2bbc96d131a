use Rattle.engine.proofs.Allends.{Storing}
use Rattle.engine.proofs.ends.ends_all.Given as goal

abbrev pub invariant-loop-k : goal.invariant-loop-k
invariant-loop-k g l = Storing g.V.Scale.scale l.nodes l.tick.number l.initial.memory l.keeps l.k l.memory
