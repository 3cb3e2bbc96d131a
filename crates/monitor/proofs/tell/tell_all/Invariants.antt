use Rattle.monitor.proofs.Allrules.{OfferedBelow}
use Rattle.monitor.proofs.tell.tell_all.Given as goal

abbrev pub invariant-loop-r : goal.invariant-loop-r
invariant-loop-r g l = OfferedBelow g.O.Outbox.waiting g.O.Outbox.free g.V.Scale.scale l.memory l.keeps l.rules l.olds l.tick.number l.initial.outbox l.outbox l.r
