use Rattle.monitor.proofs.Hand.{AtHand}
use Rattle.monitor.proofs.tell.tell_rule.Given as goal

abbrev pub invariant-loop-p : goal.invariant-loop-p
invariant-loop-p g l = AtHand g.O.Outbox.waiting g.O.Outbox.free g.V.Scale.scale l.memory l.keep l.rule l.tick.number l.old l.initial.outbox l.outbox l.first l.p l.value
