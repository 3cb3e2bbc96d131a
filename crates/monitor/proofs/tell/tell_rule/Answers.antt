use Rattle.scale.proofs.Bounding.{bounds}
use Rattle.monitor.proofs.Hand.{hand_start, hand_longer, hand_new}
use Rattle.monitor.proofs.tell.tell_rule.Goals as goal

pub loop-p-init : goal.loop-p-init
loop-p-init g c = hand_start record { other = c.lowest.result; is = c.read-value.ensures.read c.requires.stands; low = c.lowest.ensures; inside = c.if-old-keep.false }

pub loop-p-preserved-then-agree : goal.loop-p-preserved-then-agree
loop-p-preserved-then-agree g c =
    hand_longer (bounds _ g.met.V.Scale.order) c.loop-p.invariant
    record { other = c.lowest-in-loop-p.result; is = c.read-next.ensures.read c.requires.stands; low = c.lowest-in-loop-p.ensures; inside = c.loop-p-test.true }
    c.if-agree.ensures

pub loop-p-preserved : goal.loop-p-preserved
loop-p-preserved g c =
    hand_new (bounds _ g.met.V.Scale.order) c.loop-p.invariant
    record { other = c.lowest-in-loop-p.result; is = c.read-next.ensures.read c.requires.stands; low = c.lowest-in-loop-p.ensures; inside = c.loop-p-test.true }
    c.tell_run.ensures
    c.if-agree.ensures
