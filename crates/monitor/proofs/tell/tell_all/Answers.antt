use Rattle.std.proofs.Common.{◌≡◌, ◌≤◌, length, subst, arith}
use Rattle.scale.proofs.Bounding.{bounds}
use Rattle.monitor.proofs.Allrules.{OfferedBelow, below_more, below_all}
use Rattle.monitor.proofs.tell.tell_all.Goals as goal

pub loop-r-preserved : goal.loop-r-preserved
loop-r-preserved g c =
    let a = c.args in
    let l = c.loop-r in
    below_more g.O.Outbox.waiting g.O.Outbox.free g.V.Scale.scale a.memory.now a.keeps.now a.rules a.olds a.tick.number a.outbox.now l.outbox c.tell_rule.new.outbox l.r c.keep_of-keep.result c.keep_of-keep.ensures l.invariant c.tell_rule.ensures

pub returns : goal.returns
returns g c =
    let a = c.args in
    let l = c.loop-r in
    let s = g.V.Scale.scale in
    let w = g.O.Outbox.waiting in
    let f = g.O.Outbox.free in
    let long : a.count ≤ length a.rules = omega (arith, c.requires.few) in
    let end : l.r ≡ a.count = omega (arith, c.loop-r-test.false, l.auto) in
    below_all w f s a.memory.now a.keeps.now a.rules a.olds a.tick.number a.outbox.now (bounds s g.met.V.Scale.order) a.count long c.requires.stand l.outbox
    (subst (OfferedBelow w f s a.memory.now a.keeps.now a.rules a.olds a.tick.number a.outbox.now l.outbox) end l.invariant)
