use Rattle.std.proofs.Common.{arith}
use Rattle.outbox.proofs.Listed.{one_there, take_more_left, take_more_places}
use Rattle.outbox.proofs.several.take_all.Goals as goal

pub loop-i-preserved : goal.loop-i-preserved
loop-i-preserved g c =
    let took = c.in-Ok.ensures.taken in
    let so_far = c.loop-i.invariant in
    record {
      within = one_there _ _ _ _ _ so_far.left took.removed;
      left = take_more_left (g.O.Outbox.waiting c.args.outbox.now) _ _ c.loop-i.i _ so_far.left took.removed;
      places = take_more_places _ _ _ _ _ so_far.left took.removed _ _ so_far.places c.loop-i-test.true;
      free = omega (arith, so_far.free, took.unlowered);
    }
