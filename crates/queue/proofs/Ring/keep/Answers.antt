use Rattle.std.proofs.Common.{arith}
use Rattle.queue.proofs.Rings.{kept_in_room, kept_in_full}
use Rattle.queue.proofs.Ring.keep.Goals as goal
use Rattle.queue.proofs.Ring.keep.Goals.{then-full, else-full}

pub returns-clause-items : goal.returns-clause-items
returns-clause-items g c =
    let was = c.args.self.now in
    let mid = c.if-full.self in
    let then = c.push.new.self in
    let pushed = c.push.ensures.items in
    elim c.if-full.branch [
      | then-full w ↦
          let popped = rw (← w.self-is) at w.pop.ensures.items in
          let slots = rw (← w.self-is) at w.pop.ensures.slots in
          kept_in_full was mid then c.args.x (omega (arith, w.if-full.true)) slots w.pop.result popped c.push.result pushed c.push.ensures.slots
      | else-full w ↦ kept_in_room was mid then c.args.x c.push.result pushed w.self-is (omega (arith, w.if-full.false))
    ]
