use Rattle.std.proofs.Common.{sym, refl, ◌∙◌, inl, inr, arith}
use Rattle.scale.proofs.Bounding.{bounds}
use Rattle.life.proofs.Living.{living_start, living_on, lived, begun_by}
use Rattle.life.proofs.whole.live_on.Goals as goal

pub loop-init : goal.loop-init
loop-init g c = (living_start, omega (arith, c.capacity.ensures, c.len.ensures, c.args.log.now.ok.1), refl)

pub loop-preserved : goal.loop-preserved
loop-preserved g c =
    let so_far = c.loop.invariant in
    let pushed = c.push_reserved.ensures in (
      living_on so_far.0 c.in-Some.is c.next.ensures.named c.next.ensures.moved c.make-answer.ensures.step pushed.items,
      omega (arith, so_far.1, pushed.len, pushed.capacity),
      c.make-answer.ensures.lends ∙ so_far.2,
    )

pub returns-after-loop : goal.returns-after-loop
returns-after-loop g c =
    let set_up = c.set_up-monitor.ensures in
    record {
      life = lived (bounds _ g.met.V.Scale.order) (begun_by set_up.set_up) c.loop.invariant.0
          (inr (omega (arith, c.loop-test.false, c.loop.auto.counter-end, c.capacity.ensures, c.len.ensures), refl));
      lends = c.loop.invariant.2 ∙ set_up.lends;
    }

pub returns-in_default : goal.returns-in_default
returns-in_default g c =
    let set_up = c.set_up-monitor.ensures in
    record {
      life = lived (bounds _ g.met.V.Scale.order) (begun_by set_up.set_up) c.loop.invariant.0
          (inl (sym c.next.ensures.named ∙ c.in_default.is, c.next.ensures.moved));
      lends = c.loop.invariant.2 ∙ set_up.lends;
    }
