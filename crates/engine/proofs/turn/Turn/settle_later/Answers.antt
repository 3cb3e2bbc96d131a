use Rattle.std.proofs.Common.{◌≡◌, sym, refl, ◌∙◌, arith}
use Rattle.std.proofs.lemmas.Bool.{true≢false, both_ways}
use Rattle.scale.proofs.Bounding.{bounds}
use Rattle.settling.proofs.Orders.{same_equal, equal_same}
use Rattle.engine.specs.Working.{worked}
use Rattle.engine.proofs.Running.{ran_start, ran_step, worked_as_before}
use Rattle.engine.proofs.turn.Turn.settle_later.Goals as goal

pub loop-i-init : goal.loop-i-init
loop-i-init g c =
    let was = c.args.self.now in
    record {
      ran = ran_start was.own_stands;
      count = refl;
      node = refl;
      left = refl;
      right = refl;
      long = refl;
      lends = refl;
    }

pub loop-i-preserved : goal.loop-i-preserved
loop-i-preserved g c =
    let was = c.args.self.now in
    let is = c.loop-i.self in
    let s = g.V.Scale.scale in
    let so_far = c.loop-i.invariant in
    let low : c.work_out-low.result ≡ worked s c.args.sample is.memory.now was.node was.left was.right s.lowest is.own.count = cc in
    let high : c.work_out-high.result ≡ worked s c.args.sample is.memory.now was.node was.left was.right s.highest is.own.count = cc in
    record {
      ran = ran_step was.own_stands c.requires.apart.0 c.requires.apart.1 so_far.ran so_far.long c.keep_next.ensures.kept low high (same_equal (bounds _ g.met.V.Scale.order) _ _ (sym c.if-not-agree.ensures));
      count = omega (arith, c.keep_next.ensures.kept.count, so_far.count);
      node = c.keep_next.ensures.rest.0 ∙ so_far.node;
      left = c.keep_next.ensures.rest.1 ∙ so_far.left;
      right = c.keep_next.ensures.rest.2 ∙ so_far.right;
      long = c.keep_next.ensures.long ∙ so_far.long;
      lends = c.keep_next.ensures.lends ∙ so_far.lends;
    }

pub returns-then-not-agree-clause-settles : goal.returns-then-not-agree-clause-settles
returns-then-not-agree-clause-settles g c =
    let was = c.args.self.now in
    let is = c.loop-i.self in
    let s = g.V.Scale.scale in
    let so_far = c.loop-i.invariant in
    let low : c.work_out-low.result ≡ worked s c.args.sample is.memory.now was.node was.left was.right s.lowest is.own.count = cc in
    let high : c.work_out-high.result ≡ worked s c.args.sample is.memory.now was.node was.left was.right s.highest is.own.count = cc in
    let before = worked_as_before was.own_stands c.requires.apart.0 c.requires.apart.1 so_far.ran in
    record {
      gained = so_far.ran.gained;
      one = λ e. absurd (true≢false (sym e ∙ c.requires.later));
      top = λ e. omega (arith, so_far.count, c.loop-i-test.true);
      pass = λ e. so_far.ran.pass;
      stop = λ e lt same. both_ways _ (sym c.if-not-agree.ensures) (equal_same (bounds _ g.met.V.Scale.order) _ _
          (low ∙ before s.lowest is.own.count ∙ same ∙ sym (high ∙ before s.highest is.own.count)));
    }
