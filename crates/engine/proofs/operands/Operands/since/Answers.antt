use Rattle.std.proofs.Common.{◌+◌, min, sym, ap, ◌∙◌, arith}
use Rattle.scale.proofs.Bounding.{bounds}
use Rattle.settling.proofs.Folds.{greatest_none}
use Rattle.engine.proofs.Folding.{since_begun, since_on}
use Rattle.engine.proofs.operands.Operands.since.Goals as goal

pub loop-j-init : goal.loop-j-init
loop-j-init g c = since_begun (bounds _ g.met.V.Scale.order) c.lowest-most.ensures c.least-run.ensures

pub loop-j-preserved : goal.loop-j-preserved
loop-j-preserved g c =
    since_on (bounds _ g.met.V.Scale.order) c.loop-j.auto.j (omega (arith, c.loop-j-test.true, c.min-j-end.ensures)) c.loop-j.invariant
    (c.lesser.ensures ∙ ap (λ x. g.V.Scale.scale.lesser x c.loop-j.run) c.at.ensures) c.greater-most.ensures c.at-in-loop-j.ensures c.lesser-run.ensures

-- no window: the position is before its opening
pub returns-then-i-from : goal.returns-then-i-from
returns-then-i-from g c = c.lowest-most.ensures ∙ sym (greatest_none (bounds _ g.met.V.Scale.order) _ c.args.self.now.node.from (min c.args.self.now.node.to c.args.i + 1) (omega (arith, c.if-i-from.true, c.from-from.ensures)))
