use Rattle.std.proofs.Common.{ap, ◌∙◌}
use Rattle.scale.proofs.Bounding.{bounds}
use Rattle.engine.proofs.Folding.{until_begun, until_on}
use Rattle.engine.proofs.operands.Operands.until.Goals as goal

pub loop-j-init : goal.loop-j-init
loop-j-init g c = until_begun (bounds _ g.met.V.Scale.order) c.lowest-most.ensures c.highest-run.ensures

pub loop-j-preserved : goal.loop-j-preserved
loop-j-preserved g c =
    until_on (bounds _ g.met.V.Scale.order) c.loop-j.auto.j c.loop-j.invariant
    (c.lesser.ensures ∙ ap (λ x. g.V.Scale.scale.lesser x c.loop-j.run) c.at.ensures) c.greater-most.ensures c.at-in-loop-j.ensures c.lesser-run.ensures
