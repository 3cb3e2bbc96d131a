use Rattle.std.proofs.Common.{◌-◌, [], ◌∷◌, ◌++◌, take, sym, ap, subst, arith}
use Rattle.std.proofs.lemmas.Grind.{common_steps}
use Rattle.queue.specs.Regions.{held, Stands}
use Rattle.queue.proofs.Newest.{newest_all, newest_append}
use Rattle.queue.proofs.Regions.{length_held}
use Rattle.examples_out.proofs.queues.keep_all.Goals as goal

pub loop-x-init : goal.loop-x-init
loop-x-init g c =
    let short = length_held c.args.memory.now c.args.from c.args.to c.args.at c.requires in
    (c.requires, grind (arith, common_steps, newest_all, short, c.requires.fits.holds))

pub loop-x-preserved : goal.loop-x-preserved
loop-x-preserved g c =
    let before = held c.args.memory.now c.args.from c.args.to c.args.at ++ take c.loop-x.x-index c.args.values.now in
    let stand = rw c.unwrap-at.ensures at c.keep_at.ensures.stand in
    let memory = rw c.unwrap-at.ensures at c.keep_at.ensures.memory in
    let kept = ap (λ d. d.held) memory in
    let joined = newest_append (c.args.to - c.args.from) before (c.x-item.result ∷ []) in
    (subst (λ size. Stands size c.args.from c.args.to c.unwrap-at.result) (sym c.keep_at.auto.memory) stand.1, grind (arith, common_steps, kept, joined))
