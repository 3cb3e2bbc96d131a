use Rattle.source.specs.Frames.{answer}
use Rattle.engine.proofs.Wholetick.{around_kept, whole_tick}
use Rattle.engine.proofs.tick.tick_all.Goals as goal

pub returns-clause-others : goal.returns-clause-others
returns-clause-others g c =
    let a = c.args in
    let settled = c.settle_all.ensures in
    around_kept a.nodes.now a.tick.number a.memory.now c.settle_all.new.memory c.ends_all.new.memory a.keeps.now c.settle_all.new.keeps settled.sound.each c.requires.sound settled.regions settled.others c.ends_all.ensures.others

pub returns-clause-next : goal.returns-clause-next
returns-clause-next g c =
    let a = c.args in
    let settled = c.settle_all.ensures in
    let ended = c.ends_all.ensures in
    whole_tick a.nodes.now a.tick.number a.memory.now c.settle_all.new.memory c.ends_all.new.memory a.keeps.now c.settle_all.new.keeps settled.sound.each g.V.Scale.scale (answer g.S.Source.layer (g.S.Source.frames a.source.now) a.tick.number) settled.next ended.queues ended.stored
