use Rattle.std.proofs.Common.{◌≡◌, ◌+◌, length, get_or, set, sym, ap, ◌∙◌, subst, arith, rules}
use Rattle.scale.proofs.Bounding.{bounds}
use Rattle.table.specs.Tables.{blank}
use Rattle.engine.specs.Ending.{ends_from}
use Rattle.engine.specs.State.{keep_of}
use Rattle.engine.specs.Ticking.{operand_of}
use Rattle.engine.proofs.Allends.{Storing, operand_room, still_at, storing_set}
use Rattle.engine.proofs.ends.ends_all.Goals as goal

pub ends-ends-requires : goal.ends-ends-requires
ends-ends-requires g c =
    let a = c.args in
    let k = c.loop-k.k in
    let h = c.loop-k-test.true in
    let x = get_or a.nodes.now k blank in
    let turn = c.of-turn.ensures in
    let room = operand_room c.requires.sound c.requires.inside h in
    let below = c.requires.sound.below k h in (
      omega (arith, ap (λ u. u.to) turn.left, room x.left (λ e. (below e).0), ap length turn.memory, c.loop-k.auto.memory),
      omega (arith, ap (λ u. u.to) turn.right, room x.right (λ e. (below e).1), ap length turn.memory, c.loop-k.auto.memory),
    )

pub loop-k-preserved : goal.loop-k-preserved
loop-k-preserved g c =
    let a = c.args in
    let s = g.V.Scale.scale in
    let k = c.loop-k.k in
    let x = get_or a.nodes.now k blank in
    let q = keep_of a.keeps.now k in
    let v = c.ends-ends.result.0 in
    let w = c.ends-ends.result.1 in
    let found = ends_from s c.loop-k.memory x q (operand_of a.keeps.now x k x.left) (operand_of a.keeps.now x k x.right) a.tick.number in
    let low : v ≡ found.lower = cc in
    let high : w ≡ found.upper = cc in
    let stored : c.store.new.self.memory.now ≡ set (set c.loop-k.memory q.to v) (q.to + 1) w = cc in
    subst (Storing s a.nodes.now a.tick.number a.memory.now a.keeps.now (k + 1)) (sym stored ∙ search rules)
    (storing_set (bounds s g.met.V.Scale.order) c.requires.sound c.requires.inside c.loop-k.invariant c.loop-k-test.true c.loop-k.auto.memory v w low high)

pub returns-clause-queues : goal.returns-clause-queues
returns-clause-queues g c = still_at c.requires.sound g.V.Scale.scale _ _ c.loop-k.invariant.others
