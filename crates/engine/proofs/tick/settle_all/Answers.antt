use Rattle.std.proofs.Common.{◌≡◌, suc, ◌+◌, false, get_or, set, sym, subst, ⊎_elim, rules}
use Rattle.std.proofs.lemmas.Bool.{both_ways}
use Rattle.scale.proofs.Bounding.{bounds}
use Rattle.source.specs.Frames.{answer}
use Rattle.table.specs.declared.kind.Kind.{Kind}
use Rattle.table.specs.Kinds.{at_once}
use Rattle.table.specs.Tables.{blank}
use Rattle.settling.proofs.Sorts.{Inner, once_or_later}
use Rattle.engine.specs.Settling.{Settles}
use Rattle.engine.specs.State.{keep_of}
use Rattle.engine.specs.Ticking.{Sound, sample_of, operand_of}
use Rattle.engine.proofs.Allnodes.{Going, going_on, going_sound, operand_apart}
use Rattle.engine.proofs.tick.settle_all.Goals as goal

late_inner : (k : Kind) → at_once k ≡ false → Inner k
late_inner k e = ⊎_elim (λ now. absurd (both_ways _ e now)) (λ later. later.2) (once_or_later k)

pub settle-requires-clause-apart : goal.settle-requires-clause-apart
settle-requires-clause-apart g c e =
    let x = get_or c.args.nodes.now c.loop-k.k blank in
    let turn = c.of-turn.ensures in
    let h = c.loop-k-test.true in
    let inner = late_inner x.kind (rw turn.node at e) in
    let below = c.requires.sound.below c.loop-k.k h inner in
    let apart = operand_apart (bounds _ g.met.V.Scale.order) c.requires.sound c.loop-k.invariant h in
    rw (turn.own, turn.left, turn.right) (apart x.left inner below.0, apart x.right inner below.1)

pub loop-k-preserved : goal.loop-k-preserved
loop-k-preserved g c =
    let a = c.args in
    let s = g.V.Scale.scale in
    let k = c.loop-k.k in
    let qs = c.loop-k.keeps in
    let x = get_or a.nodes.now k blank in
    let turn = c.of-turn.ensures in
    let answers = answer g.S.Source.layer (g.S.Source.frames a.source.now) a.tick.number in
    let step : Settles s (sample_of s answers x) c.loop-k.memory c.settle.new.self.memory.now x (keep_of qs k) c.settle.new.self.own (operand_of qs x k x.left) (operand_of qs x k x.right) a.tick.number =
    rw (c.sample_of.ensures, turn.memory, turn.own, turn.left, turn.right, turn.node) at c.settle.ensures.settles in
    subst (λ m. Going s answers a.nodes.now a.tick.number a.memory.now a.keeps.now (k + 1) m (set qs k c.settle.new.self.own)) (search rules)
    (going_on (bounds s g.met.V.Scale.order) c.requires.sound c.loop-k.invariant c.loop-k-test.true step c.loop-k.auto.keeps c.loop-k.auto.memory)

pub returns-clause-sound : goal.returns-clause-sound
returns-clause-sound g c =
    subst (λ z. Sound c.args.nodes.now c.loop-k.keeps z (suc c.args.tick.number)) (sym c.loop-k.auto.memory) (going_sound (bounds _ g.met.V.Scale.order) c.requires.sound c.loop-k.invariant c.loop-k.auto.keeps)
