use Rattle.std.proofs.Common.{◌≡◌, ◌+◌, length, take, sym, refl, ap, subst, arith}
use Rattle.source.specs.Frames.{answer}
use Rattle.table.specs.Places.{need as need_of}
use Rattle.engine.specs.Represents.{monitored}
use Rattle.engine.specs.State.{AllAt, AllEnds}
use Rattle.engine.specs.Ticking.{Sound, Asked, Ticked}
use Rattle.table_check.proofs.Lawful.{plan_accepted}
use Rattle.engine.proofs.Cores.{queues_sound, still_rising, still_stands, still_counted}
use Rattle.engine.proofs.Wholetick.{beyond_kept}
use Rattle.engine.proofs.state.Core.take_on.Goals as goal

pub tick_all-requires-clause-sound : goal.tick_all-requires-clause-sound
tick_all-requires-clause-sound g c =
    let core = c.args.self.now in
    subst (λ ns. Sound ns (take (length ns) core.keeps) (length c.args.memory.now) core.ticks) (sym c.nodes.ensures) (queues_sound core (length c.args.memory.now) c.requires.room (omega arith))

pub invariant_of-self-clause-rising : goal.invariant_of-self-clause-rising
invariant_of-self-clause-rising g c = still_rising c.args.self.now c.tick_all.new.keeps c.tick_all.ensures.regions

pub invariant_of-self-clause-inside : goal.invariant_of-self-clause-inside
invariant_of-self-clause-inside g c k h = omega (arith, (c.tick_all.ensures.regions k).1, c.args.self.now.inside k h)

pub invariant_of-self-clause-stands : goal.invariant_of-self-clause-stands
invariant_of-self-clause-stands g c = still_stands c.args.self.now c.tick_all.new.keeps c.tick_all.ensures.regions c.nodes.result.now _ _ c.tick_all.ensures.sound c.nodes.ensures

pub invariant_of-self-clause-counted : goal.invariant_of-self-clause-counted
invariant_of-self-clause-counted g c = still_counted c.args.self.now c.tick_all.new.keeps c.tick_all.ensures.regions c.nodes.result.now _ _ c.tick_all.ensures.sound c.nodes.ensures (c.args.self.now.ticks + 1) (omega arith)

pub returns : goal.returns
returns g c =
    let core = c.args.self.now in
    let t = monitored core in
    let memory = c.args.memory.now in
    let now = c.tick_all.new.memory in
    let qs = c.tick_all.new.keeps in
    let after = c.tick_all.ensures in
    let s = g.V.Scale.scale in
    let answers = answer g.S.Source.layer (g.S.Source.frames c.args.source.now) core.ticks in
    record {
      plan = refl;
      ticks = omega arith;
      beyond = beyond_kept (length c.nodes.result.now) (need_of t) memory now core.keeps after.others c.tick_all.auto.memory (λ k h. core.inside k (omega (arith, ap length c.nodes.ensures, h)));
      next = λ σ m asked rep.
          let done : Ticked s σ m t now qs = subst (λ m. Asked answers σ m t → AllAt s σ m t memory core.keeps → Ticked s σ m t now qs) rep.ticks (after.next t σ (plan_accepted core.plan) (sym c.nodes.ensures)) asked rep.queues in
          record {
            ticks = omega (arith, rep.ticks);
            queues = done.queues;
            ends = λ n last. let same : m ≡ n = omega arith in subst (λ n. AllEnds s σ n t now qs) same done.ends;
          };
    }
