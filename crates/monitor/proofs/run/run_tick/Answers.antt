use Rattle.std.proofs.Common.{◌≡◌, ◌≤◌, ltb, length, sym, ap, ◌∙◌, ap₂}
use Rattle.std.proofs.lemmas.Bool.{ltb-false}
use Rattle.source.specs.Frames.{answer}
use Rattle.table.specs.Places.{burst}
use Rattle.table_check.specs.Plans.{table_of}
use Rattle.engine.specs.Refusals.{tick_fault}
use Rattle.engine.specs.Represents.{monitored}
use Rattle.monitor.proofs.Onetick.{enough_room, all_issued_by}
use Rattle.monitor.proofs.run.run_tick.Goals as goal

pub returns : goal.returns
returns g c =
    let a = c.args in
    let core = a.core.now in
    let t = monitored core in
    let space = length a.memory.now in
    let answers = answer g.S.Source.layer (g.S.Source.frames a.source.now) core.ticks in
    let waiting = g.O.Outbox.waiting in
    let free = g.O.Outbox.free in
    let went = c.in_ok-advance.ensures in
    let tested = ltb c.room.result c.burst.result in
    let same : tested ≡ ltb (free a.outbox.now) (burst t) = ap₂ ltb c.room.ensures (c.burst.ensures ∙ ap (λ p. burst (table_of p)) c.plan.ensures) in
    let enough : burst t ≤ free a.outbox.now = ltb-false _ _ (sym same ∙ enough_room t core.ticks space tested answers went.fault) in
    record {
      fault = went.fault ∙ ap (λ b. tick_fault t core.ticks space b answers) same;
      outcome = record {
        advanced = went.outcome;
        issued = all_issued_by g.V.Scale.scale answers waiting free core c.advance.new.self a.memory.now c.advance.new.memory a.outbox.now c.issue.new.outbox c.settled_by-olds.result went.outcome c.settled_by-olds.ensures enough c.issue.ensures;
      };
    }
