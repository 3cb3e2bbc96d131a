use Rattle.std.proofs.Common.{◌≡◌, ◌+◌, ◌≤◌, vec_items, vec_len, vec_capacity}
use Rattle.source.specs.Frames.{answer}
use Rattle.calls.specs.States.{box_of, state_of}
use Rattle.life.proofs.Living.{Living}
use Rattle.life.proofs.whole.live_on.Given as goal

-- the calls so far, room for those to come, and the memory that was lent
abbrev pub invariant-loop : goal.invariant-loop
invariant-loop g l =
    Living g.V.Scale.scale (answer g.S.Source.layer (g.S.Source.frames l.source)) (box_of g.O.Outbox.waiting g.O.Outbox.free g.O.Outbox.regained) g.C.Caller.names g.C.Caller.after (state_of l.initial.monitor l.initial.outbox) l.initial.caller (vec_items l.initial.log) l.counter (vec_items l.log) (state_of l.monitor l.outbox) l.caller l.last
    × (vec_len l.log + l.room ≤ vec_capacity l.log + l.counter)
    × (l.monitor.memory.ghost_name ≡ l.initial.monitor.memory.ghost_name)
