use Rattle.std.proofs.Common.{◌≡◌, ◌+◌, ◌++◌, take}
use Rattle.outbox.proofs.several.put_all.Given as goal

abbrev pub invariant-loop-record : goal.invariant-loop-record
invariant-loop-record g l =
    (g.O.Outbox.waiting l.outbox ≡ g.O.Outbox.waiting l.initial.outbox ++ take l.record-index l.records)
    × (g.O.Outbox.free l.outbox + l.record-index ≡ g.O.Outbox.free l.initial.outbox)
