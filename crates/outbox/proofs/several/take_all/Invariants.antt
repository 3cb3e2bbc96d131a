use Rattle.std.proofs.Common.{◌≡◌, ◌≤◌, ◌++◌, length, take, drop}
use Rattle.outbox.proofs.several.take_all.Given as goal

abbrev pub invariant-loop-i : goal.invariant-loop-i
invariant-loop-i g l =
    let waiting = g.O.Outbox.waiting in
    record {
      within : l.i ≤ length (waiting l.initial.outbox);
      left : waiting l.outbox ≡ drop l.i (waiting l.initial.outbox);
      places : l.places ≡ take l.i (waiting l.initial.outbox) ++ drop l.i l.initial.places;
      free : g.O.Outbox.free l.initial.outbox ≤ g.O.Outbox.free l.outbox;
    }
