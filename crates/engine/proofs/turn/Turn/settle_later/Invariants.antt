use Rattle.std.proofs.Common.{◌≡◌, length}
use Rattle.engine.proofs.Running.{Ran}
use Rattle.engine.proofs.turn.Turn.settle_later.Given as goal

abbrev pub invariant-loop-i : goal.invariant-loop-i
invariant-loop-i g l =
    let was = l.initial.self in
    record {
      ran : Ran g.V.Scale.scale l.sample was.memory.now l.self.memory.now was.node was.own l.self.own was.left was.right;
      count : l.self.own.count ≡ l.i;
      node : l.self.node ≡ was.node;
      left : l.self.left ≡ was.left;
      right : l.self.right ≡ was.right;
      long : length l.self.memory.now ≡ length was.memory.now;
      lends : l.self.memory.ghost_name ≡ was.memory.ghost_name;
    }
