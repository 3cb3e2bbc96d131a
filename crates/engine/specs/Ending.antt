-- A node's two ends at tick n, as they are worked out from the values stored behind the queues: behind a queue stands the
-- lower end, and then the upper. Assumes nothing.
use Rattle.std.specs.Prelude.{ℕ, ◌+◌, cond, List}
use Rattle.scale.specs.Order.{Scale}
use Rattle.table.specs.declared.node.Node.{Node}
use Rattle.table.specs.Kinds.{at_once, turned}
use Rattle.settling.specs.Early.{Ends, both_ends, exchanged}
use Rattle.engine.specs.declared.keep.Keep.{Keep}
use Rattle.engine.specs.Kept.{reading}
use Rattle.engine.specs.Working.{worked}

-- the value in one slot, as a queue of one place that holds position n
abbrev pub slot_as_queue : (slot n : ℕ) → Keep
slot_as_queue slot n = record { from = slot; to = slot + 1; at = record { head = 0; len = 1 }; count = n + 1 }

module _ {V : Type 0} (s : Scale V) (memory : List V) (x : Node) where
  -- the value of x at n, from what the two slots say of its operands there, with y after n
  abbrev pub from_slots : (left right n : ℕ) → V → V
  from_slots left right n y = worked s s.lowest memory x (slot_as_queue left n) (slot_as_queue right n) y n

  -- from the lower ends of the operands, and from the upper
  abbrev pub from_stored : (l r : Keep) → ℕ → Ends V
  from_stored l r n = record {
    lower = from_slots l.to r.to n s.lowest;
    upper = from_slots (l.to + 1) (r.to + 1) n s.highest;
  }

  -- A sample or a node that looks back has as both what its queue holds at n. Another kind has those from its operands,
  -- which `not` exchanges.
  abbrev pub ends_from : (own left right : Keep) → ℕ → Ends V
  ends_from q l r n =
      cond (at_once x.kind) (both_ends (reading s.lowest memory q n))
      (cond (turned x.kind) (exchanged (from_stored l r n)) (from_stored l r n))
