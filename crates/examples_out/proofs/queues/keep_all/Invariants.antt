use Rattle.std.proofs.Common.{◌≡◌, ◌-◌, ◌++◌, length, take}
use Rattle.queue.specs.Contents.{newest}
use Rattle.queue.specs.Regions.{held, Stands}
use Rattle.examples_out.proofs.queues.keep_all.Given as goal

abbrev pub invariant-loop-x : goal.invariant-loop-x
invariant-loop-x g l =
    Stands (length l.memory) l.from l.to l.at
    × (held l.memory l.from l.to l.at ≡ newest (l.to - l.from) (held l.initial.memory l.from l.to l.initial.at ++ take l.x-index l.values))
