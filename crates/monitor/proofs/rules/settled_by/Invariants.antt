use Rattle.std.proofs.Common.{◌≡◌, ℕ, ◌<◌, length, get_or}
use Rattle.engine.specs.State.{keep_of}
use Rattle.monitor.proofs.rules.settled_by.Given as goal

abbrev pub invariant-loop-r : goal.invariant-loop-r
invariant-loop-r l = (length l.settled ≡ 16) × ((i : ℕ) → i < l.r → get_or l.settled i 0 ≡ (keep_of l.core.keeps (get_or l.rules i 0)).count)
