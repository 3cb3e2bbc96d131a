use Rattle.std.proofs.Common.{◌≡◌, map, length, take}
use Rattle.settling.specs.Totals.{rule_total}
use Rattle.engine.specs.State.{keep_of}
use Rattle.monitor.specs.Calls.{as_total}
use Rattle.monitor.proofs.totals.sums.total_up.Given as goal

-- the rules below r are counted
abbrev pub invariant-loop-r : goal.invariant-loop-r
invariant-loop-r l = (length l.rules ≡ 16) × (map as_total (take l.r l.rules) ≡ map (λ k. rule_total l.ticks (keep_of l.core.keeps k).count) (take l.r l.nodes))
