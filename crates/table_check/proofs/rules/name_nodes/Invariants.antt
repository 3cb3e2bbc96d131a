use Rattle.std.proofs.Common.{◌≡◌, ℕ, ◌<◌, length, take, None}
use Rattle.table.specs.Refusals.{first, rule_tests}
use Rattle.table_check.proofs.rules.name_nodes.Given as goal

abbrev pub invariant-loop-r : goal.invariant-loop-r
invariant-loop-r l = (length l.named ≡ 16) × (take l.r l.named ≡ take l.r l.rules) × ((j : ℕ) → j < l.r → first (rule_tests l.size l.rules j) ≡ None)
