use Rattle.std.proofs.Common.{◌≡◌, ℕ, ◌<◌, None}
use Rattle.table_check.specs.Judging.{of_lists}
use Rattle.table.specs.Refusals.{first, use_tests}
use Rattle.table_check.proofs.draft.Draft.find_unused.Given as goal

abbrev pub invariant-loop-k : goal.invariant-loop-k
invariant-loop-k l = (j : ℕ) → j < l.k → first (use_tests (of_lists l.self.nodes.now l.self.rules.now) j) ≡ None
