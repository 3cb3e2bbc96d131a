-- When a table that passed so far passes the check. Assumes nothing.
use Rattle.std.proofs.Common.{◌≡◌, ℕ, ◌<◌, ◌≤◌, true, not, is_some, Some, None, sym, ap, ◌∙◌}
use Rattle.std.proofs.lemmas.Bool.{cond-true, cond-false, lt-ltb, le-ltb}
use Rattle.table.specs.declared.fault.TableFault.TheVariants.{TooMuchMemory}
use Rattle.table.specs.Tables.{Table}
use Rattle.table.specs.Places.{need}
use Rattle.table.specs.Refusals.{passes}
use Rattle.table_check.specs.Judging.{use_fault, memory_fault, last_fault, or_else, PassedSoFar}

-- all nodes are used: the memory decides
module _ (t : Table) (n : ℕ) (is : n ≡ need t) (used : None ≡ use_fault t.nodes t.rules) where
  memory_decides : last_fault t ≡ memory_fault n
  memory_decides = ap (λ o. or_else o (memory_fault (need t))) (sym used) ∙ ap memory_fault (sym is)

  pub too_much : 16384 < n → last_fault t ≡ Some TooMuchMemory
  too_much h = memory_decides ∙ cond-true _ _ _ (lt-ltb 16384 n h)

  pub it_passes : n ≤ 16384 → PassedSoFar t → passes t ≡ true
  it_passes h so_far = ap (λ o. not (is_some o)) (so_far ∙ memory_decides ∙ cond-false _ _ _ (le-ltb 16384 n h))
