-- The tables that nodes and rules make which passed so far. Assumes nothing.
use Rattle.std.specs.Prelude.{take}
use Rattle.table_check.specs.declared.draft.Draft.{Draft}
use Rattle.table_check.specs.declared.judge.Judged.{Judged}
use Rattle.table_check.specs.declared.rules.Named.{Named}
use Rattle.table_check.specs.Judging.{of_lists}
use Rattle.table.specs.Tables.{Table}

-- the table that a draft is of
abbrev pub of_draft : Draft → Table
of_draft d = of_lists d.nodes.now d.rules.now

-- and the one that is in the arrays
abbrev pub drafted : Judged → Named → Table
drafted j n = of_lists (take j.size j.nodes) (take n.count n.rules)
