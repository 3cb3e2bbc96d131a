-- What a plan holds. Assumes nothing.
use Rattle.table_check.specs.declared.plan.Plan.{Plan}
use Rattle.table_check.specs.Drafts.{drafted}
use Rattle.table.specs.Tables.{Table}

-- the table that a plan is of
abbrev pub table_of : Plan → Table
table_of p = drafted p.judged p.named
