-- What every plan that can exist is: that of an accepted table. Assumes nothing.
use Rattle.table_check.specs.declared.plan.Plan.{Plan}
use Rattle.table.specs.Accepting.{Accepted}
use Rattle.table_check.specs.Plans.{table_of}
use Rattle.table.proofs.Answering.{passed}

pub plan_accepted : (p : Plan) → Accepted (table_of p)
plan_accepted p = (passed (table_of p)).accepted p.passed
