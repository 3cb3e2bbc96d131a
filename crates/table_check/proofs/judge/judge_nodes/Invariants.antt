use Rattle.table_check.proofs.Nodewise.{Judging}
use Rattle.table_check.proofs.judge.judge_nodes.Given as goal

abbrev pub invariant-loop-k : goal.invariant-loop-k
invariant-loop-k l = Judging l.written l.k l.nodes l.lags
