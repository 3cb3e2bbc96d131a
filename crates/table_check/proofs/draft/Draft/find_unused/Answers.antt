use Rattle.std.proofs.Common.{length, sym, ap, not, arith}
use Rattle.std.proofs.lemmas.Bool.{cond-true}
use Rattle.table_check.specs.Judging.{of_lists}
use Rattle.table.specs.Refusals.{use_tests}
use Rattle.table.proofs.Firsts.{none_at_all, some_at}
use Rattle.table_check.proofs.draft.Draft.find_unused.Goals as goal

pub returns-then-not-is_used : goal.returns-then-not-is_used
returns-then-not-is_used c =
    let draft = c.args.self.now in
    let n = length draft.nodes.now in
    sym (some_at (use_tests (of_lists draft.nodes.now draft.rules.now)) 0 n c.loop-k.k _ (omega arith) (omega (arith, c.loop-k-test.true)) (λ q a b. c.loop-k.invariant q b)
    (cond-true _ _ _ (ap not (sym c.if-not-is_used.ensures))))

pub returns : goal.returns
returns c =
    let draft = c.args.self.now in
    sym (none_at_all (use_tests (of_lists draft.nodes.now draft.rules.now)) 0 (length draft.nodes.now) (λ q a b. c.loop-k.invariant q (omega (arith, c.loop-k-test.false))))
