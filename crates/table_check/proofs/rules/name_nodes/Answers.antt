use Rattle.std.proofs.Common.{[], ◌∷◌, ◌++◌, length, get_or, take, sym, ap, ◌∙◌, arith, below_more}
use Rattle.std.proofs.lemmas.List.{length-set, take_more, take_more_set, take-take, take_all}
use Rattle.std.proofs.lemmas.Bool.{cond-true, cond-false, le-leb, lt-leb}
use Rattle.table.specs.Refusals.{rule_tests}
use Rattle.table.proofs.Firsts.{none_at_all, some_at}
use Rattle.table_check.proofs.rules.name_nodes.Goals as goal

pub returns-then-from-size : goal.returns-then-from-size
returns-then-from-size c = record {
  fault = sym (some_at (rule_tests c.args.size c.args.rules.now) 0 (length c.args.rules.now) c.loop-r.r _ (omega arith) (omega (arith, c.loop-r-test.true)) (λ q a b. c.loop-r.invariant.2 q b)
      (cond-true _ _ _ (le-leb c.args.size (get_or c.args.rules.now c.loop-r.r 0) (omega (arith, c.if-from-size.true, c.from.ensures)))));
  named = tt;
}

pub loop-r-preserved : goal.loop-r-preserved
loop-r-preserved c =
    let long = c.loop-r.invariant.0 in
    let node = get_or c.args.rules.now c.loop-r.r 0 in (
      length-set _ _ _ ∙ long,
      take_more_set c.loop-r.named c.loop-r.r node (omega (arith, long, c.loop-r-test.true, c.requires.few))
          ∙ ap (λ l. l ++ node ∷ []) c.loop-r.invariant.1
          ∙ sym (take_more c.args.rules.now c.loop-r.r 0 c.loop-r-test.true),
      below_more _ _ c.loop-r.invariant.2 (cond-false _ _ _ (lt-leb c.args.size (get_or c.args.rules.now c.loop-r.r 0) (omega (arith, c.if-from-size.false, c.from.ensures)))),
    )

pub returns : goal.returns
returns c =
    let n = length c.args.rules.now in
    let all = c.loop-r-test.false in
    record {
      fault = sym (none_at_all (rule_tests c.args.size c.args.rules.now) 0 n (λ q a b. c.loop-r.invariant.2 q (omega arith)));
      named = sym (take-take n c.loop-r.r c.loop-r.named all) ∙ ap (take n) c.loop-r.invariant.1 ∙ take-take n c.loop-r.r c.args.rules.now all ∙ take_all n c.args.rules.now (omega arith);
    }
