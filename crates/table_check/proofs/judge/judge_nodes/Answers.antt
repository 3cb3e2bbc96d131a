use Rattle.std.proofs.Common.{◌≡◌, ℕ, ◌+◌, ◌≤◌, get_or, set, refl, sym, ap, ◌∙◌, subst}
use Rattle.std.proofs.lemmas.Result.{err_from_is_err_and}
use Rattle.table.specs.declared.node.Lag.{Lag}
use Rattle.table.specs.Lags.{no_lag, lags}
use Rattle.table_check.proofs.Nodewise.{Judging, seen, own_decide, judging_start, judging_step, judging_stops, judging_ends, judged_nodes, judged_lags}
use Rattle.table_check.proofs.judge.judge_nodes.Goals as goal

pub loop-k-init : goal.loop-k-init
loop-k-init c = judging_start c.args.written.now

pub returns-in_err-node : goal.returns-in_err-node
returns-in_err-node c =
    let p = err_from_is_err_and c.from_residual.result c.from_residual.ensures.1 in
    let found = own_decide c.args.written.now c.loop-k.k c.loop-k-test.true c.in_err-node.field-0.0 (sym c.in_err-node.ensures.fault) in
    rw (p.1, p.2) record {
      fault = sym (judging_stops _ _ _ _ c.loop-k.invariant c.requires.few c.loop-k-test.true _ found);
      size = tt;
      nodes = tt;
    }

pub judge_lag-requires : goal.judge_lag-requires
judge_lag-requires c =
    let of_lag : (P : Lag → Type 0) (k : ℕ) (l : Lag) → l ≡ get_or c.loop-k.lags k no_lag → P (get_or c.loop-k.lags k no_lag) → P l = λ P k l e h. subst P (sym e) h in
    let inv = c.loop-k.invariant in
    record {
      window = c.in_ok-node.ensures.window.0;
      near = c.in_ok-node.ensures.window.1;
      rising = (of_lag (λ l. l.best ≤ l.worst) _ _ c.lag_at-left.ensures (inv.rising _), of_lag (λ l. l.best ≤ l.worst) _ _ c.lag_at-right.ensures (inv.rising _));
      soon = (of_lag (λ l. l.worst ≤ 16383) _ _ c.lag_at-left.ensures (inv.soon _), of_lag (λ l. l.worst ≤ 16383) _ _ c.lag_at-right.ensures (inv.soon _));
    }

pub returns-in_err-lag : goal.returns-in_err-lag
returns-in_err-lag c =
    let p = err_from_is_err_and c.from_residual-in_err-lag.result c.from_residual-in_err-lag.ensures.1 in
    let own = c.in_ok-node.ensures in
    let found = (seen _ _ _ _ c.loop-k.invariant c.requires.few c.loop-k-test.true _ _ _ own.node c.lag_at-left.ensures c.lag_at-right.ensures).1 own.fault ∙ sym c.in_err-lag.ensures.fault in
    rw (p.1, p.2) record {
      fault = sym (judging_stops _ _ _ _ c.loop-k.invariant c.requires.few c.loop-k-test.true _ found);
      size = tt;
      nodes = tt;
    }

pub loop-k-preserved : goal.loop-k-preserved
loop-k-preserved c =
    let own = c.in_ok-node.ensures in
    let lag = c.in_ok-lag.ensures in
    let here = seen _ _ _ _ c.loop-k.invariant c.requires.few c.loop-k-test.true _ _ _ own.node c.lag_at-left.ensures c.lag_at-right.ensures in
    subst (λ x. Judging c.args.written.now (c.loop-k.k + 1) (set c.loop-k.nodes c.loop-k.k x) (set c.loop-k.lags c.loop-k.k c.in_ok-lag.lag)) (sym own.node)
    (judging_step _ _ _ _ c.loop-k.invariant c.requires.few c.loop-k-test.true c.in_ok-lag.lag (lag.lag ∙ here.0) lag.bound.0 lag.bound.1 (here.1 own.fault ∙ sym lag.fault))

pub returns : goal.returns
returns c = record {
  fault = sym (judging_ends _ _ _ _ c.loop-k.invariant c.requires.few c.loop-k-test.false);
  size = refl;
  nodes = judged_nodes _ _ _ _ c.loop-k.invariant c.requires.few c.loop-k-test.false;
}

pub invariant_of-result : goal.invariant_of-result
invariant_of-result c = record {
  few = c.requires.few;
  lags_are =
      judged_lags _ _ _ _ c.loop-k.invariant c.requires.few c.loop-k-test.false
      ∙ sym (ap lags (judged_nodes _ _ _ _ c.loop-k.invariant c.requires.few c.loop-k-test.false));
}
