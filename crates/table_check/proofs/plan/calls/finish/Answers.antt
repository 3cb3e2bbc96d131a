use Rattle.std.proofs.Common.{◌≡◌, length, sym, ap, ap₂, ◌∙◌, arith}
use Rattle.std.proofs.lemmas.List.{length-take-le}
use Rattle.table.specs.Places.{places, need, burst}
use Rattle.table_check.specs.Judging.{of_lists, use_fault, last_fault}
use Rattle.table_check.specs.Drafts.{drafted}
use Rattle.table_check.proofs.Planned.{too_much, it_passes}
use Rattle.table_check.proofs.plan.calls.finish.Goals as goal

pub returns-then-need-gt16384 : goal.returns-then-need-gt16384
returns-then-need-gt16384 c =
    let t = of_lists c.nodes.result.now c.rules.result.now in
    let same : t ≡ drafted c.args.judged c.args.named = ap₂ of_lists c.nodes.ensures c.rules.ensures in
    record {
      fault = sym (sym (ap last_fault same) ∙ too_much t c.cost-need.result.need c.cost-need.ensures.need c.in_ok-find_unused.ensures c.if-need-gt16384.true);
      plan = tt;
    }

pub invariant_of-result : goal.invariant_of-result
invariant_of-result c =
    let judged = c.args.judged in
    let t = of_lists c.nodes.result.now c.rules.result.now in
    let same : t ≡ drafted judged c.args.named = ap₂ of_lists c.nodes.ensures c.rules.ensures in
    let whole : length c.nodes.result.now ≡ judged.size = ap length c.nodes.ensures ∙ length-take-le judged.size judged.nodes (omega (arith, judged.few)) in
    record {
      passed = it_passes (drafted judged c.args.named) c.cost-need.result.need (c.cost-need.ensures.need ∙ ap need same) (c.in_ok-find_unused.ensures ∙ ap (λ t. use_fault t.nodes t.rules) same) c.if-need-gt16384.false c.requires;
      places_are = λ k h. c.cost-need.ensures.places k (omega arith) ∙ ap (λ t. places t k) same;
      need_is = c.cost-need.ensures.need ∙ ap need same;
      burst_is = c.cost-need.ensures.burst ∙ ap burst same;
    }
