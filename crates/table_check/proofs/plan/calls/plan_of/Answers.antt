use Rattle.std.proofs.Common.{◌≡◌, ℕ, ◌<◌, List, length, Some, None, sym, ap, ap₂, ◌∙◌, subst, inl, inr, ⊎_elim, arith}
use Rattle.std.proofs.lemmas.Bool.{eqb-true}
use Rattle.std.proofs.lemmas.Result.{err_from_is_err_and, IfOk-weaker}
use Rattle.table.specs.declared.fault.TableFault.{TableFault}
use Rattle.table.specs.declared.node.UncheckedNode.{UncheckedNode}
use Rattle.table.specs.Tables.{Table}
use Rattle.table_check.specs.Judging.{of_lists, nodes_meant, node_fault, rule_fault, last_fault, found, or_else, PassedSoFar}
use Rattle.table_check.specs.Drafts.{drafted}
use Rattle.table_check.proofs.Composing.{Counted, nodes_refused, rules_refused, by_parts, so_far}
use Rattle.table_check.proofs.plan.calls.plan_of.Goals as goal

pub returns-then-is_empty-clause-fault : goal.returns-then-is_empty-clause-fault
returns-then-is_empty-clause-fault c =
    sym (nodes_refused c.args.written.now c.args.rules.now
    (⊎_elim (λ none. inl (eqb-true _ 0 (sym c.is_empty.ensures ∙ none))) (λ many. inr many.1) c.then-is_empty.either))

pub returns-then-is_empty-2-clause-fault : goal.returns-then-is_empty-2-clause-fault
returns-then-is_empty-2-clause-fault c =
    let some : 0 < length c.args.written.now = grind arith in
    sym (rules_refused c.args.written.now c.args.rules.now (some, c.if-written-gt64.false)
    (⊎_elim (λ none. inl (eqb-true _ 0 (sym c.is_empty-2.ensures ∙ none))) (λ many. inr many.1) c.then-is_empty-2.either))

-- what the check finds, by what its parts found
module _ (written : List UncheckedNode) (rules : List ℕ) (some : Counted (length written) 64) (ruled : Counted (length rules) 16) where
  abbrev all : Table
  all = of_lists (nodes_meant written) rules

  split : found written rules ≡ or_else (node_fault written) (or_else (rule_fault (length written) rules) (last_fault all))
  split = by_parts written rules some ruled

  node_stops : (f : TableFault) → Some f ≡ node_fault written → Some f ≡ found written rules
  node_stops f e = ap (λ o. or_else o (or_else (rule_fault (length written) rules) (last_fault all))) e ∙ sym split

  module _ (passed : None ≡ node_fault written) where
    past_nodes : found written rules ≡ or_else (rule_fault (length written) rules) (last_fault all)
    past_nodes = split ∙ ap (λ o. or_else o (or_else (rule_fault (length written) rules) (last_fault all))) (sym passed)

    rule_stops : (f : TableFault) → Some f ≡ rule_fault (length written) rules → Some f ≡ found written rules
    rule_stops f e = ap (λ o. or_else o (last_fault all)) e ∙ sym past_nodes

    module _ (named : None ≡ rule_fault (length written) rules) where
      rest_decides : last_fault all ≡ found written rules
      rest_decides = ap (λ o. or_else o (last_fault all)) named ∙ sym past_nodes

      passed_so_far : PassedSoFar all
      passed_so_far = so_far written rules some ruled (sym passed) (sym named)

pub returns-in_err-judged-clause-fault : goal.returns-in_err-judged-clause-fault
returns-in_err-judged-clause-fault c =
    let some : 0 < length c.args.written.now = grind arith in
    let ruled : 0 < length c.args.rules.now = grind arith in
    let p = err_from_is_err_and c.from_residual.result c.from_residual.ensures.1 in
    rw (p.1, p.2) (node_stops c.args.written.now c.args.rules.now (some, c.if-written-gt64.false) (ruled, c.if-rules-gt16.false) _ c.in_err-judged.ensures.fault)

pub returns-in_err-named-clause-fault : goal.returns-in_err-named-clause-fault
returns-in_err-named-clause-fault c =
    let some : 0 < length c.args.written.now = grind arith in
    let ruled : 0 < length c.args.rules.now = grind arith in
    let p = err_from_is_err_and c.from_residual-in_err-named.result c.from_residual-in_err-named.ensures.1 in
    rw (p.1, p.2) (rule_stops c.args.written.now c.args.rules.now (some, c.if-written-gt64.false) (ruled, c.if-rules-gt16.false) c.in_ok-judged.ensures.fault _ c.in_err-named.ensures.fault)

pub finish-requires : goal.finish-requires
finish-requires c =
    let some : 0 < length c.args.written.now = grind arith in
    let ruled : 0 < length c.args.rules.now = grind arith in
    let same : drafted c.in_ok-judged.judged c.in_ok-named.named ≡ of_lists (nodes_meant c.args.written.now) c.args.rules.now = ap₂ of_lists c.in_ok-judged.ensures.nodes c.in_ok-named.ensures.named in
    subst PassedSoFar (sym same) (passed_so_far c.args.written.now c.args.rules.now (some, c.if-written-gt64.false) (ruled, c.if-rules-gt16.false) c.in_ok-judged.ensures.fault c.in_ok-named.ensures.fault)

pub returns : goal.returns
returns c =
    let some : 0 < length c.args.written.now = grind arith in
    let ruled : 0 < length c.args.rules.now = grind arith in
    let same : drafted c.in_ok-judged.judged c.in_ok-named.named ≡ of_lists (nodes_meant c.args.written.now) c.args.rules.now = ap₂ of_lists c.in_ok-judged.ensures.nodes c.in_ok-named.ensures.named in
    record {
      fault = c.finish.ensures.fault ∙ ap last_fault same ∙ rest_decides c.args.written.now c.args.rules.now (some, c.if-written-gt64.false) (ruled, c.if-rules-gt16.false) c.in_ok-judged.ensures.fault c.in_ok-named.ensures.fault;
      plan = IfOk-weaker c.finish.result _ _ (λ p e. e ∙ same) c.finish.ensures.plan;
    }
