use Rattle.std.proofs.Common.{eqb, ◌||◌, ap, sym, ◌∙◌}
use Rattle.std.specs.List.{list_any}
use Rattle.table_check.proofs.Costs.{used_listed}
use Rattle.table_check.proofs.draft.Draft.is_used.Goals as goal

pub returns-then-is_parented : goal.returns-then-is_parented
returns-then-is_parented c =
    let draft = c.args.self.now in
    c.if-is_parented.true
    ∙ ap (λ b. b || list_any (λ r. eqb r c.args.k) draft.rules.now) c.if-is_parented.ensures
    ∙ sym (used_listed draft.nodes.now draft.rules.now c.args.k)

pub returns-else-is_parented : goal.returns-else-is_parented
returns-else-is_parented c =
    let draft = c.args.self.now in
    c.contains.ensures.value
    ∙ ap (λ b. b || list_any (λ r. eqb r c.args.k) draft.rules.now) c.if-is_parented.ensures
    ∙ sym (used_listed draft.nodes.now draft.rules.now c.args.k)
