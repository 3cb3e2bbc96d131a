use Rattle.std.proofs.Common.{ap, ap₂, max, ◌+◌, ◌∙◌}
use Rattle.table_check.proofs.Costs.{kept_places}
use Rattle.table_check.proofs.draft.Draft.places.Goals as goal

pub returns-clause-places : goal.returns-clause-places
returns-clause-places c =
    let draft = c.args.self.now in
    ap (λ n. 1 + n) (c.max.ensures ∙ ap₂ max c.for_parents.ensures.most c.for_rules.ensures.most)
    ∙ kept_places draft.nodes.now draft.lags.now draft.rules.now draft.lags_are c.args.k
