use Rattle.std.proofs.Common.{unwrap_or, ap, ◌∙◌, rules}
use Rattle.std.proofs.lemmas.Iterator.{YieldsList-from_slice, YieldsList-from_map}
use Rattle.std.proofs.lemmas.Iterator.Consumers.{reduce_from_yields_List}
use Rattle.std.proofs.lemmas.List.Folds.{max_of_map}
use Rattle.table_check.specs.Judging.{wanted_by}
use Rattle.table_check.proofs.draft.Draft.for_parents.Goals as goal

pub returns-clause-most : goal.returns-clause-most
returns-clause-most c =
    let nodes = c.args.self.now.nodes.now in
    let wanted = wanted_by c.args.self.now.lags.now c.args.k in
    c.unwrap_or.ensures
    ∙ ap (λ o. unwrap_or o 0) (reduce_from_yields_List _ c.map.result _ c.max.ensures.ran (YieldsList-from_map _ wanted (YieldsList-from_slice nodes cc) c.map.ensures.closure (λ x b q k. search rules)))
    ∙ max_of_map wanted nodes
