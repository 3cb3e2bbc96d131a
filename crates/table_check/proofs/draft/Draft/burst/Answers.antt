use Rattle.std.proofs.Common.{rules, ◌^◌, ◌∙◌, arith}
use Rattle.std.proofs.iter.runs.Made.{chains}
use Rattle.std.proofs.lemmas.Iterator.{YieldsList-from_slice}
use Rattle.std.proofs.lemmas.Iterator.Adapters.{fits_from_length, at_most_from_yields_List}
use Rattle.table_check.proofs.Costs.{whole_burst}
use Rattle.table_check.proofs.draft.Draft.burst.Goals as goal

pub sum-requires-clause-fits : goal.sum-requires-clause-fits
sum-requires-clause-fits c =
    let draft = c.args.self.now in
    fits_from_length _ _ 16 (2 ^ 32) (at_most_from_yields_List (YieldsList-from_slice draft.rules.now cc) draft.ruled) c.map.ensures.closure (omega arith) (λ x r q k. search rules)

pub returns : goal.returns
returns c =
    let draft = c.args.self.now in
    search (rules, chains) ∙ whole_burst draft.nodes.now draft.lags.now draft.rules.now draft.lags_are
