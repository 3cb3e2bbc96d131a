use Rattle.std.proofs.Common.{◌≡◌, ℕ, ◌<◌, get_or, length, ◌∙◌, arith}
use Rattle.table.specs.Places.{places}
use Rattle.table_check.specs.Judging.{of_lists}
use Rattle.table_check.proofs.Costs.{need_small, whole_need}
use Rattle.table_check.proofs.draft.Draft.cost.Goals as goal

pub memory_for-requires : goal.memory_for-requires
memory_for-requires c =
    let draft = c.args.self.now in
    let xs = c.all_places-places.result in
    let are : (k : ℕ) → k < length draft.nodes.now → get_or xs k 0 ≡ places (of_lists draft.nodes.now draft.rules.now) k = λ k h. c.all_places-places.ensures.places k h in
    let small = need_small (of_lists draft.nodes.now draft.rules.now) draft.few (λ k h. omega (arith, are k h, c.all_places-places.ensures.few k (omega (arith, draft.few)))) in
    omega (arith, whole_need draft.nodes.now draft.rules.now xs (omega (arith, draft.few)) are, small)

pub returns-clause-need : goal.returns-clause-need
returns-clause-need c =
    let draft = c.args.self.now in
    c.memory_for.ensures ∙ whole_need draft.nodes.now draft.rules.now c.all_places-places.result (omega (arith, draft.few)) (λ k h. c.all_places-places.ensures.places k h)
