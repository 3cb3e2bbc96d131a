use Rattle.std.proofs.Common.{ℕ, sym, ap, ◌∙◌, arith, rules}
use Rattle.scale.proofs.Bounding.{bounds}
use Rattle.settling.proofs.Folds.{greatest_none, greatest_next}
use Rattle.table.specs.Values.{greatest_of, greatest}
use Rattle.engine.specs.Kept.{reading}
use Rattle.engine.proofs.Folding.{range_folded}
use Rattle.engine.proofs.standing.Standing.greatest.Goals as goal

pub returns : goal.returns
returns g c =
    let s = g.V.Scale.scale in
    let o = bounds s g.met.V.Scale.order in
    let a = c.args.a in
    let f : ℕ → g.row.V.Denot = reading c.args.other c.args.self.now.memory.now c.args.self.now.keep in
    range_folded _ _ (λ m p. s.greater m (f p)) (λ m p n f' call. search rules) _ _ _ c.fold.ensures.ran
    (λ b. greatest s a b f) (c.lowest.ensures ∙ sym (greatest_none o f a a (omega arith))) (greatest_next o f a)
    ∙ ap (greatest_of s f a) (omega arith)
