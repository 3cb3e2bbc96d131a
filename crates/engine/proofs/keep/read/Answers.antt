use Rattle.std.proofs.Common.{◌<◌, get_or, unwrap_or, sym, ap, ◌∙◌, arith}
use Rattle.std.proofs.lemmas.Option.{unwrap_or-slice_get}
use Rattle.settling.proofs.Twice.{seen_in}
use Rattle.engine.specs.Kept.{values_in, value_in}
use Rattle.engine.proofs.keep.read.Goals as goal

pub returns-clause-read : goal.returns-clause-read
returns-clause-read g c stands =
    let a = c.args in
    let q = a.keep in
    let held = values_in a.memory.now q in
    let settled : a.position < q.count = omega (arith, c.if-position-keep.false) in
    c.unwrap_or.ensures
    ∙ ap (λ o. unwrap_or o a.other) (c.read_at.ensures.read stands)
    ∙ unwrap_or-slice_get held _ a.other
    ∙ ap (λ i. get_or held i a.other) (omega (arith, c.saturating_sub.ensures, c.saturating_sub-older.ensures))
    ∙ sym (seen_in a.other q.count (value_in a.other a.memory.now q) a.position settled)
