use Rattle.std.proofs.Common.{unwrap_or, ap, ◌∙◌}
use Rattle.std.proofs.lemmas.Option.{unwrap_or-slice_get}
use Rattle.examples_out.proofs.queues.read_or.Goals as goal

pub returns : goal.returns
returns g c = c.unwrap_or.ensures ∙ ap (λ o. unwrap_or o c.args.default) (c.read_at.ensures.read c.requires) ∙ unwrap_or-slice_get _ c.args.i c.args.default
