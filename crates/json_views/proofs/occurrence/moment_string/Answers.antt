-- A moment has one text.
use Rattle.std.proofs.Common.{◌∙◌}
use Rattle.json_views.proofs.MomentLemmas.{one_text}
use Rattle.json_views.proofs.occurrence.moment_string.Goals as goal

pub returns : goal.returns
returns c = (c.in_ok-text.ensures ∙ c.as_slice.ensures) ∙ one_text c.args.moment _ c.moment_text-bytes.ensures
