-- A moment has one text.
use Rattle.std.proofs.Common.{◌∙◌}
use Rattle.notice_views.proofs.texts.moment_string.Goals as goal

pub returns : goal.returns
returns c = (c.in_ok-text.ensures ∙ c.as_slice.ensures) ∙ c.moments_have_one_text.ensures.one c.args.moment _ c.moment_text-bytes.ensures
