-- A moment has one text.
use Rattle.std.proofs.Common.{◌++◌, ◌∙◌, ap}
use Rattle.history_lines.proofs.words.push_moment.Goals as goal

pub returns : goal.returns
returns c = c.in_ok-push.ensures ∙ ap (λ t. c.args.text.now.items ++ t)
    (c.as_slice.ensures ∙ c.moments_have_one_text.ensures.one c.args.moment _ c.moment_text-bytes.ensures)
