-- The view has no float, so what is written is its text.
use Rattle.std.proofs.Common.{ap, ◌∙◌}
use Rattle.serde_json.specs.Written.{has_float}
use Rattle.json_views.specs.Moments.{moment_text}
use Rattle.json_views.specs.Occurrence.{occurrence_text}
use Rattle.json_views.proofs.OccurrenceLemmas.{occurrence_plain}
use Rattle.json_views.proofs.occurrence.occurrence_view.Goals as goal

pub returns : goal.returns
unfolding occurrence_text
returns c = rw c.in_ok-value.ensures at (c.written.ensures.text (ap has_float c.in_ok-value.ensures
    ∙ occurrence_plain c.args.manager c.args.n c.args.row.now c.args.vnfd.now
    (moment_text c.args.row.now.asked) (moment_text c.args.row.now.entered)))
