-- The view has no float, so what is written is its text.
use Rattle.std.proofs.Common.{ap, ◌∙◌}
use Rattle.serde_json.specs.Written.{has_float}
use Rattle.json_views.specs.Instance.{instance_text}
use Rattle.json_views.proofs.ViewLemmas.{instance_plain}
use Rattle.json_views.proofs.instance.instance_view.Goals as goal

pub returns : goal.returns
unfolding instance_text
returns c = rw c.in_ok-value.ensures at (c.written.ensures.text (ap has_float c.in_ok-value.ensures
    ∙ instance_plain c.args.manager c.args.n c.args.row.now c.args.vnfd.now))
