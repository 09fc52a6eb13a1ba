-- What was put to the members that every occurrence has.
use Rattle.std.proofs.Common.{ap, ◌∙◌}
use Rattle.serde_json.specs.Data.{object}
use Rattle.json_members.specs.Members.{put_where}
use Rattle.json_views.proofs.OccurrenceLemmas.{occurrence_made}
use Rattle.json_views.proofs.occurrence.all_members.Goals as goal

pub returns : goal.returns
returns c =
    ap object (c.in_ok-put_where-3.ensures
    ∙ ap (put_where _ _) (c.in_ok-put_where-2.ensures ∙ ap (put_where _ _)
    (c.in_ok-put_where.ensures ∙ ap (put_where _ _) c.in_ok-members.ensures)))
    ∙ occurrence_made c.args.manager c.args.n c.args.row.now c.args.vnfd.now c.args.start.now c.args.entered.now _ _ _
    c.in_ok-cancel.ensures c.in_ok-error.ensures c.in_ok-grant.ensures
