-- What was put to the members that every instance has.
use Rattle.std.proofs.Common.{ap, refl, ◌∙◌}
use Rattle.serde_json.specs.Data.{object}
use Rattle.json_members.specs.Members.{put_where}
use Rattle.json_views.proofs.ViewLemmas.{members_made}
use Rattle.json_views.proofs.instance.instance_members.Goals as goal

pub returns : goal.returns
returns c =
    ap object (c.in_ok-put_name_where.ensures
    ∙ ap (put_where _ _) (c.in_ok-put_line_where.ensures ∙ ap (put_where _ _)
    (c.in_ok-put_where.ensures ∙ ap (put_where _ _) c.in_ok-members.ensures)))
    ∙ members_made c.args.manager c.args.n c.args.row.now c.args.vnfd.now _ _ _ c.in_ok-info.ensures refl refl
