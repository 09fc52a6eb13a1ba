-- A grant has no float, so what is written is its text.
use Rattle.std.proofs.Common.{◌≡◌, ◌∙◌, Some, ap, sym}
use Rattle.std.specs.Prelude.{option_map}
use Rattle.serde_json.specs.View.{view}
use Rattle.serde_json.specs.Written.{compact_text}
use Rattle.grant_desk.specs.GrantAll.{grant_for}
use Rattle.grant_desk.proofs.GrantAllLaws.{grant_plain}
use Rattle.grant_desk.proofs.grant_all.text_for.Goals as goal

pub returns : goal.returns
returns c =
    let known : Some (view c.in-Some.grant) ≡ grant_for c.args.before (view c.args.request.now) =
    ap (option_map view) (sym c.in-Some.is) ∙ c.in_ok-grant.ensures in
    ap Some (c.in_ok-to_vec.ensures.text (grant_plain c.args.before (view c.args.request.now) (view c.in-Some.grant) known))
    ∙ ap (option_map compact_text) known
