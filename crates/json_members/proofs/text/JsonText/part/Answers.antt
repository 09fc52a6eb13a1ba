-- A comma is UTF-8, and so is the part.
use Rattle.std.proofs.Common.{◌∙◌}
use Rattle.json_members.proofs.Utf8Lemmas.{with_comma, with_text}
use Rattle.json_members.proofs.text.JsonText.part.Goals as goal

pub invariant_of-self-in_err-extend_from_slice : goal.invariant_of-self-in_err-extend_from_slice
invariant_of-self-in_err-extend_from_slice c =
    with_comma c.self.inside.text.items _ c.self.inside.after_value c.self.invariant
    (c.in_err-extend_from_slice.ensures.items ∙ c.in_ok-put_comma.ensures.put)

pub invariant_of-self-2 : goal.invariant_of-self-2
invariant_of-self-2 c =
    with_text _ c.args.part.now _
    (with_comma c.self.inside.text.items _ c.self.inside.after_value c.self.invariant c.in_ok-put_comma.ensures.put)
    c.requires c.in_ok-extend_from_slice.ensures.items
