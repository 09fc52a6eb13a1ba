-- The name is UTF-8, and so is its colon.
use Rattle.std.proofs.Common.{arith, ◌∙◌}
use Rattle.json_members.proofs.Utf8Lemmas.{with_byte}
use Rattle.json_members.proofs.text.JsonText.name.Goals as goal

pub part-requires : goal.part-requires
part-requires c = with_byte c.in_ok-part.part.items _ 58 (omega arith) c.in_ok-part.ensures.utf8 (c.as_slice.ensures.value ∙ c.in_ok-push.ensures.items)
