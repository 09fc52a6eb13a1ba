-- A bracket is ASCII.
use Rattle.json_members.proofs.Utf8Lemmas.{with_byte}
use Rattle.json_members.proofs.text.JsonText.end.Goals as goal

pub invariant_of-self-2 : goal.invariant_of-self-2
invariant_of-self-2 c = with_byte c.self.inside.text.items _ c.args.bracket c.requires c.self.invariant c.in_ok-push.ensures.items
