-- The name of the member, and then the instance's.
use Rattle.std.proofs.Common.{codes}
use Rattle.history_lines.proofs.TextLemmas.{same_part, two}
use Rattle.history_lines.proofs.lines.push_name.Goals as goal

pub returns-in_ok-push-in-Some-2 : goal.returns-in_ok-push-in-Some-2
returns-in_ok-push-in-Some-2 c =
    rw (c.in-Some.is)
    (two _ _ _ _ _ c.in_ok-push-in-Some.ensures
    (same_part _ _ _ _ c.in_ok-push-in-Some-2.ensures c.as_bytes.ensures.value))
