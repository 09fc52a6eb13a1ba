-- The change that is attempted next is one of the row.
use Rattle.occ_steps.proofs.StepLemmas.{next_known}
use Rattle.occ_steps.proofs.steps.begin_tag.Goals as goal

pub next_tag-requires-clause-known : goal.next_tag-requires-clause-known
next_tag-requires-clause-known c = next_known c.args.way c.args.row.now _ _ c.next_at.ensures c.in_ok-change.was
