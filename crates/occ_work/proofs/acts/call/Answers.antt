-- The location is polled.
use Rattle.occ_work.proofs.acts.call.Goals as goal

pub returns-else-asking-clause-called : goal.returns-else-asking-clause-called
returns-else-asking-clause-called g c = λ H keeps is next. rw c.if-asking.false (
  c.location_of.result.now,
  c.location_of.ensures H keeps is,
  record { told = c.poll.ensures.told; counts = c.poll.ensures.cause },
)
