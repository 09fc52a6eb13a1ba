-- By computation.
use Rattle.notice_views.proofs.WorkedLemmas.{worked_bodies}
use Rattle.notice_views.proofs.laws.worked_notices_have_their_bodies.Goals as goal

pub returns : goal.returns
returns c = worked_bodies c.moments_have_one_text.ensures.one
