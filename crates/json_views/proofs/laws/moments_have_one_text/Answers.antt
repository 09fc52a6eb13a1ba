use Rattle.json_views.proofs.MomentLemmas.{has_text, one_text}
use Rattle.json_views.proofs.laws.moments_have_one_text.Goals as goal

pub returns-clause-one : goal.returns-clause-one
returns-clause-one c = one_text

pub returns-clause-has : goal.returns-clause-has
returns-clause-has c = has_text
