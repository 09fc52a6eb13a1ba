use Rattle.lcm_laws.proofs.AboutLaws.{unasked_untouched}
use Rattle.lcm_laws.proofs.asking.unasked_occurrences_are_untouched.Goals as goal

pub returns : goal.returns
returns c = unasked_untouched
