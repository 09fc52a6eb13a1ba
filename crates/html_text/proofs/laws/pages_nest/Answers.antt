use Rattle.html_text.proofs.NestingLemmas.{pages_nest}
use Rattle.html_text.proofs.laws.pages_nest.Goals as goal

pub returns : goal.returns
returns c = pages_nest
