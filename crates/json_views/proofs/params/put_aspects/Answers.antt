-- Every level is shown.
use Rattle.std.proofs.Common.{rules}
use Rattle.json_views.proofs.ListLemmas.{filter-all}
use Rattle.json_views.proofs.params.put_aspects.Goals as goal

pub returns : goal.returns
returns c = search (rules, filter-all)
