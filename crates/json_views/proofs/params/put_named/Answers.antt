-- Every machine that is named is shown.
use Rattle.std.proofs.Common.{rules}
use Rattle.json_views.proofs.ListLemmas.{filter-all}
use Rattle.json_views.proofs.params.put_named.Goals as goal

pub returns-else-is_empty : goal.returns-else-is_empty
returns-else-is_empty c = search (rules, filter-all)
