use Rattle.std.proofs.Common.{◌∙◌}
use Rattle.site_traits.proofs.KeptLemmas.{some_found, none_found}
use Rattle.site_traits.proofs.past.found_at.Goals as goal

pub returns-in-Some : goal.returns-in-Some
returns-in-Some c = λ tag placed.
    c.found.ensures ∙ some_found tag c.args.kept.now c.args.place c.in-Some.k c.index-kept-k.result c.in-Some.is c.index-kept-k.is placed

pub returns-in-None : goal.returns-in-None
returns-in-None c = λ tag placed. none_found tag c.args.kept.now c.args.place c.in-None.is placed
