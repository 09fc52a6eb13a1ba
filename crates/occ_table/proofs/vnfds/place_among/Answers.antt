-- The name that was found is the one that was looked for.
use Rattle.std.proofs.Common.{◌∙◌, ap, sym, Some}
use Rattle.std.proofs.lemmas.Option.{slice_get-get_or}
use Rattle.lcm_laws.proofs.StandLaws.{same_name-true}
use Rattle.occ_table.proofs.vnfds.place_among.Goals as goal

pub returns-then-eq-clause-there : goal.returns-then-eq-clause-there
returns-then-eq-clause-there c = λ within.
    slice_get-get_or c.args.names.now c.loop-at.at c.index-names-at.result within
    ∙ ap Some (sym c.index-names-at.is ∙ same_name-true c.index-names-at.result c.args.name.now (sym c.if-eq.ensures))
