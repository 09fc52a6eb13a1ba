-- The number that was read decides.
use Rattle.std.proofs.Common.{arith, refl}
use Rattle.instance_table.specs.Rows.{rows}
use Rattle.occ_table.specs.Rows as occurrences
use Rattle.vnfm_base.specs.declared.identifier.Kind.TheVariants.{Occurrence}
use Rattle.lcm_model.specs.Work.{window}
use Rattle.lcm_api.proofs.IdentLemmas.{IsReading}
use Rattle.lcm_api.proofs.OccurrenceLemmas.{named_found}
use Rattle.lcm_api.proofs.occurrences.named_number.Goals as goal

pub returns : goal.returns
returns g c = λ H keeps.
    let few = c.occurrences-table.ensures.few H keeps in
    let each = (c.legal_occurrences_can_be_shown.ensures window _ H (rows H) (occurrences.rows H)
    (omega (arith, few)) keeps.kept.legal refl refl).each in
    let reading : IsReading Occurrence c.number.result c.as_bytes.result.now c.ident_read.result =
    record { has = c.ident_read.ensures.found; only = c.ident_read.ensures.read } in
    rw (c.number.ensures, c.as_bytes.ensures.value) at (named_found window _ H _ _ (rows H) _ keeps.kept.legal each reading)
