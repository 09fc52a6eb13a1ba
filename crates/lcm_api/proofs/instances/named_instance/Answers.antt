-- The number that was read decides.
use Rattle.std.proofs.Common.{arith, refl, Some, None}
use Rattle.instance_table.specs.Rows.{rows}
use Rattle.lcm_model.specs.Work.{window}
use Rattle.vnfm_base.specs.declared.identifier.Kind.TheVariants.{Instance}
use Rattle.lcm_api.proofs.IdentLemmas.{IsReading}
use Rattle.lcm_api.proofs.InstanceLemmas.{own_of, named_found, named_lost, shown_of}
use Rattle.lcm_api.proofs.instances.named_instance.Goals as goal

pub returns-in_err-n-clause-named : goal.returns-in_err-n-clause-named
returns-in_err-n-clause-named g c = λ H keeps.
    let few = c.instances-table.ensures.few H keeps in
    let shown = (c.legal_rows_can_be_shown.ensures window _ H (rows H) (omega (arith, few)) keeps.kept.legal refl).all in
    let reading : IsReading Instance c.number.result c.as_bytes.result.now None = record { has = tt; only = c.in_err-n.ensures.read } in
    rw c.from_residual.ensures (rw (c.number.ensures, c.as_bytes.ensures.value) at (named_lost _ _ H reading shown))

pub returns-clause-named : goal.returns-clause-named
returns-clause-named g c = λ H keeps.
    let few = c.instances-table.ensures.few H keeps in
    let stands = c.instances-table.ensures.rows H keeps in
    let shown = (c.legal_rows_can_be_shown.ensures window _ H (rows H) (omega (arith, few)) keeps.kept.legal refl).all in
    let reading : IsReading Instance c.number.result c.as_bytes.result.now (Some c.in_ok-n.n) =
    record { has = c.in_ok-n.ensures.found; only = c.in_ok-n.ensures.read } in
    rw (c.number.ensures, c.as_bytes.ensures.value) at (named_found _ _ _ H _ reading shown
    (c.instance.ensures.among window _ H keeps.kept.legal stands))

pub returns-clause-own : goal.returns-clause-own
returns-clause-own g c = own_of c.args.manager.now c.in_ok-n.n c.instance.result (λ H keeps.
    let few = c.instances-table.ensures.few H keeps in
    let stands = c.instances-table.ensures.rows H keeps in
    let each = (c.legal_rows_can_be_shown.ensures window _ H (rows H) (omega (arith, few)) keeps.kept.legal refl).each in
    (c.instance.ensures.finds window _ H keeps.kept.legal stands, λ row is. (each _ row is).same))

pub returns-clause-shown : goal.returns-clause-shown
returns-clause-shown g c = λ H keeps.
    let few = c.instances-table.ensures.few H keeps in
    let stands = c.instances-table.ensures.rows H keeps in
    let shown = (c.legal_rows_can_be_shown.ensures window _ H (rows H) (omega (arith, few)) keeps.kept.legal refl).all in
    shown_of _ (rows H) _ (c.instance.ensures.among window _ H keeps.kept.legal stands) shown
