use Rattle.std.proofs.Common.{◌≡◌, ◌==◌, ◌∙◌, List, [], Option, Result, Ok, Err, Some, ap, find, map, option_copied, subst, sym}
use Rattle.held_items.specs.Items.{AreInOrder}
use Rattle.std.specs.Option.{option_map_or}
use Rattle.std.specs.Prelude.{IfOk}
use Rattle.lcm_laws.proofs.PlanHistory.{found_in}
use Rattle.instance_table.specs.declared.rows.InstanceRow.{InstanceRow}
use Rattle.instance_table.specs.Rows.{Rows}
use Rattle.instance_table.specs.Steps.{stood_in}
use Rattle.lcm_events.specs.declared.held.Held.{Held}
use Rattle.instance_table.proofs.table.InstanceTable.stood_of.Goals as goal

as_ok : {A B : Type 0} → (r : Result A B) (x y : A) → x ≡ y → IfOk r (λ l. l ≡ x) → IfOk r (λ l. l ≡ y)
as_ok (Ok l) x y e h = h ∙ e
as_ok (Err z) x y e h = h

pub returns-in-Some : goal.returns-in-Some
returns-in-Some c = λ ordered.
    let rs : Rows = c.args.self.now.rows in
    let row : InstanceRow = c.in-Some.row.now in
    let n = c.args.operation.now.instance in
    let changes = c.args.operation.now.changes in
    let found : find (λ r. r.number == n) rs.instances ≡ Some row =
    sym (c.instance_numbered.ensures ordered.instances) ∙ ap option_copied c.in-Some.is in
    let order : AreInOrder row.holding.items = ordered.items row (found_in (λ r. r.number == n) rs.instances row found) in
    as_ok c.stood_of.result _ _
    (ap (λ (ys : List Held). map (stood_in ys) c.as_slice-in-Some.result.now) c.as_slice.ensures
    ∙ (ap (map (stood_in row.holding.items)) c.as_slice-in-Some.ensures
    ∙ sym (ap (λ (z : Option InstanceRow). option_map_or (λ r. map (stood_in r.holding.items) changes) z []) found)))
    (c.stood_of.ensures (subst AreInOrder (sym c.as_slice.ensures) order))
