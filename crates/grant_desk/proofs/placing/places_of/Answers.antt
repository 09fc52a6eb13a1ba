-- What covering rows record may be recorded.
use Rattle.std.proofs.Common.{◌≡◌, ◌≤◌, List, ap, ◌∙◌, length, arith, filter_map}
use Rattle.lcm_events.specs.declared.places.Place.{Place}
use Rattle.lcm_model.specs.Grants.{distinct_places, granted_places, place_number}
use Rattle.lcm_laws.proofs.CoverLaws.{rows_place}
use Rattle.grant_desk.proofs.PlacingLaws.{allowed}
use Rattle.grant_desk.proofs.placing.places_of.Goals as goal

pub numbers_in-requires : goal.numbers_in-requires
numbers_in-requires c =
    let placing = rows_place c.args.changes.now c.args.rows.now.add c.args.rows.now.remove c.args.rows.now.update c.requires in
    let few : length (granted_places c.args.changes.now c.args.rows.now.add c.args.rows.now.remove c.args.rows.now.update) ≤ 32 =
    placing.few in
    let are : c.as_slice-2.result.now ≡ granted_places c.args.changes.now c.args.rows.now.add c.args.rows.now.remove
    c.args.rows.now.update =
    c.as_slice-2.ensures.value ∙ (c.in_ok-places.ensures ∙ ap distinct_places (c.as_slice.ensures.value ∙ c.in_ok-given.ensures)) in
    omega (arith, few, ap length are)

pub returns-clause-allowed : goal.returns-clause-allowed
returns-clause-allowed c = λ width m H o asking are named.
    let given = c.as_slice.ensures.value ∙ c.in_ok-given.ensures in
    let places = c.in_ok-places.ensures ∙ ap distinct_places given in
    let numbers = ap (λ (ps : List Place). filter_map (place_number ps) c.as_slice-3.result.now) (c.as_slice-2.ensures.value ∙ places)
    ∙ ap (filter_map (place_number (granted_places c.args.changes.now c.args.rows.now.add c.args.rows.now.remove c.args.rows.now.update)))
    (c.as_slice-3.ensures.value ∙ c.in_ok-given.ensures) in
    allowed width m H o c.args.rows.now.grant c.args.changes.now c.args.rows.now.add c.args.rows.now.remove c.args.rows.now.update
    c.of.result c.of-2.result are
    (c.of.ensures ∙ places) (c.of-2.ensures ∙ (c.in_ok-spots.ensures ∙ numbers)) asking named c.requires
