use Rattle.std.proofs.Common.{◌∙◌, ap, sym, subst, refl, ◌≡◌, ◌<◌, ◌≤◌, ◌-◌, List, None, Option, Some, ℕ, true, false}
use Rattle.lcm_events.specs.declared.events.EventKind.{EventKind}
use Rattle.lcm_events.specs.declared.events.Operation.{Operation}
use Rattle.lcm_model.specs.Operations.{occurrence_of}
use Rattle.occ_table.specs.declared.rows.Grant.{Grant}
use Rattle.occ_table.specs.declared.rows.OccRow.{OccRow}
use Rattle.lcm_events.specs.declared.attempts.Tag.{Tag}
use Rattle.occ_table.proofs.KnownSteps.{no_deed_in}
use Rattle.occ_table.specs.Resources.{deed_of, kept_of, used_after}
use Rattle.occ_table.specs.Table.{Occurrences}
use Rattle.occ_table.specs.declared.resources.DoneAttempt.{DoneAttempt}
use Rattle.occ_table.specs.Steps.{first_row, is_bringing, row_after, rows_after, update}
use Rattle.occ_table.specs.Table.{HasRoomFor, Reserved, needs_room}
use Rattle.occ_table.proofs.GoingLaws.{active_fit, moved_fit, unmoved}
use Rattle.occ_table.proofs.HomeLaws.{undescribed}
use Rattle.occ_table.proofs.OngoingSteps.{unengaged}
use Rattle.occ_table.proofs.RowsSteps.{followed, low, not_bringing}
use Rattle.occ_table.proofs.NeededSteps.{kept_as_before}
use Rattle.occ_table.proofs.TableLaws.{kept_same, table_after}
use Rattle.occ_table.proofs.table.OccTable.apply.Goals as goal

pub returns-in-Created : goal.returns-in-Created
returns-in-Created c = record {
  applies = λ width m H wide legal allowed table.
      table_after width m H c.args.e.now _ c.args.self.now c.put_instance.new.self c.in-Created.is wide legal allowed table
      c.put_instance.ensures.rows c.put_instance.ensures.active c.put_instance.ensures.ongoing c.put_instance.ensures.vnfds
      (λ i x. ap (λ es. kept_of es i x) c.put_instance.ensures.resources);
  stays = λ none. let yes : true ≡ false = sym (ap needs_room c.in-Created.is) ∙ none in cc;
}

pub returns-in-Asked-clause-applies : goal.returns-in-Asked-clause-applies
returns-in-Asked-clause-applies c = λ width m H wide legal allowed table.
    let time : ℕ = c.args.e.now.moment in
    let a : Operation = c.in-Asked.operation in
    let kept : Reserved = c.args.self.now.reserved in
    let room : (kept.row ≡ Some (first_row time a)) × (0 < kept.spare) × (0 < kept.places) × (765 ≤ kept.used_names) =
    subst (λ (k : EventKind). HasRoomFor time k kept) c.in-Asked.is c.requires.room in
    table_after width m H c.args.e.now _ c.args.self.now c.put_row.new.self c.in-Asked.is wide legal allowed table
    (c.put_row.ensures.rows (first_row time a) room.0) (c.put_row.ensures.active
    (active_fit c.args.self.now.rows c.args.self.now.active H table.rows table.active))
    c.put_row.ensures.ongoing c.put_row.ensures.vnfds (λ i x. ap (λ es. kept_of es i x) c.put_row.ensures.resources)

pub returns-in-Granted : goal.returns-in-Granted
returns-in-Granted c = record {
  applies = λ width m H wide legal allowed table.
      let n : ℕ = c.in-Granted.occ in
      let g : Grant = record { name = c.in-Granted.grant; places = c.in-Granted.places; spots = c.in-Granted.spots } in
      let kept : Reserved = c.args.self.now.reserved in
      let room : kept.grant ≡ Some g = subst (λ (k : EventKind). HasRoomFor c.args.e.now.moment k kept) c.in-Granted.is c.requires.room in
      table_after width m H c.args.e.now _ c.args.self.now c.put_grant.new.self c.in-Granted.is wide legal allowed table
      (c.put_grant.ensures.rows g room (low width m H c.args.e.now.kind n (ap occurrence_of c.in-Granted.is) legal allowed))
      c.put_grant.ensures.active c.put_grant.ensures.ongoing c.put_grant.ensures.vnfds
      (λ i x. ap (λ es. kept_of es i x) c.put_grant.ensures.resources);
  stays = λ none. let yes : true ≡ false = sym (ap needs_room c.in-Granted.is) ∙ none in cc;
}

pub returns-in-GrantTried : goal.returns-in-GrantTried
returns-in-GrantTried c = record {
  applies = λ width m H wide legal allowed table.
      let n : ℕ = c.in-GrantTried.occ in
      let old : List OccRow = c.args.self.now.rows in
      table_after width m H c.args.e.now _ c.args.self.now c.follow_try.new.self c.in-GrantTried.is wide legal allowed table
      (c.follow_try.ensures.numbered c.requires.room (low width m H c.args.e.now.kind n (ap occurrence_of c.in-GrantTried.is) legal allowed)
      ∙ ap (λ (k : EventKind). update (row_after c.args.e.now.moment None k) (n - 1) old) c.in-GrantTried.is)
      c.follow_try.ensures.active c.follow_try.ensures.ongoing c.follow_try.ensures.vnfds
      (λ i x. ap (λ es. kept_of es i x) c.follow_try.ensures.resources);
  stays = λ none. kept_same _ _ (c.follow_try.ensures.reserved none);
}

pub returns-in-Moved : goal.returns-in-Moved
returns-in-Moved c = record {
  applies = λ width m H wide legal allowed table.
      let n : ℕ = c.in-Moved.occ in
      let old : List OccRow = c.args.self.now.rows in
      table_after width m H c.args.e.now _ c.args.self.now c.follow_move.new.self c.in-Moved.is wide legal allowed table
      (c.follow_move.ensures.numbered (low width m H c.args.e.now.kind n (ap occurrence_of c.in-Moved.is) legal allowed)
      ∙ ap (λ (k : EventKind). update (row_after c.args.e.now.moment None k) (n - 1) old) c.in-Moved.is)
      (c.follow_move.ensures.active (moved_fit width m H c.args.e.now n c.in-Moved.to old c.args.self.now.active c.in-Moved.is legal allowed
      table.rows table.active))
      c.follow_move.ensures.ongoing c.follow_move.ensures.vnfds c.follow_move.ensures.resources;
  stays = λ none. c.follow_move.ensures.reserved;
}

pub returns-in-Settled : goal.returns-in-Settled
returns-in-Settled c = record {
  applies = λ width m H wide legal allowed table.
      let t : Tag = c.in-Settled.tag in
      let old : Occurrences = c.args.self.now in
      table_after width m H c.args.e.now _ c.args.self.now c.follow_end.new.self c.in-Settled.is wide legal allowed table
      (c.follow_end.ensures.rows (low width m H c.args.e.now.kind t.occ (ap occurrence_of c.in-Settled.is) legal allowed)
      ∙ ap (λ (k : EventKind). update (row_after c.args.e.now.moment
      (used_after (deed_of t c.in-Settled.outcome old.rows) (kept_of old.resources)) k) (t.occ - 1) old.rows) c.in-Settled.is)
      c.follow_end.ensures.active c.follow_end.ensures.ongoing c.follow_end.ensures.vnfds c.follow_end.ensures.resources;
  stays = λ none. kept_same _ _ (c.follow_end.ensures.reserved (sym (ap needs_room c.in-Settled.is) ∙ none));
}

pub follow_end-requires-clause-room : goal.follow_end-requires-clause-room
follow_end-requires-clause-room c = subst (λ (k : EventKind). HasRoomFor c.args.e.now.moment k c.args.self.now.reserved) c.in-Settled.is
    c.requires.room

pub returns-in_default : goal.returns-in_default
returns-in_default c = record {
  applies = λ width m H wide legal allowed table.
      table_after width m H c.args.e.now c.args.e.now.kind c.args.self.now c.follow_about.new.self refl wide legal allowed table
      (followed width m H c.args.e.now.moment c.args.self.now.vnfds c.args.e.now.kind c.args.self.now.rows c.follow_about.new.self.rows
      c.in_default.not-Asked
      c.follow_about.ensures.numbered c.follow_about.ensures.none legal allowed
      ∙ ap (λ (d : Option DoneAttempt). rows_after c.args.self.now.vnfds c.args.e.now.moment
      (used_after d (kept_of c.args.self.now.resources)) c.args.e.now.kind c.args.self.now.rows)
      (sym (no_deed_in c.args.e.now.kind c.args.self.now.rows c.in_default.not-Settled)))
      (c.follow_about.ensures.active ∙ unmoved c.args.e.now.kind c.args.self.now.active c.in_default.not-Asked c.in_default.not-Moved)
      (c.follow_about.ensures.ongoing ∙ unengaged c.args.e.now.kind c.args.self.now.rows c.args.self.now.ongoing c.in_default.not-Created
      c.in_default.not-Asked c.in_default.not-Moved)
      (c.follow_about.ensures.vnfds ∙ undescribed c.args.e.now.kind c.args.self.now.vnfds c.in_default.not-Created)
      (λ i x.
      ap (λ es. kept_of es i x) c.follow_about.ensures.resources
      ∙ kept_as_before c.args.e.now.kind c.args.self.now.rows (kept_of c.args.self.now.resources) i x c.in_default.not-Settled
      c.in_default.not-Moved);
  stays = λ none. kept_same _ _ c.follow_about.ensures.reserved;
}

pub follow_move-requires : goal.follow_move-requires
follow_move-requires c = ap is_bringing c.in-Moved.is

pub follow_about-requires : goal.follow_about-requires
follow_about-requires c = not_bringing c.args.e.now.kind c.in_default.not-Granted c.in_default.not-GrantTried

pub put_instance-requires-clause-instances : goal.put_instance-requires-clause-instances
put_instance-requires-clause-instances c =
    let kept : Reserved = c.args.self.now.reserved in
    let room : (0 < kept.instances) × (0 < kept.names) = subst (λ (k : EventKind). HasRoomFor c.args.e.now.moment k kept) c.in-Created.is
    c.requires.room in
    room.0

pub put_instance-requires-clause-names : goal.put_instance-requires-clause-names
put_instance-requires-clause-names c =
    let kept : Reserved = c.args.self.now.reserved in
    let room : (0 < kept.instances) × (0 < kept.names) = subst (λ (k : EventKind). HasRoomFor c.args.e.now.moment k kept) c.in-Created.is
    c.requires.room in
    room.1
