use Rattle.std.proofs.Common.{◌∙◌, ap, sym, subst, ◌≡◌, ◌-◌, List, None, Some, Option, ℕ, true, false}
use Rattle.lcm_events.specs.declared.events.EventKind.{EventKind}
use Rattle.lcm_events.specs.declared.events.EventKind.TheVariants.{GrantTried}
use Rattle.lcm_events.specs.declared.events.GrantTry.{GrantTry}
use Rattle.lcm_model.specs.Operations.{occurrence_of}
use Rattle.occ_table.specs.declared.rows.OccRow.{OccRow}
use Rattle.occ_table.specs.Steps.{is_bringing, is_later, row_after, rows_about, update}
use Rattle.occ_table.specs.Table.{HasRoomFor, Reserved, needs_room}
use Rattle.occ_table.proofs.RowsSteps.{needs_location, told_rows}
use Rattle.occ_table.proofs.table.OccTable.follow_try.Goals as goal

pub returns-then-is_later : goal.returns-then-is_later
returns-then-is_later c =
    let time : ℕ = c.args.moment in
    let n : ℕ = c.args.occ in
    let old : List OccRow = c.args.self.now.rows in
    let kept : Reserved = c.args.self.now.reserved in
    let later : is_later c.args.answer.now ≡ true = sym c.is_later.ensures ∙ c.if-is_later.true in
    record {
      numbered = λ room from.
          told_rows time n c.args.answer.now kept.location old c.put_location.new.self.rows later
          (λ at e. subst (λ (k : EventKind). HasRoomFor time k kept) (c.requires ∙ ap (λ (a : GrantTry). GrantTried n a) e) room)
          (λ at e. c.put_location.ensures.rows at e from)
          ∙ ap (λ (k : EventKind). update (row_after time None k) (n - 1) old) (sym c.requires);
      active = c.put_location.ensures.active;
      ongoing = c.put_location.ensures.ongoing;
      vnfds = c.put_location.ensures.vnfds;
      resources = c.put_location.ensures.resources;
      reserved = λ none.
          let yes : true ≡ false = sym (needs_location n c.args.answer.now later) ∙ (sym (ap needs_room c.requires) ∙ none) in
          cc;
    }

pub returns-else-is_later : goal.returns-else-is_later
returns-else-is_later c =
    let about : occurrence_of c.args.kind.now ≡ Some c.args.occ = ap occurrence_of c.requires in
    record {
      numbered = λ room from.
          c.follow_about.ensures.numbered c.args.occ about from
          ∙ ap (λ (o : Option ℕ). rows_about o c.args.moment None c.args.kind.now c.args.self.now.rows) about;
      active = c.follow_about.ensures.active;
      ongoing = c.follow_about.ensures.ongoing;
      vnfds = c.follow_about.ensures.vnfds;
      resources = c.follow_about.ensures.resources;
      reserved = λ none. c.follow_about.ensures.reserved;
    }

pub follow_about-requires : goal.follow_about-requires
follow_about-requires c = ap is_bringing c.requires ∙ (sym c.is_later.ensures ∙ c.if-is_later.false)
