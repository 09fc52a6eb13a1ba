use Rattle.std.proofs.Common.{◌≡◌, ◌∙◌, ◌-◌, ℕ, None, Option, Some, ap, sym, true, false}
use Rattle.lcm_events.specs.declared.attempts.Outcome.{Outcome}
use Rattle.lcm_events.specs.declared.attempts.Tag.{Tag}
use Rattle.lcm_events.specs.declared.events.EventKind.{EventKind}
use Rattle.lcm_model.specs.Attempts.{is_done}
use Rattle.lcm_model.specs.Operations.{occurrence_of}
use Rattle.occ_table.specs.Resources.{deed_of, kept_of, learned, used_after}
use Rattle.occ_table.specs.Steps.{row_after, rows_about, update}
use Rattle.occ_table.specs.Table.{Occurrences}
use Rattle.occ_table.specs.declared.resources.DoneAttempt.{DoneAttempt}
use Rattle.occ_table.proofs.KnownSteps.{no_deed}
use Rattle.occ_table.proofs.table.OccTable.follow_end.Goals as goal

pub returns-in-Done : goal.returns-in-Done
returns-in-Done c =
    let time : ℕ = c.args.moment in
    let t : Tag = c.args.tag.now in
    let k : EventKind = c.args.kind.now in
    let old : Occurrences = c.args.self.now in
    record {
      rows = λ from.
          c.follow_done.ensures.rows from
          ∙ ap (λ (o : Outcome). update (row_after time (used_after (deed_of t o old.rows) (kept_of old.resources)) k) (t.occ - 1) old.rows)
          (sym c.in-Done.is);
      active = c.follow_done.ensures.active;
      ongoing = c.follow_done.ensures.ongoing;
      vnfds = c.follow_done.ensures.vnfds;
      resources = λ i x.
          c.follow_done.ensures.resources i x ∙ ap (λ (o : Outcome). learned (deed_of t o old.rows) (kept_of old.resources) i x)
          (sym c.in-Done.is);
      reserved = λ none. let yes : true ≡ false = sym (ap is_done c.in-Done.is) ∙ none in cc;
    }

pub returns-in_default : goal.returns-in_default
returns-in_default c =
    let time : ℕ = c.args.moment in
    let t : Tag = c.args.tag.now in
    let k : EventKind = c.args.kind.now in
    let old : Occurrences = c.args.self.now in
    let about : occurrence_of k ≡ Some t.occ = ap occurrence_of c.requires.kind in
    let nothing : deed_of t c.args.outcome.now old.rows ≡ None = no_deed t c.args.outcome.now old.rows c.in_default.not-Done in
    record {
      rows = λ from.
          c.follow_about.ensures.numbered t.occ about from ∙ ap (λ (o : Option ℕ). rows_about o time None k old.rows) about
          ∙ ap (λ (d : Option DoneAttempt). update (row_after time (used_after d (kept_of old.resources)) k) (t.occ - 1) old.rows)
          (sym nothing);
      active = c.follow_about.ensures.active;
      ongoing = c.follow_about.ensures.ongoing;
      vnfds = c.follow_about.ensures.vnfds;
      resources = λ i x.
          ap (λ es. kept_of es i x) c.follow_about.ensures.resources ∙ ap
          (λ (d : Option DoneAttempt). learned d (kept_of old.resources) i x) (sym nothing);
      reserved = λ none. c.follow_about.ensures.reserved;
    }
