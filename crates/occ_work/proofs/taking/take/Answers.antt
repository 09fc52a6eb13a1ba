-- What was heard is one event, which may be recorded, or none.
use Rattle.std.proofs.Common.{Err, ap, ◌∙◌}
use Rattle.std.proofs.lemmas.Result.{err_from_is_err_and}
use Rattle.lcm_model.specs.Operations.{changes}
use Rattle.occ_work.specs.Exchanges.{listed}
use Rattle.occ_work.proofs.TakingLemmas.{ended_as, ends_recorded, ends_waiting, few_kinds, kinds_by_row, may_take_event, records_as}
use Rattle.occ_work.proofs.TakingLemmas.{records_none, records_starved}
use Rattle.occ_work.proofs.taking.take.Goals as goal

pub record-requires : goal.record-requires
record-requires g c =
    let it = c.requires.ready in
    let kinds = kinds_by_row it.0 _ _ _ c.args.asking c.args.call c.args.heard.now _
    (c.row_of.ensures.row it.0 it.1.keeps it.2) c.as_slice-changes.ensures c.in_ok-appended.ensures.kinds in
    record {
      may = (
        it.0,
        it.1,
        may_take_event _ _ it.0 _ c.args.asking c.args.call c.args.heard.now _ _ c.next_actions_are_allowed.ensures
            c.covering_rows_place_changes.ensures it.1.keeps.kept.legal it.2 it.3 (kinds ∙ ap listed c.in-Some.is) c.event_of-event.ensures,
      );
      kind = rw c.event_of-event.ensures (rw c.in-Some.is at c.in_ok-appended.ensures.acts);
    }

pub returns-in-Some-clause-records : goal.returns-in-Some-clause-records
returns-in-Some-clause-records g c = λ H ready is next.
    let kinds = kinds_by_row H _ _ _ c.args.asking c.args.call c.args.heard.now _
    (c.row_of.ensures.row H ready.keeps is) c.as_slice-changes.ensures c.in_ok-appended.ensures.kinds ∙ ap listed c.in-Some.is in
    let may = may_take_event _ _ H _ c.args.asking c.args.call c.args.heard.now _ _ c.next_actions_are_allowed.ensures
    c.covering_rows_place_changes.ensures ready.keeps.kept.legal is next kinds c.event_of-event.ensures in
    records_as _ _ _ _ _ H _ _ _ _ _ _ c.event_of-event.ensures kinds (c.record.ensures.records H ready may)

pub returns-in-Some-clause-ended : goal.returns-in-Some-clause-ended
returns-in-Some-clause-ended g c = λ H ready is.
    let kinds = kinds_by_row H _ _ _ c.args.asking c.args.call c.args.heard.now _
    (c.row_of.ensures.row H ready.keeps is) c.as_slice-changes.ensures c.in_ok-appended.ensures.kinds ∙ ap listed c.in-Some.is in
    ended_as _ _ _ c.record.ensures.ended (ends_recorded c.args.asking c.args.occ _ _ kinds)

pub returns-in-None-clause-records : goal.returns-in-None-clause-records
returns-in-None-clause-records g c = λ H ready is next.
    let kinds = kinds_by_row H _ _ _ c.args.asking c.args.call c.args.heard.now _
    (c.row_of.ensures.row H ready.keeps is) c.as_slice-changes.ensures c.in_ok-appended.ensures.kinds ∙ ap listed c.in-None.is in
    records_none _ _ _ _ H _ _ (c.works_add_up.ensures.idles c.args.site.now) ready kinds

pub returns-in-None-clause-ended : goal.returns-in-None-clause-ended
returns-in-None-clause-ended g c = λ H ready is.
    let kinds = kinds_by_row H _ _ _ c.args.asking c.args.call c.args.heard.now _
    (c.row_of.ensures.row H ready.keeps is) c.as_slice-changes.ensures c.in_ok-appended.ensures.kinds ∙ ap listed c.in-None.is in
    ends_waiting c.args.asking c.args.occ (changes H c.args.occ) c.args.call c.args.heard.now kinds

pub returns-in_err-appended-clause-records : goal.returns-in_err-appended-clause-records
returns-in_err-appended-clause-records g c = λ H ready is next.
    let err = err_from_is_err_and c.from_residual.result c.from_residual.ensures.1 in
    rw (err.1 ∙ ap Err err.2) (records_starved _ _ _ _ H _ (few_kinds c.args.asking c.args.occ _)
    (c.works_add_up.ensures.idles c.args.site.now) ready)

pub returns-in-None-clause-jobs : goal.returns-in-None-clause-jobs
returns-in-None-clause-jobs g c = λ told. c.works_add_up.ensures.idle_jobs c.args.site.now

pub returns-in_err-appended-clause-jobs : goal.returns-in_err-appended-clause-jobs
returns-in_err-appended-clause-jobs g c = λ told. c.works_add_up.ensures.idle_jobs c.args.site.now
