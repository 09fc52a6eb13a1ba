-- What was judged decides.
use Rattle.std.proofs.Common.{◌∙◌, sym}
use Rattle.std.specs.Prelude.{IsOk, codes}
use Rattle.serde_json.specs.View.{view}
use Rattle.json_bodies.specs.Body.{line_in, member_of, needed, optional_read}
use Rattle.json_bodies.specs.Subscribing.{filter_in, inside_object}
use Rattle.json_bodies.proofs.SubscriptionLemmas.{filter_refused, filter_there, gave_up, moved_fault, no_fault, no_filter_there, said_is_ok}
use Rattle.json_bodies.proofs.SubscriptionLemmas.{subscription_taken}
use Rattle.json_bodies.proofs.subscribing.subscription_body.Goals.{in-Some+in_ok-asked-in-Some, in-None}
use Rattle.json_bodies.proofs.subscribing.subscription_body.Goals as goal

pub returns-in_err-asked-in-Some-clause-gives : goal.returns-in_err-asked-in-Some-clause-gives
returns-in_err-asked-in-Some-clause-gives c = rw (gave_up _ _ c.from_residual-in_err-asked-in-Some.ensures.1)
    (filter_refused (view c.args.value.now) (view c.in-Some.filter.now) _ c.in_ok-check_needed.ensures (sym c.in-Some.ensures)
    c.in_err-asked-in-Some.ensures.gives)

pub returns-in_err-asked-in-Some-clause-memory : goal.returns-in_err-asked-in-Some-clause-memory
returns-in_err-asked-in-Some-clause-memory c = λ is.
    subscription_taken (view c.args.value.now)
    (no_fault (needed line_in (codes "callbackUri") (view c.args.value.now)) c.in_ok-check_needed.ensures)
    (filter_there (view c.args.value.now) (view c.in-Some.filter.now) (sym c.in-Some.ensures)
    (c.in_err-asked-in-Some.ensures.memory (moved_fault _ _ (sym (gave_up _ _ c.from_residual-in_err-asked-in-Some.ensures.1) ∙ is))))

pub returns-in_err-callback-clause-memory : goal.returns-in_err-callback-clause-memory
returns-in_err-callback-clause-memory c = λ is.
    let asked : IsOk (optional_read (inside_object filter_in) (codes "filter") (member_of (codes "filter") (view c.args.value.now))) =
    elim c.match-member.branch [
      | in-Some+in_ok-asked-in-Some w ↦ filter_there (view c.args.value.now) (view w.in-Some.filter.now) (sym w.in-Some.ensures)
          (said_is_ok _ _ w.in_ok-asked-in-Some.ensures.gives)
      | in-None w ↦ no_filter_there (view c.args.value.now) (sym w.in-None.ensures)
    ] in
    subscription_taken (view c.args.value.now)
    (c.in_err-callback.ensures.form (moved_fault _ _ (sym (gave_up _ _ c.from_residual-in_err-callback.ensures.1) ∙ is)))
    asked
