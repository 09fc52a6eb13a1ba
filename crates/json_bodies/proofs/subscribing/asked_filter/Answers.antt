-- What was judged decides.
use Rattle.std.proofs.Common.{◌∙◌, sym}
use Rattle.serde_json.specs.View.{view}
use Rattle.json_bodies.specs.Subscribing.{filter_in}
use Rattle.json_bodies.proofs.ByteLemmas.{filter_of_bytes}
use Rattle.json_bodies.proofs.SubscriptionLemmas.{fault_gives, gave_up, no_fault, not_memory, told_memory}
use Rattle.json_bodies.proofs.subscribing.asked_filter.Goals as goal

pub returns-in_err-check_filter-clause-gives : goal.returns-in_err-check_filter-clause-gives
returns-in_err-check_filter-clause-gives c = rw (gave_up _ _ c.from_residual-in_err-check_filter.ensures.1, ← c.in_ok-check_object.ensures)
    (fault_gives (filter_in (view c.args.value.now)) _ c.in_err-check_filter.ensures)

pub returns-in_err-check_filter-clause-memory : goal.returns-in_err-check_filter-clause-memory
returns-in_err-check_filter-clause-memory c = λ is.
    absurd (not_memory (filter_in (view c.args.value.now))
    (told_memory _ _ (sym (gave_up _ _ c.from_residual-in_err-check_filter.ensures.1) ∙ is) ∙ c.in_err-check_filter.ensures)
    (filter_of_bytes (view c.args.value.now)))

pub returns-clause-memory : goal.returns-clause-memory
returns-clause-memory c = λ is. rw (← c.in_ok-check_object.ensures)
    (no_fault (filter_in (view c.args.value.now)) c.in_ok-check_filter.ensures)
