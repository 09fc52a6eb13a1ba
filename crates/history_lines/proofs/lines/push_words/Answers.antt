-- What happened, and then what it is about.
use Rattle.history_lines.proofs.TextLemmas.{same_part, two}
use Rattle.history_lines.proofs.lines.push_words.Goals as goal

pub returns-in_ok-push-in-Onboarded-2 : goal.returns-in_ok-push-in-Onboarded-2
returns-in_ok-push-in-Onboarded-2 c =
    rw (c.in-Onboarded.is)
    (two _ _ _ _ _ c.in_ok-push-in-Onboarded.ensures
    (same_part _ _ _ _ c.in_ok-push-in-Onboarded-2.ensures c.as_bytes.ensures.value))

pub returns-in_ok-push_occurrence-in-Denied : goal.returns-in_ok-push_occurrence-in-Denied
returns-in_ok-push_occurrence-in-Denied c =
    rw (c.in-Denied.is) (two _ _ _ _ _ c.in_ok-push-in-Denied.ensures c.in_ok-push_occurrence-in-Denied.ensures)

pub returns-in_ok-push_attempt-in-CallFailed : goal.returns-in_ok-push_attempt-in-CallFailed
returns-in_ok-push_attempt-in-CallFailed c =
    rw (c.in-CallFailed.is)
    (two _ _ _ _ _ c.in_ok-push-in-CallFailed.ensures c.in_ok-push_attempt-in-CallFailed.ensures)

pub returns-in_ok-push_subscription-in-Unsubscribed : goal.returns-in_ok-push_subscription-in-Unsubscribed
returns-in_ok-push_subscription-in-Unsubscribed c =
    rw (c.in-Unsubscribed.is)
    (two _ _ _ _ _ c.in_ok-push-in-Unsubscribed.ensures c.in_ok-push_subscription-in-Unsubscribed.ensures)
