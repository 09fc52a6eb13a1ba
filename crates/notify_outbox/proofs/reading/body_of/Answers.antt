-- What the event's notice is about is found, and identifiers can carry its numbers.
use Rattle.std.proofs.lemmas.Bool.{iff_false}
use Rattle.notify_outbox.proofs.NoticeLemmas.{is_about, never_about_nothing, place_number, subscription_number, waits_next}
use Rattle.notify_outbox.proofs.reading.body_of.Goals as goal

pub notice_body-requires-clause-subscription : goal.notice_body-requires-clause-subscription
notice_body-requires-clause-subscription g c =
    let it = c.requires.waits in
    subscription_number _ it.0 _ it.1.kept.legal (c.subject_of.ensures.few it.0 it.1) (waits_next _ it.0 _ _ it.2).0

pub notice_body-requires-clause-place : goal.notice_body-requires-clause-place
notice_body-requires-clause-place g c =
    let it = c.requires.waits in
    place_number _ it.0 _ _ (c.subject_of.ensures.few it.0 it.1) it.2

pub returns-in_default-clause-good : goal.returns-in_default-clause-good
returns-in_default-clause-good g c = λ H keeps waits there n is.
    never_about_nothing _ H _ _ _ _ keeps.kept.legal (c.subject_of.ensures.few H keeps) waits there (c.subject_of.ensures.subject H keeps)
    c.in_default.is

pub returns-then-not-is_identified-clause-good : goal.returns-then-not-is_identified-clause-good
returns-then-not-is_identified-clause-good g c = λ H keeps waits there n is.
    iff_false c.is_identified.ensures c.if-not-is_identified.true
    (is_about _ H _ _ _ _ keeps.kept.legal (c.subject_of.ensures.few H keeps) waits there (c.in-Some.ensures.subject H keeps))
