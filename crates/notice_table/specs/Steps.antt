-- What each event makes of the queues.
use Rattle.std.specs.Prelude.{List, None, Option, Some, drop, filter, if◌then◌else◌, map, nat_le, not, ℕ, [], ◌+◌, ◌++◌}
use Rattle.std.specs.Prelude.{◌==◌, ◌||◌, ◌∷◌}
use Rattle.lcm_events.specs.declared.events.EventKind.{EventKind}
use Rattle.lcm_events.specs.declared.events.EventKind.TheVariants.{Posted, Subscribed, Unsubscribed}
use Rattle.lcm_events.specs.declared.events.PostOutcome.{PostOutcome}
use Rattle.lcm_events.specs.declared.filters.Filter.{Filter}
use Rattle.lcm_model.specs.Notices.{is_delivered, matches}
use Rattle.lcm_model.specs.Notices as model
use Rattle.notice_table.specs.Queues.{Queue}

-- the queue of a subscription when it is made
abbrev pub first_queue : ℕ → Filter → Queue
first_queue s f = record { number = s; filter = f; tries = 0; waiting = [] }

-- a queue of manager m after the event at this place, whose notice tells this
abbrev pub heard : ℕ → ℕ → model.NoticeFacts → Queue → Queue
heard m place n q = if matches m q.filter n then record q { waiting = q.waiting ++ place ∷ [] } else q

-- the queues of manager m after the event at this place, where it makes a notice
abbrev pub heard_by : ℕ → ℕ → Option model.NoticeFacts → List Queue → List Queue
heard_by m place None qs = qs
heard_by m place (Some n) qs = map (heard m place n) qs

-- a queue after its first notice was posted: it is passed where it was taken, or not taken for the fifth time
abbrev pub after_post : PostOutcome → Queue → Queue
after_post outcome q = if is_delivered outcome || nat_le 4 q.tries
    then record q { waiting = drop 1 q.waiting; tries = 0 } else record q { tries = q.tries + 1 }

-- a queue after the first notice of the subscription of this number was posted
abbrev pub posted : ℕ → PostOutcome → Queue → Queue
posted s outcome q = if q.number == s then after_post outcome q else q

-- the queues without that of this number
abbrev pub without : ℕ → List Queue → List Queue
without s qs = filter (λ q. not (q.number == s)) qs

-- the queues after an event, but for its own notice
abbrev pub changed : EventKind → List Queue → List Queue
changed (Subscribed s role callback f) qs = qs ++ first_queue s f ∷ []
changed (Unsubscribed s) qs = without s qs
changed (Posted s place outcome) qs = map (posted s outcome) qs
changed _ qs = qs
