-- The line that tells of an event: its number in the journal, its moment, what happened, and what it is about (own rule,
-- docs/FORMATS.md). Names and lines have no control characters, so an event is one line.
use Rattle.std.specs.Prelude.{List, None, Option, Some, [], codes, decimal, length, ℕ, ◌++◌, ◌∷◌}
use Rattle.json_bodies.specs.Words.{cancel_word, kind_word, state_word}
use Rattle.json_views.specs.Moments.{moment_text}
use Rattle.lcm_events.specs.declared.attempts.Outcome.{Outcome}
use Rattle.lcm_events.specs.declared.attempts.Outcome.TheVariants.{Aborted, Broken, Done, NotBegun}
use Rattle.lcm_events.specs.declared.attempts.Tag.{Tag}
use Rattle.lcm_events.specs.declared.descriptor.Vnfd.{Vnfd}
use Rattle.lcm_events.specs.declared.events.Event.{Event}
use Rattle.lcm_events.specs.declared.events.EventKind.{EventKind}
use Rattle.lcm_events.specs.declared.events.EventKind.TheVariants.{Asked, CallFailed, CancelAsked, Created, Deleted, Denied}
use Rattle.lcm_events.specs.declared.events.EventKind.TheVariants.{GrantTried, Granted, Intent, Moved, Onboarded, Posted}
use Rattle.lcm_events.specs.declared.events.EventKind.TheVariants.{Settled, Subscribed, Unsubscribed}
use Rattle.lcm_events.specs.declared.events.GrantTry.{GrantTry}
use Rattle.lcm_events.specs.declared.events.GrantTry.TheVariants.{Later, NotCovering, Trouble}
use Rattle.lcm_events.specs.declared.events.Operation.{Operation}
use Rattle.lcm_events.specs.declared.events.PostOutcome.{PostOutcome}
use Rattle.lcm_events.specs.declared.events.PostOutcome.TheVariants.{Delivered, NotTaken}
use Rattle.lcm_model.specs.Operations.{kind_of}
use Rattle.occ_table.specs.declared.rows.OccRow.{OccRow}
use Rattle.history_lines.specs.Words.{attempt_words, instance_words, occurrence_words, role_word, subscription_words}

-- the name of an instance, where it has one (SOL 003 5.5.2.2, vnfInstanceName)
abbrev pub name_words : Option (List ℕ) → List ℕ
name_words None = []
name_words (Some name) = codes " vnfInstanceName " ++ name

-- an operation that is asked for: it is STARTING (SOL 003 5.5.2.13, 5.6.2)
unfoldable pub asked_words : ℕ → Operation → List ℕ
asked_words manager a = codes "STARTING" ++ occurrence_words manager a.occ ++ instance_words manager a.instance
    ++ codes " operation " ++ kind_word (kind_of a.ask) ++ codes " changes " ++ decimal (length a.changes)
    ++ codes " by " ++ role_word a.role

-- an answer to a grant request that is no grant (SOL 003 9.4.2)
abbrev pub tried_words : ℕ → ℕ → GrantTry → List ℕ
tried_words manager o (Later at) = codes "GRANT_LATER" ++ occurrence_words manager o ++ codes " at " ++ at
tried_words manager o Trouble = codes "GRANT_TROUBLE" ++ occurrence_words manager o
tried_words manager o NotCovering = codes "GRANT_NOT_COVERING" ++ occurrence_words manager o

-- how an attempt ended; behind what it is, the resource that it has, or the code of the infrastructure (own rule)
abbrev pub ended_words : ℕ → Tag → Outcome → Option OccRow → Option Vnfd → List ℕ
ended_words manager t (Done resource) row d = codes "DONE" ++ attempt_words manager t row d ++ codes " resourceId "
    ++ resource
ended_words manager t (Broken code) row d = codes "BROKEN" ++ attempt_words manager t row d ++ codes " code "
    ++ decimal code
ended_words manager t Aborted row d = codes "ABORTED" ++ attempt_words manager t row d
ended_words manager t NotBegun row d = codes "NOT_BEGUN" ++ attempt_words manager t row d

-- a post of the notice of an event: the receiver took it or didn't (SOL 003 5.4.20)
abbrev pub posted_words : ℕ → ℕ → ℕ → PostOutcome → List ℕ
posted_words manager s place Delivered = codes "NOTICE_TAKEN" ++ subscription_words manager s ++ codes " event "
    ++ decimal place
posted_words manager s place NotTaken = codes "NOTICE_NOT_TAKEN" ++ subscription_words manager s ++ codes " event "
    ++ decimal place

-- what happened, and what it is about; of an attempt also what it does, by the row of its occurrence and by the
-- descriptor of its instance
abbrev pub words : ℕ → EventKind → Option OccRow → Option Vnfd → List ℕ
words manager (Onboarded v) row d = codes "ONBOARDED vnfdId " ++ v.descriptor_id
words manager (Created i vnfd name text) row d = codes "CREATED" ++ instance_words manager i ++ codes " vnfdId " ++ vnfd
    ++ name_words name
words manager (Deleted i) row d = codes "DELETED" ++ instance_words manager i
words manager (Asked a) row d = asked_words manager a
words manager (GrantTried o answer) row d = tried_words manager o answer
words manager (Granted o grant places spots) row d = codes "GRANTED" ++ occurrence_words manager o ++ codes " grantId "
    ++ grant
words manager (Denied o) row d = codes "GRANT_DENIED" ++ occurrence_words manager o
words manager (Intent t) row d = codes "BEGIN" ++ attempt_words manager t row d
words manager (CallFailed t) row d = codes "CALL_FAILED" ++ attempt_words manager t row d
words manager (Settled t outcome) row d = ended_words manager t outcome row d
words manager (Moved o to) row d = state_word to ++ occurrence_words manager o
words manager (CancelAsked o mode) row d = codes "CANCEL" ++ occurrence_words manager o ++ codes " cancelMode "
    ++ cancel_word mode
words manager (Subscribed s role callback filter) row d = codes "SUBSCRIBED" ++ subscription_words manager s
    ++ codes " by " ++ role_word role ++ codes " callbackUri " ++ callback
words manager (Unsubscribed s) row d = codes "UNSUBSCRIBED" ++ subscription_words manager s
words manager (Posted s place outcome) row d = posted_words manager s place outcome

-- the line of event n, with its line feed
unfoldable pub line : ℕ → ℕ → Event → Option OccRow → Option Vnfd → List ℕ
line manager n e row d = decimal n ++ codes " " ++ moment_text e.moment ++ codes " " ++ words manager e.kind row d
    ++ (10 ∷ [])
