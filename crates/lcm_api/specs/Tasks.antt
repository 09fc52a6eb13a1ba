-- What a task of an occurrence comes to: retry, rollback, fail and cancel (SOL 003 5.4.14 to 5.4.17). The order of the
-- refusals and their texts are an own rule.
use Rattle.std.specs.Prelude.{◌≡◌, ◌++◌, ℕ, List, [], ◌∷◌, codes, if◌then◌else◌, Bool, false, Option, Some, None}
use Rattle.std.specs.Prelude.{Result, Ok, Err}
use Rattle.http_wire.specs.declared.request.Request.{Request}
use Rattle.json_bodies.specs.Body.{cancel_of}
use Rattle.json_bodies.specs.Words.{state_word}
use Rattle.json_bodies.specs.declared.body.BodyFault.{BodyFault}
use Rattle.lcm_events.specs.declared.events.Event.{Event}
use Rattle.lcm_events.specs.declared.events.EventKind.{EventKind}
use Rattle.lcm_events.specs.declared.events.EventKind.TheVariants.{CancelAsked, Moved}
use Rattle.lcm_events.specs.declared.events.Operation.{Operation}
use Rattle.lcm_events.specs.declared.states.CancelMode.{CancelMode}
use Rattle.lcm_events.specs.declared.states.OpState.TheVariants.{Failed, Processing, RollingBack}
use Rattle.lcm_events.specs.declared.states.Task.{Task}
use Rattle.lcm_events.specs.declared.states.Task.TheVariants as tasks
use Rattle.lcm_model.specs.Moves.{state}
use Rattle.lcm_model.specs.Operations.{kind_of}
use Rattle.lcm_model.specs.Refusals.{task_refusal}
use Rattle.lcm_model.specs.declared.refusals.TaskRefusal.{TaskRefusal}
use Rattle.lcm_model.specs.declared.refusals.TaskRefusal.TheVariants.{NotSupported, WrongState}
use Rattle.occ_table.specs.Rows.{row}
use Rattle.lcm_api.specs.Bodies.{unread}
use Rattle.lcm_api.specs.Instances.{asked_id}
use Rattle.lcm_api.specs.Media.{is_json}
use Rattle.lcm_api.specs.Occurrences.{named_operation, no_occurrence, shown_row}
use Rattle.lcm_api.specs.Planning.{refused, told}
use Rattle.lcm_api.specs.declared.record.Planned.{Planned}
use Rattle.lcm_api.specs.declared.record.Planned.TheVariants.{Records}
use Rattle.lcm_replies.specs.declared.reply.Reply.{Reply}
use Rattle.lcm_api.specs.declared.tasks.AskedTask.{AskedTask}
use Rattle.lcm_api.specs.declared.tasks.AskedTask.TheVariants.{Cancel, Fail, Retry, Rollback}
use Rattle.lcm_api.specs.declared.tasks.TaskVerdict.{TaskVerdict}
use Rattle.lcm_api.specs.declared.tasks.TaskVerdict.TheVariants as verdict

-- which task it is (SOL 003 5.4.14 to 5.4.17)
abbrev pub task_of : AskedTask → Task
task_of Retry = tasks.Retry
task_of Rollback = tasks.Rollback
task_of Fail = tasks.Fail
task_of (Cancel mode) = tasks.Cancel

-- what happens to occurrence n: its work is taken up again, undone or given up, or it is to be cancelled (SOL 003
-- 5.4.14 to 5.4.17, 5.6.2)
abbrev pub task_kind : ℕ → AskedTask → EventKind
task_kind n Retry = Moved n Processing
task_kind n Rollback = Moved n RollingBack
task_kind n Fail = Moved n Failed
task_kind n (Cancel mode) = CancelAsked n mode

-- its event
abbrev pub task_event : ℕ → ℕ → AskedTask → Event
task_event now n asked = record { moment = now; kind = task_kind n asked }

-- the answer to a task that was taken up (RFC 9110 15.3.3)
unfoldable pub taken : Bool → Reply
taken last = record { status = 202; location = None; allow = None; problem = false; body = []; last = last }

-- the answer to a task of the occurrence of an operation, where this is the history with its event: fail shows the
-- occurrence (SOL 003 5.4.14.3.1, 5.4.15.3.1, 5.4.16.3.1, 5.4.17.3.1)
abbrev pub task_reply : ℕ → List Event → AskedTask → Operation → Bool → Reply
task_reply m H Fail a last = shown_row m H last a.occ (row H a)
task_reply m H _ a last = taken last

-- a task that is refused for this (RFC 9110 15.5.5, 15.5.10)
abbrev pub task_refused : TaskRefusal → Bool → Planned
task_refused NotSupported last = refused 404 (codes "task is not supported") last
task_refused (WrongState at) last = refused 409 (codes "operation is " ++ state_word at) last

-- a task is recorded with this event
abbrev pub task_taken : ℕ → List Event → Event → AskedTask → Operation → Bool → Planned
task_taken m H event asked a last = Records event (task_reply m (event ∷ H) asked a last)

-- a task of the occurrence of an operation, by why it is refused
abbrev pub task_judged : ℕ → List Event → ℕ → AskedTask → Operation → Bool → Option TaskRefusal → Planned
task_judged m H now asked a last (Some why) = task_refused why last
task_judged m H now asked a last None = task_taken m H (task_event now a.occ asked) asked a last

-- this is asked of the occurrence of an operation
abbrev pub task_asked : ℕ → List Event → ℕ → AskedTask → Bool → Option Operation → Planned
task_asked m H now asked last None = no_occurrence last
task_asked m H now asked last (Some a) = task_judged m H now asked a last
    (task_refusal (kind_of a.ask) (state H a.occ) (task_of asked))

-- this is asked of the occurrence that a request names (SOL 003 5.4.14 to 5.4.17)
abbrev pub task_named : ℕ → List Event → ℕ → AskedTask → Request → Planned
task_named m H now asked r = task_asked m H now asked r.last (named_operation m H (asked_id r))

-- a cancel request with this body, as it is read
abbrev pub cancel_read : ℕ → List Event → ℕ → Result CancelMode BodyFault → Request → Planned
cancel_read m H now (Ok mode) r = task_named m H now (Cancel mode) r
cancel_read m H now (Err fault) r = told (unread fault r.last)

-- what a request to cancel an occurrence comes to: its body is to be JSON (SOL 003 5.4.17.3.1)
abbrev pub cancel : ℕ → List Event → ℕ → Request → Planned
cancel m H now r =
    if is_json r.media then cancel_read m H now (cancel_of r.body) r
    else refused 415 (codes "body must be application/json") r.last

-- what a request for this task of an occurrence comes to: no body is read but that of a cancel
abbrev pub occurrence_task : ℕ → List Event → ℕ → Task → Request → Planned
occurrence_task m H now tasks.Retry r = task_named m H now Retry r
occurrence_task m H now tasks.Rollback r = task_named m H now Rollback r
occurrence_task m H now tasks.Fail r = task_named m H now Fail r
occurrence_task m H now tasks.Cancel r = cancel m H now r

-- whatever the history, a request for this task is refused with this reply, or asks for this
abbrev pub IsTaskVerdict : Task → Request → TaskVerdict → Type 0
IsTaskVerdict task r (verdict.Refused reply) = (m : ℕ) (H : List Event) (now : ℕ)
    → occurrence_task m H now task r ≡ told reply
IsTaskVerdict task r (verdict.Asks asked) = (m : ℕ) (H : List Event) (now : ℕ)
    → occurrence_task m H now task r ≡ task_named m H now asked r
