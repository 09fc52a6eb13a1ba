-- The numbers that stand for words in the bytes of an event (own format, docs/EVENTS.md).
use Rattle.std.specs.Prelude.{ℕ, Bool, true, false, Option, Some, None}
use Rattle.lcm_events.specs.declared.asks.OpKind.TheVariants as op
use Rattle.lcm_events.specs.declared.asks.ScaleWay.{ScaleWay}
use Rattle.lcm_events.specs.declared.asks.ScaleWay.TheVariants as scale
use Rattle.lcm_events.specs.declared.asks.StopType.{StopType}
use Rattle.lcm_events.specs.declared.asks.StopType.TheVariants as stop
use Rattle.lcm_events.specs.declared.attempts.Way.{Way}
use Rattle.lcm_events.specs.declared.attempts.Way.TheVariants as ways
use Rattle.lcm_events.specs.declared.changes.DefKind.{DefKind}
use Rattle.lcm_events.specs.declared.changes.DefKind.TheVariants as item
use Rattle.lcm_events.specs.declared.changes.Verb.{Verb}
use Rattle.lcm_events.specs.declared.changes.Verb.TheVariants as verbs
use Rattle.lcm_events.specs.declared.events.PostOutcome.{PostOutcome}
use Rattle.lcm_events.specs.declared.events.PostOutcome.TheVariants as post
use Rattle.lcm_events.specs.declared.filters.NoticeKind.{NoticeKind}
use Rattle.lcm_events.specs.declared.filters.NoticeKind.TheVariants as notice
use Rattle.lcm_events.specs.declared.filters.OperationType.{OperationType}
use Rattle.lcm_events.specs.declared.filters.OperationType.TheVariants as kind
use Rattle.lcm_events.specs.declared.states.CancelMode.{CancelMode}
use Rattle.lcm_events.specs.declared.states.CancelMode.TheVariants as mode
use Rattle.lcm_events.specs.declared.states.OpState.{OpState}
use Rattle.lcm_events.specs.declared.states.OpState.TheVariants as state
use Rattle.lcm_events.specs.declared.states.Role.{Role}
use Rattle.lcm_events.specs.declared.states.Role.TheVariants as who

-- who asks (own format)
abbrev pub role : Role → ℕ
role who.Orchestrator = 0
role who.Element = 1

-- how a cancel ends the work under way (own format)
abbrev pub cancel_mode : CancelMode → ℕ
cancel_mode mode.Graceful = 0
cancel_mode mode.Forceful = 1

-- how a termination stops what runs (own format)
abbrev pub terminate_mode : StopType → ℕ
terminate_mode stop.Graceful = 0
terminate_mode stop.Forceful = 1

-- how an OPERATE stops what runs, where it says so (own format)
abbrev pub stop_type : Option StopType → ℕ
stop_type None = 0
stop_type (Some stop.Forceful) = 1
stop_type (Some stop.Graceful) = 2

-- whether an OPERATE starts (own format)
abbrev pub started : Bool → ℕ
started true = 0
started false = 1

-- the state of an occurrence (own format)
abbrev pub op_state : OpState → ℕ
op_state state.Starting = 0
op_state state.Processing = 1
op_state state.Completed = 2
op_state state.FailedTemp = 3
op_state state.Failed = 4
op_state state.RollingBack = 5
op_state state.RolledBack = 6

-- whether an attempt makes or undoes (own format)
abbrev pub way : Way → ℕ
way ways.Forward = 0
way ways.Undo = 1

-- what a change does (own format)
abbrev pub verb : Verb → ℕ
verb verbs.Create = 0
verb verbs.Remove = 1
verb verbs.Start = 2
verb verbs.Stop = 3

-- what a definition names (own format)
abbrev pub def_kind : DefKind → ℕ
def_kind item.Link = 0
def_kind item.Storage = 1
def_kind item.Compute = 2
def_kind item.Port = 3

-- out or in (own format)
abbrev pub scale_way : ScaleWay → ℕ
scale_way scale.Out = 0
scale_way scale.In = 1

-- how a post ended (own format)
abbrev pub post_outcome : PostOutcome → ℕ
post_outcome post.Delivered = 0
post_outcome post.NotTaken = 1

-- the kind of a notice (own format)
abbrev pub notice_kind : NoticeKind → ℕ
notice_kind notice.Occurrence = 0
notice_kind notice.Creation = 1
notice_kind notice.Deletion = 2

-- the operation that a filter names (own format)
abbrev pub operation_type : OperationType → ℕ
operation_type (kind.Of op.Instantiate) = 1
operation_type (kind.Of op.Scale) = 2
operation_type (kind.Of op.ScaleToLevel) = 3
operation_type (kind.Of op.Heal) = 4
operation_type (kind.Of op.Operate) = 5
operation_type (kind.Of op.Terminate) = 6
operation_type (kind.Of op.ChangeFlavour) = 7
operation_type kind.ChangeExtConn = 8
operation_type kind.ModifyInfo = 9
