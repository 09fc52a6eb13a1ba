-- The words of the standard that bodies have (SOL 003 5.5.4, enumerations).
use Rattle.std.specs.Prelude.{Bool, List, Option, codes, find, if◌then◌else◌, ℕ}
use Rattle.std.specs.Str.{bytes_eq}
use Rattle.lcm_events.specs.declared.asks.OpKind.{OpKind}
use Rattle.lcm_events.specs.declared.asks.OpKind.TheVariants as kinds
use Rattle.lcm_events.specs.declared.asks.ScaleWay.{ScaleWay}
use Rattle.lcm_events.specs.declared.asks.ScaleWay.TheVariants.{In, Out}
use Rattle.lcm_events.specs.declared.asks.StopType.{StopType}
use Rattle.lcm_events.specs.declared.asks.StopType.TheVariants as stops
use Rattle.lcm_events.specs.declared.filters.NoticeKind.{NoticeKind}
use Rattle.lcm_events.specs.declared.filters.NoticeKind.TheVariants.{Creation, Deletion, Occurrence}
use Rattle.lcm_events.specs.declared.filters.OperationType.{OperationType}
use Rattle.lcm_events.specs.declared.filters.OperationType.TheVariants.{ChangeExtConn, ModifyInfo, Of}
use Rattle.lcm_events.specs.declared.states.CancelMode.{CancelMode}
use Rattle.lcm_events.specs.declared.states.CancelMode.TheVariants.{Forceful, Graceful}
use Rattle.lcm_events.specs.declared.states.OpState.{OpState}
use Rattle.lcm_events.specs.declared.states.OpState.TheVariants.{Completed, Failed, FailedTemp, Processing, RolledBack}
use Rattle.lcm_events.specs.declared.states.OpState.TheVariants.{RollingBack, Starting}

-- how a cancel ends the work that is under way (SOL 003 5.5.4, CancelModeType)
abbrev pub cancel_word : CancelMode → List ℕ
cancel_word Graceful = codes "GRACEFUL"
cancel_word Forceful = codes "FORCEFUL"

-- out or in (SOL 003 5.5.2.5, ScaleVnfRequest, type)
abbrev pub way_word : ScaleWay → List ℕ
way_word Out = codes "SCALE_OUT"
way_word In = codes "SCALE_IN"

-- how what runs is stopped (SOL 003 5.5.4, StopType)
abbrev pub stop_word : StopType → List ℕ
stop_word stops.Forceful = codes "FORCEFUL"
stop_word stops.Graceful = codes "GRACEFUL"

-- started, or else stopped (SOL 003 5.5.4, VnfOperationalStateType)
abbrev pub power_word : Bool → List ℕ
power_word started = if started then codes "STARTED" else codes "STOPPED"

-- the kind of a notification (SOL 003 5.5.2.17 to 5.5.2.19, notificationType)
abbrev pub notice_word : NoticeKind → List ℕ
notice_word Occurrence = codes "VnfLcmOperationOccurrenceNotification"
notice_word Creation = codes "VnfIdentifierCreationNotification"
notice_word Deletion = codes "VnfIdentifierDeletionNotification"

-- the kind of an operation (SOL 003 5.5.4, LcmOperationType)
abbrev pub kind_word : OpKind → List ℕ
kind_word kinds.Instantiate = codes "INSTANTIATE"
kind_word kinds.Scale = codes "SCALE"
kind_word kinds.ScaleToLevel = codes "SCALE_TO_LEVEL"
kind_word kinds.Heal = codes "HEAL"
kind_word kinds.Operate = codes "OPERATE"
kind_word kinds.Terminate = codes "TERMINATE"
kind_word kinds.ChangeFlavour = codes "CHANGE_FLAVOUR"

-- an operation type that a filter may name (SOL 003 5.5.4, LcmOperationType)
abbrev pub operation_type_word : OperationType → List ℕ
operation_type_word (Of kind) = kind_word kind
operation_type_word ChangeExtConn = codes "CHANGE_EXT_CONN"
operation_type_word ModifyInfo = codes "MODIFY_INFO"

-- the state of an occurrence (SOL 003 5.5.4, LcmOperationStateType)
abbrev pub state_word : OpState → List ℕ
state_word Starting = codes "STARTING"
state_word Processing = codes "PROCESSING"
state_word Completed = codes "COMPLETED"
state_word FailedTemp = codes "FAILED_TEMP"
state_word Failed = codes "FAILED"
state_word RollingBack = codes "ROLLING_BACK"
state_word RolledBack = codes "ROLLED_BACK"

-- which of these values the text is the word of (own rule)
abbrev pub of_word : {A : Type 0} → (A → List ℕ) → List A → List ℕ → Option A
of_word word values text = find (λ value. bytes_eq text (word value)) values
