-- Words are read as they are spelled.
use Rattle.std.proofs.Common.{◌≡◌, ℕ, List, [], ◌∷◌, ◌++◌, ◌==◌, Option, Some, None, Bool, true, false, not, refl}
use Rattle.lcm_events.specs.declared.asks.OpKind.TheVariants as op
use Rattle.lcm_events.specs.declared.asks.ScaleWay.{ScaleWay}
use Rattle.lcm_events.specs.declared.asks.ScaleWay.TheVariants as scale
use Rattle.lcm_events.specs.declared.asks.StopType.{StopType}
use Rattle.lcm_events.specs.declared.asks.StopType.TheVariants as stop
use Rattle.lcm_events.specs.declared.attempts.Way.{Way}
use Rattle.lcm_events.specs.declared.attempts.Way.TheVariants as ways
use Rattle.lcm_events.specs.declared.changes.DefKind.{DefKind}
use Rattle.lcm_events.specs.declared.changes.DefKind.TheVariants as item
use Rattle.lcm_events.specs.declared.changes.Verb.{Verb}
use Rattle.lcm_events.specs.declared.changes.Verb.TheVariants as verbs
use Rattle.lcm_events.specs.declared.events.PostOutcome.{PostOutcome}
use Rattle.lcm_events.specs.declared.events.PostOutcome.TheVariants as post
use Rattle.lcm_events.specs.declared.filters.NoticeKind.{NoticeKind}
use Rattle.lcm_events.specs.declared.filters.NoticeKind.TheVariants as notice
use Rattle.lcm_events.specs.declared.filters.OperationType.{OperationType}
use Rattle.lcm_events.specs.declared.filters.OperationType.TheVariants as kind
use Rattle.lcm_events.specs.declared.states.CancelMode.{CancelMode}
use Rattle.lcm_events.specs.declared.states.CancelMode.TheVariants as mode
use Rattle.lcm_events.specs.declared.states.OpState.{OpState}
use Rattle.lcm_events.specs.declared.states.OpState.TheVariants as state
use Rattle.lcm_events.specs.declared.states.Role.{Role}
use Rattle.lcm_events.specs.declared.states.Role.TheVariants as who
use Rattle.event_codec.specs.Combinators.{sum}
use Rattle.event_codec.specs.Numbers as number
use Rattle.event_codec.specs.Readers.{role_cases, role_at, cancel_mode_cases, cancel_mode_at, terminate_mode_cases, terminate_mode_at}
use Rattle.event_codec.specs.Readers.{stop_type_cases, stop_type_at, started_cases, started_at, op_state_cases, op_state_at, way_cases}
use Rattle.event_codec.specs.Readers.{way_at, verb_cases, verb_at, def_kind_cases, def_kind_at, scale_way_cases, scale_way_at}
use Rattle.event_codec.specs.Readers.{post_outcome_cases, post_outcome_at, notice_kind_cases, notice_kind_at, operation_type_cases}
use Rattle.event_codec.specs.Readers.{operation_type_at, moved_at}
use Rattle.event_codec.specs.Spell as spell
use Rattle.event_codec.specs.Valid.{IsAny, IsMoved}
use Rattle.event_codec.proofs.CombinatorLaws.{Reads, reads_sum, reads_only, reads_fits, case_word}

pub reads_role : Reads (λ x. spell.u8 (number.role x)) IsAny role_at
unfolding role_at
reads_role =
    reads_sum (λ x. number.role x ∷ []) IsAny role_cases (
      case_word 0 who.Orchestrator (λ x. number.role x ∷ []) IsAny refl tt,
      (
        case_word 1 who.Element (λ x. number.role x ∷ []) IsAny refl tt,
        tt,
      ),
    ) again where
      again : (x : Role) (rest : List ℕ) → IsAny x → sum role_cases ((number.role x ∷ []) ++ rest) ≡ Some (x, rest)
      again who.Orchestrator rest h = refl
      again who.Element rest h = refl

pub reads_cancel_mode : Reads (λ x. spell.u8 (number.cancel_mode x)) IsAny cancel_mode_at
unfolding cancel_mode_at
reads_cancel_mode =
    reads_sum (λ x. number.cancel_mode x ∷ []) IsAny cancel_mode_cases (
      case_word 0 mode.Graceful (λ x. number.cancel_mode x ∷ []) IsAny refl tt,
      (
        case_word 1 mode.Forceful (λ x. number.cancel_mode x ∷ []) IsAny refl tt,
        tt,
      ),
    ) again where
      again : (x : CancelMode) (rest : List ℕ) → IsAny x → sum cancel_mode_cases ((number.cancel_mode x ∷ []) ++ rest) ≡ Some (x, rest)
      again mode.Graceful rest h = refl
      again mode.Forceful rest h = refl

pub reads_terminate_mode : Reads (λ x. spell.u8 (number.terminate_mode x)) IsAny terminate_mode_at
unfolding terminate_mode_at
reads_terminate_mode =
    reads_sum (λ x. number.terminate_mode x ∷ []) IsAny terminate_mode_cases (
      case_word 0 stop.Graceful (λ x. number.terminate_mode x ∷ []) IsAny refl tt,
      (
        case_word 1 stop.Forceful (λ x. number.terminate_mode x ∷ []) IsAny refl tt,
        tt,
      ),
    ) again where
      again : (x : StopType) (rest : List ℕ) → IsAny x → sum terminate_mode_cases ((number.terminate_mode x ∷ []) ++ rest) ≡ Some (x, rest)
      again stop.Graceful rest h = refl
      again stop.Forceful rest h = refl

pub reads_stop_type : Reads (λ x. spell.u8 (number.stop_type x)) IsAny stop_type_at
unfolding stop_type_at
reads_stop_type =
    reads_sum (λ x. number.stop_type x ∷ []) IsAny stop_type_cases (
      case_word 0 None (λ x. number.stop_type x ∷ []) IsAny refl tt,
      (
        case_word 1 (Some stop.Forceful) (λ x. number.stop_type x ∷ []) IsAny refl tt,
        (
          case_word 2 (Some stop.Graceful) (λ x. number.stop_type x ∷ []) IsAny refl tt,
          tt,
        ),
      ),
    ) again where
      again : (x : Option StopType) (rest : List ℕ) → IsAny x → sum stop_type_cases ((number.stop_type x ∷ []) ++ rest) ≡ Some (x, rest)
      again None rest h = refl
      again (Some stop.Forceful) rest h = refl
      again (Some stop.Graceful) rest h = refl

pub reads_started : Reads (λ x. spell.u8 (number.started x)) IsAny started_at
unfolding started_at
reads_started =
    reads_sum (λ x. number.started x ∷ []) IsAny started_cases (
      case_word 0 true (λ x. number.started x ∷ []) IsAny refl tt,
      (
        case_word 1 false (λ x. number.started x ∷ []) IsAny refl tt,
        tt,
      ),
    ) again where
      again : (x : Bool) (rest : List ℕ) → IsAny x → sum started_cases ((number.started x ∷ []) ++ rest) ≡ Some (x, rest)
      again true rest h = refl
      again false rest h = refl

pub reads_op_state : Reads (λ x. spell.u8 (number.op_state x)) IsAny op_state_at
unfolding op_state_at
reads_op_state =
    reads_sum (λ x. number.op_state x ∷ []) IsAny op_state_cases (
      case_word 0 state.Starting (λ x. number.op_state x ∷ []) IsAny refl tt,
      (
        case_word 1 state.Processing (λ x. number.op_state x ∷ []) IsAny refl tt,
        (
          case_word 2 state.Completed (λ x. number.op_state x ∷ []) IsAny refl tt,
          (
            case_word 3 state.FailedTemp (λ x. number.op_state x ∷ []) IsAny refl tt,
            (
              case_word 4 state.Failed (λ x. number.op_state x ∷ []) IsAny refl tt,
              (
                case_word 5 state.RollingBack (λ x. number.op_state x ∷ []) IsAny refl tt,
                (
                  case_word 6 state.RolledBack (λ x. number.op_state x ∷ []) IsAny refl tt,
                  tt,
                ),
              ),
            ),
          ),
        ),
      ),
    ) again where
      again : (x : OpState) (rest : List ℕ) → IsAny x → sum op_state_cases ((number.op_state x ∷ []) ++ rest) ≡ Some (x, rest)
      again state.Starting rest h = refl
      again state.Processing rest h = refl
      again state.Completed rest h = refl
      again state.FailedTemp rest h = refl
      again state.Failed rest h = refl
      again state.RollingBack rest h = refl
      again state.RolledBack rest h = refl

pub reads_way : Reads (λ x. spell.u8 (number.way x)) IsAny way_at
unfolding way_at
reads_way =
    reads_sum (λ x. number.way x ∷ []) IsAny way_cases (
      case_word 0 ways.Forward (λ x. number.way x ∷ []) IsAny refl tt,
      (
        case_word 1 ways.Undo (λ x. number.way x ∷ []) IsAny refl tt,
        tt,
      ),
    ) again where
      again : (x : Way) (rest : List ℕ) → IsAny x → sum way_cases ((number.way x ∷ []) ++ rest) ≡ Some (x, rest)
      again ways.Forward rest h = refl
      again ways.Undo rest h = refl

pub reads_verb : Reads (λ x. spell.u8 (number.verb x)) IsAny verb_at
unfolding verb_at
reads_verb =
    reads_sum (λ x. number.verb x ∷ []) IsAny verb_cases (
      case_word 0 verbs.Create (λ x. number.verb x ∷ []) IsAny refl tt,
      (
        case_word 1 verbs.Remove (λ x. number.verb x ∷ []) IsAny refl tt,
        (
          case_word 2 verbs.Start (λ x. number.verb x ∷ []) IsAny refl tt,
          (
            case_word 3 verbs.Stop (λ x. number.verb x ∷ []) IsAny refl tt,
            tt,
          ),
        ),
      ),
    ) again where
      again : (x : Verb) (rest : List ℕ) → IsAny x → sum verb_cases ((number.verb x ∷ []) ++ rest) ≡ Some (x, rest)
      again verbs.Create rest h = refl
      again verbs.Remove rest h = refl
      again verbs.Start rest h = refl
      again verbs.Stop rest h = refl

pub reads_def_kind : Reads (λ x. spell.u8 (number.def_kind x)) IsAny def_kind_at
unfolding def_kind_at
reads_def_kind =
    reads_sum (λ x. number.def_kind x ∷ []) IsAny def_kind_cases (
      case_word 0 item.Link (λ x. number.def_kind x ∷ []) IsAny refl tt,
      (
        case_word 1 item.Storage (λ x. number.def_kind x ∷ []) IsAny refl tt,
        (
          case_word 2 item.Compute (λ x. number.def_kind x ∷ []) IsAny refl tt,
          (
            case_word 3 item.Port (λ x. number.def_kind x ∷ []) IsAny refl tt,
            tt,
          ),
        ),
      ),
    ) again where
      again : (x : DefKind) (rest : List ℕ) → IsAny x → sum def_kind_cases ((number.def_kind x ∷ []) ++ rest) ≡ Some (x, rest)
      again item.Link rest h = refl
      again item.Storage rest h = refl
      again item.Compute rest h = refl
      again item.Port rest h = refl

pub reads_scale_way : Reads (λ x. spell.u8 (number.scale_way x)) IsAny scale_way_at
unfolding scale_way_at
reads_scale_way =
    reads_sum (λ x. number.scale_way x ∷ []) IsAny scale_way_cases (
      case_word 0 scale.Out (λ x. number.scale_way x ∷ []) IsAny refl tt,
      (
        case_word 1 scale.In (λ x. number.scale_way x ∷ []) IsAny refl tt,
        tt,
      ),
    ) again where
      again : (x : ScaleWay) (rest : List ℕ) → IsAny x → sum scale_way_cases ((number.scale_way x ∷ []) ++ rest) ≡ Some (x, rest)
      again scale.Out rest h = refl
      again scale.In rest h = refl

pub reads_post_outcome : Reads (λ x. spell.u8 (number.post_outcome x)) IsAny post_outcome_at
unfolding post_outcome_at
reads_post_outcome =
    reads_sum (λ x. number.post_outcome x ∷ []) IsAny post_outcome_cases (
      case_word 0 post.Delivered (λ x. number.post_outcome x ∷ []) IsAny refl tt,
      (
        case_word 1 post.NotTaken (λ x. number.post_outcome x ∷ []) IsAny refl tt,
        tt,
      ),
    ) again where
      again : (x : PostOutcome) (rest : List ℕ) → IsAny x → sum post_outcome_cases ((number.post_outcome x ∷ []) ++ rest) ≡ Some (x, rest)
      again post.Delivered rest h = refl
      again post.NotTaken rest h = refl

pub reads_notice_kind : Reads (λ x. spell.u8 (number.notice_kind x)) IsAny notice_kind_at
unfolding notice_kind_at
reads_notice_kind =
    reads_sum (λ x. number.notice_kind x ∷ []) IsAny notice_kind_cases (
      case_word 0 notice.Occurrence (λ x. number.notice_kind x ∷ []) IsAny refl tt,
      (
        case_word 1 notice.Creation (λ x. number.notice_kind x ∷ []) IsAny refl tt,
        (
          case_word 2 notice.Deletion (λ x. number.notice_kind x ∷ []) IsAny refl tt,
          tt,
        ),
      ),
    ) again where
      again : (x : NoticeKind) (rest : List ℕ) → IsAny x → sum notice_kind_cases ((number.notice_kind x ∷ []) ++ rest) ≡ Some (x, rest)
      again notice.Occurrence rest h = refl
      again notice.Creation rest h = refl
      again notice.Deletion rest h = refl

pub reads_operation_type : Reads (λ x. spell.u8 (number.operation_type x)) IsAny operation_type_at
unfolding operation_type_at
reads_operation_type =
    reads_sum (λ x. number.operation_type x ∷ []) IsAny operation_type_cases (
      case_word 1 (kind.Of op.Instantiate) (λ x. number.operation_type x ∷ []) IsAny refl tt,
      (
        case_word 2 (kind.Of op.Scale) (λ x. number.operation_type x ∷ []) IsAny refl tt,
        (
          case_word 3 (kind.Of op.ScaleToLevel) (λ x. number.operation_type x ∷ []) IsAny refl tt,
          (
            case_word 4 (kind.Of op.Heal) (λ x. number.operation_type x ∷ []) IsAny refl tt,
            (
              case_word 5 (kind.Of op.Operate) (λ x. number.operation_type x ∷ []) IsAny refl tt,
              (
                case_word 6 (kind.Of op.Terminate) (λ x. number.operation_type x ∷ []) IsAny refl tt,
                (
                  case_word 7 (kind.Of op.ChangeFlavour) (λ x. number.operation_type x ∷ []) IsAny refl tt,
                  (
                    case_word 8 kind.ChangeExtConn (λ x. number.operation_type x ∷ []) IsAny refl tt,
                    (
                      case_word 9 kind.ModifyInfo (λ x. number.operation_type x ∷ []) IsAny refl tt,
                      tt,
                    ),
                  ),
                ),
              ),
            ),
          ),
        ),
      ),
    ) again where
      again : (x : OperationType) (rest : List ℕ) → IsAny x → sum operation_type_cases ((number.operation_type x ∷ []) ++ rest)
          ≡ Some (x, rest)
      again (kind.Of op.Instantiate) rest h = refl
      again (kind.Of op.Scale) rest h = refl
      again (kind.Of op.ScaleToLevel) rest h = refl
      again (kind.Of op.Heal) rest h = refl
      again (kind.Of op.Operate) rest h = refl
      again (kind.Of op.Terminate) rest h = refl
      again (kind.Of op.ChangeFlavour) rest h = refl
      again kind.ChangeExtConn rest h = refl
      again kind.ModifyInfo rest h = refl

pub not-true_is : (b : Bool) → not b ≡ true → b ≡ false
not-true_is true h = absurd cc
not-true_is false h = refl

pub reads_moved : Reads (λ x. spell.u8 (number.op_state x)) IsMoved moved_at
unfolding moved_at
reads_moved =
    reads_fits (λ x. number.op_state x ∷ []) (λ x. IsAny x × (not (number.op_state x == 0) ≡ true)) IsMoved moved_at
    (λ x h. not-true_is (number.op_state x == 0) h.1) (λ x h. (tt, rw h refl))
    (reads_only (λ x. not (number.op_state x == 0)) (λ x. number.op_state x ∷ []) IsAny op_state_at reads_op_state)
