-- What stands at the front of some bytes, kind by kind: the value of which they begin with the spelling, if there is
-- one (own format, docs/EVENTS.md). These definitions are a tool of the proof: the contract of `decode` speaks of
-- spellings alone. One without a sentence of its own gives the kind or part that its name says, with what is left
-- behind it.
use Rattle.std.specs.Prelude.{ℕ, ◌==◌, List, [], ◌∷◌, Option, Some, None, Bool, true, false, length, nat_lt, nat_le}
use Rattle.std.specs.Prelude.{◌&&◌, not, if◌then◌else◌}
use Rattle.std.specs.Int.{w16, w32, w64}
use Rattle.std.specs.List.{list_all}
use Rattle.lcm_events.specs.declared.asks.Aim.{Aim}
use Rattle.lcm_events.specs.declared.asks.Aim.TheVariants as aims
use Rattle.lcm_events.specs.declared.asks.Ask.{Ask}
use Rattle.lcm_events.specs.declared.asks.Ask.TheVariants as asks
use Rattle.lcm_events.specs.declared.asks.AspectLevel.{AspectLevel}
use Rattle.lcm_events.specs.declared.asks.OpKind.TheVariants as op
use Rattle.lcm_events.specs.declared.asks.ScaleWay.{ScaleWay}
use Rattle.lcm_events.specs.declared.asks.ScaleWay.TheVariants as scale
use Rattle.lcm_events.specs.declared.asks.StopType.{StopType}
use Rattle.lcm_events.specs.declared.asks.StopType.TheVariants as stop
use Rattle.lcm_events.specs.declared.asks.Vnfc.{Vnfc}
use Rattle.lcm_events.specs.declared.attempts.Outcome.{Outcome}
use Rattle.lcm_events.specs.declared.attempts.Outcome.TheVariants as outcomes
use Rattle.lcm_events.specs.declared.attempts.Tag.{Tag}
use Rattle.lcm_events.specs.declared.attempts.Way.{Way}
use Rattle.lcm_events.specs.declared.attempts.Way.TheVariants as ways
use Rattle.lcm_events.specs.declared.changes.Change.{Change}
use Rattle.lcm_events.specs.declared.changes.DefKind.{DefKind}
use Rattle.lcm_events.specs.declared.changes.DefKind.TheVariants as item
use Rattle.lcm_events.specs.declared.changes.Verb.{Verb}
use Rattle.lcm_events.specs.declared.changes.Verb.TheVariants as verbs
use Rattle.lcm_events.specs.declared.descriptor.Aspect.{Aspect}
use Rattle.lcm_events.specs.declared.descriptor.Level.{Level}
use Rattle.lcm_events.specs.declared.descriptor.Port.{Port}
use Rattle.lcm_events.specs.declared.descriptor.Row.{Row}
use Rattle.lcm_events.specs.declared.descriptor.Storage.{Storage}
use Rattle.lcm_events.specs.declared.descriptor.Vdu.{Vdu}
use Rattle.lcm_events.specs.declared.descriptor.Vnfd.{Vnfd}
use Rattle.lcm_events.specs.declared.events.Event.{Event}
use Rattle.lcm_events.specs.declared.events.EventKind.{EventKind}
use Rattle.lcm_events.specs.declared.events.EventKind.TheVariants as events
use Rattle.lcm_events.specs.declared.events.GrantTry.{GrantTry}
use Rattle.lcm_events.specs.declared.events.GrantTry.TheVariants as grants
use Rattle.lcm_events.specs.declared.events.Operation.{Operation}
use Rattle.lcm_events.specs.declared.events.PostOutcome.{PostOutcome}
use Rattle.lcm_events.specs.declared.events.PostOutcome.TheVariants as post
use Rattle.lcm_events.specs.declared.filters.Filter.{Filter}
use Rattle.lcm_events.specs.declared.filters.NoticeKind.{NoticeKind}
use Rattle.lcm_events.specs.declared.filters.NoticeKind.TheVariants as notice
use Rattle.lcm_events.specs.declared.filters.OperationType.{OperationType}
use Rattle.lcm_events.specs.declared.filters.OperationType.TheVariants as kind
use Rattle.lcm_events.specs.declared.places.Place.{Place}
use Rattle.lcm_events.specs.declared.states.CancelMode.{CancelMode}
use Rattle.lcm_events.specs.declared.states.CancelMode.TheVariants as mode
use Rattle.lcm_events.specs.declared.states.OpState.{OpState}
use Rattle.lcm_events.specs.declared.states.OpState.TheVariants as state
use Rattle.lcm_events.specs.declared.states.Role.{Role}
use Rattle.lcm_events.specs.declared.states.Role.TheVariants as who
use Rattle.vnfm_base.specs.Text.{is_short_text}
use Rattle.event_codec.specs.Combinators.{Reader, bind, pair_by, pair, shape, only, cases, sum, word, entries, piece}
use Rattle.event_codec.specs.Combinators.{big_endian, u8_at}
use Rattle.event_codec.specs.Numbers as number
use Rattle.event_codec.specs.Valid.{in_order, names_entries}
use Rattle.lcm_events.specs.Descriptors.{is_rising, is_valid_steps}

unfoldable pub u16_at : Reader ℕ
u16_at bytes = big_endian w16 bytes

unfoldable pub u32_at : Reader ℕ
u32_at bytes = big_endian w32 bytes

unfoldable pub u64_at : Reader ℕ
u64_at bytes = big_endian w64 bytes

-- the bytes of a text whose length stands before them
abbrev pub counted_at : Reader ℕ → Reader (List ℕ)
counted_at count = shape (λ p. p.1) (pair_by count piece)

unfoldable pub name_at : Reader (List ℕ)
name_at = only (is_short_text 255) (counted_at u8_at)

unfoldable pub line_at : Reader (List ℕ)
line_at = only (is_short_text 2048) (counted_at u16_at)

abbrev pub optional_cases : {A : Type 0} → Reader A → List (ℕ × Reader (Option A))
optional_cases a = (0, word None) ∷ (1, shape Some a) ∷ []

unfoldable pub optional_at : {A : Type 0} → Reader A → Reader (Option A)
optional_at a = sum (optional_cases a)

unfoldable pub many_at : {A : Type 0} → Reader A → Reader (List A)
many_at a = shape (λ p. p.1) (pair_by u16_at (λ n. entries a n))

unfoldable pub few_at : {A : Type 0} → Reader A → Reader (List A)
few_at a = shape (λ p. p.1) (pair_by (only (λ n. nat_le n 32) u8_at) (λ n. entries a n))

-- the words

abbrev pub role_cases : List (ℕ × Reader Role)
role_cases = (0, word who.Orchestrator) ∷ (1, word who.Element) ∷ []

unfoldable pub role_at : Reader Role
role_at = sum role_cases

abbrev pub cancel_mode_cases : List (ℕ × Reader CancelMode)
cancel_mode_cases = (0, word mode.Graceful) ∷ (1, word mode.Forceful) ∷ []

unfoldable pub cancel_mode_at : Reader CancelMode
cancel_mode_at = sum cancel_mode_cases

abbrev pub terminate_mode_cases : List (ℕ × Reader StopType)
terminate_mode_cases = (0, word stop.Graceful) ∷ (1, word stop.Forceful) ∷ []

unfoldable pub terminate_mode_at : Reader StopType
terminate_mode_at = sum terminate_mode_cases

abbrev pub stop_type_cases : List (ℕ × Reader (Option StopType))
stop_type_cases = (0, word None) ∷ (1, word (Some stop.Forceful)) ∷ (2, word (Some stop.Graceful)) ∷ []

unfoldable pub stop_type_at : Reader (Option StopType)
stop_type_at = sum stop_type_cases

abbrev pub started_cases : List (ℕ × Reader Bool)
started_cases = (0, word true) ∷ (1, word false) ∷ []

unfoldable pub started_at : Reader Bool
started_at = sum started_cases

abbrev pub op_state_cases : List (ℕ × Reader OpState)
op_state_cases = (0, word state.Starting) ∷ (1, word state.Processing) ∷ (2, word state.Completed)
    ∷ (3, word state.FailedTemp) ∷ (4, word state.Failed) ∷ (5, word state.RollingBack) ∷ (6, word state.RolledBack)
    ∷ []

unfoldable pub op_state_at : Reader OpState
op_state_at = sum op_state_cases

-- never to STARTING
unfoldable pub moved_at : Reader OpState
moved_at = only (λ to. not (number.op_state to == 0)) op_state_at

abbrev pub way_cases : List (ℕ × Reader Way)
way_cases = (0, word ways.Forward) ∷ (1, word ways.Undo) ∷ []

unfoldable pub way_at : Reader Way
way_at = sum way_cases

abbrev pub verb_cases : List (ℕ × Reader Verb)
verb_cases = (0, word verbs.Create) ∷ (1, word verbs.Remove) ∷ (2, word verbs.Start) ∷ (3, word verbs.Stop) ∷ []

unfoldable pub verb_at : Reader Verb
verb_at = sum verb_cases

abbrev pub def_kind_cases : List (ℕ × Reader DefKind)
def_kind_cases = (0, word item.Link) ∷ (1, word item.Storage) ∷ (2, word item.Compute) ∷ (3, word item.Port) ∷ []

unfoldable pub def_kind_at : Reader DefKind
def_kind_at = sum def_kind_cases

abbrev pub scale_way_cases : List (ℕ × Reader ScaleWay)
scale_way_cases = (0, word scale.Out) ∷ (1, word scale.In) ∷ []

unfoldable pub scale_way_at : Reader ScaleWay
scale_way_at = sum scale_way_cases

abbrev pub post_outcome_cases : List (ℕ × Reader PostOutcome)
post_outcome_cases = (0, word post.Delivered) ∷ (1, word post.NotTaken) ∷ []

unfoldable pub post_outcome_at : Reader PostOutcome
post_outcome_at = sum post_outcome_cases

abbrev pub notice_kind_cases : List (ℕ × Reader NoticeKind)
notice_kind_cases = (0, word notice.Occurrence) ∷ (1, word notice.Creation) ∷ (2, word notice.Deletion) ∷ []

unfoldable pub notice_kind_at : Reader NoticeKind
notice_kind_at = sum notice_kind_cases

abbrev pub operation_type_cases : List (ℕ × Reader OperationType)
operation_type_cases = (1, word (kind.Of op.Instantiate)) ∷ (2, word (kind.Of op.Scale))
    ∷ (3, word (kind.Of op.ScaleToLevel))
    ∷ (4, word (kind.Of op.Heal)) ∷ (5, word (kind.Of op.Operate)) ∷ (6, word (kind.Of op.Terminate))
    ∷ (7, word (kind.Of op.ChangeFlavour)) ∷ (8, word kind.ChangeExtConn) ∷ (9, word kind.ModifyInfo) ∷ []

unfoldable pub operation_type_at : Reader OperationType
operation_type_at = sum operation_type_cases

-- the parts

unfoldable pub tag_at : Reader Tag
tag_at = shape (λ p. record { occ = p.0; change = p.1.0; attempt = p.1.1.0; way = p.1.1.1 })
    (pair u64_at (pair u16_at (pair (only (λ n. nat_le 1 n) u32_at) way_at)))

unfoldable pub change_at : Reader Change
change_at = shape (λ p. record {
  phase = p.0;
  verb = p.1.0;
  def =
      record { kind = p.1.1.0; item = p.1.1.1.0; vdu = p.1.1.1.1.0; serial = p.1.1.1.1.1 };
})
    (pair (only (λ n. nat_le n 8) u8_at) (pair verb_at (pair def_kind_at (pair u16_at (pair u16_at u32_at)))))

unfoldable pub vnfc_at : Reader Vnfc
vnfc_at = shape (λ p. record { vdu = p.0; serial = p.1 }) (pair u16_at u32_at)

unfoldable pub aspect_level_at : Reader AspectLevel
aspect_level_at = shape (λ p. record { aspect = p.0; level = p.1 }) (pair name_at u32_at)

abbrev pub aim_cases : List (ℕ × Reader Aim)
aim_cases = (0, shape aims.Level name_at) ∷ (1, shape aims.Aspects (many_at aspect_level_at)) ∷ []

unfoldable pub aim_at : Reader Aim
aim_at = sum aim_cases

abbrev pub ask_cases : List (ℕ × Reader Ask)
ask_cases = (1, shape (λ p. asks.Instantiate p.0 p.1) (pair name_at (optional_at name_at)))
    ∷ (2, shape (λ p. asks.Scale p.0 p.1.0 p.1.1) (pair scale_way_at (pair name_at u32_at)))
    ∷ (3, shape asks.ScaleToLevel aim_at)
    ∷ (4, shape (λ p. asks.Heal p.0 p.1) (pair (optional_at line_at) (many_at vnfc_at)))
    ∷ (5, shape (λ p. asks.Operate p.0 p.1) (pair started_at stop_type_at))
    ∷ (6, shape (λ p. asks.Terminate p.0 p.1) (pair terminate_mode_at (optional_at u32_at))) ∷ []

unfoldable pub ask_at : Reader Ask
ask_at = sum ask_cases

unfoldable pub operation_at : Reader Operation
operation_at = shape (λ p. record { occ = p.0; instance = p.1.0; role = p.1.1.0; ask = p.1.1.1.0; changes = p.1.1.1.1 })
    (pair u64_at (pair u64_at (pair role_at (pair ask_at (many_at change_at)))))

abbrev pub grant_try_cases : List (ℕ × Reader GrantTry)
grant_try_cases = (0, shape grants.Later line_at) ∷ (1, word grants.Trouble) ∷ (2, word grants.NotCovering) ∷ []

unfoldable pub grant_try_at : Reader GrantTry
grant_try_at = sum grant_try_cases

unfoldable pub place_at : Reader Place
place_at = shape (λ p. record { vim = p.0; zone = p.1 }) (pair name_at name_at)

-- the places of a grant and the numbers that name them
unfoldable pub placed_at : Reader (List Place × List ℕ)
placed_at = only (λ p. list_all (λ s. nat_lt s (length p.0)) p.1) (pair (few_at place_at) (many_at u8_at))

abbrev pub outcome_cases : List (ℕ × Reader Outcome)
outcome_cases = (0, shape outcomes.Done name_at) ∷ (1, shape outcomes.Broken u32_at) ∷ (2, word outcomes.Aborted)
    ∷ (3, word outcomes.NotBegun) ∷ []

unfoldable pub outcome_at : Reader Outcome
outcome_at = sum outcome_cases

unfoldable pub filter_at : Reader Filter
filter_at = shape (λ p. record {
  vnfds = p.0;
  instances = p.1.0;
  names = p.1.1.0;
  notices = p.1.1.1.0;
  operations =
      p.1.1.1.1.0;
  states = p.1.1.1.1.1;
})
    (pair (many_at name_at) (pair (many_at name_at) (pair (many_at name_at)
    (pair (many_at notice_kind_at) (pair (many_at operation_type_at) (many_at op_state_at))))))

unfoldable pub vdu_at : Reader Vdu
vdu_at = only (λ v. is_rising nat_lt v.storages)
    (shape (λ p. record {
      name = p.0;
      memory = p.1.0;
      cpus = p.1.1.0;
      maximum = p.1.1.1.0;
      initial = p.1.1.1.1.0;
      storages = p.1.1.1.1.1;
    })
    (pair name_at (pair u64_at (pair u32_at (pair u32_at (pair u32_at (many_at u16_at)))))))

unfoldable pub storage_at : Reader Storage
storage_at = shape (λ p. record { name = p.0; size = p.1 }) (pair name_at u64_at)

-- 65,535 stands for no link
abbrev pub link_of : ℕ → Option ℕ
link_of n = if n == 65535 then None else Some n

unfoldable pub link_at : Reader (Option ℕ)
link_at = shape link_of u16_at

unfoldable pub port_at : Reader Port
port_at = shape (λ p. record { name = p.0; vdu = p.1.0; link = p.1.1 }) (pair name_at (pair u16_at link_at))

unfoldable pub row_at : ℕ → Reader Row
row_at steps = shape (λ p. record { vdu = p.0; deltas = p.1 }) (pair u16_at (entries u32_at steps))

-- the steps and the rows that have so many numbers
unfoldable pub rows_at : Reader (ℕ × List Row)
rows_at = pair_by u16_at (λ steps. many_at (row_at steps))

unfoldable pub aspect_at : Reader Aspect
aspect_at = only (λ a. is_valid_steps a.maximum a.steps && is_rising (λ r s. nat_lt r.vdu s.vdu) a.rows)
    (shape (λ p. record { name = p.0; maximum = p.1.0; steps = p.1.1.0; rows = p.1.1.1 })
    (pair name_at (pair u32_at rows_at)))

unfoldable pub level_at : ℕ → Reader Level
level_at aspects = shape (λ p. record { name = p.0; numbers = p.1 }) (pair name_at (entries u32_at aspects))

-- the aspects, the levels that have a number for each, and the default level
unfoldable pub scaling_at : Reader (List Aspect × (List Level × ℕ))
scaling_at = pair_by (many_at aspect_at) (λ aspects. pair (many_at (level_at (length aspects))) u16_at)

unfoldable pub vnfd_at : Reader Vnfd
vnfd_at = only (λ v. in_order v && names_entries v)
    (shape (λ p. record {
      descriptor_id = p.0;
      provider = p.1.0;
      product_name = p.1.1.0;
      software_version = p.1.1.1.0;
      descriptor_version = p.1.1.1.1.0;
      flavour_id = p.1.1.1.1.1.0;
      vdus = p.1.1.1.1.1.1.0;
      storages = p.1.1.1.1.1.1.1.0;
      links = p.1.1.1.1.1.1.1.1.0;
      ports = p.1.1.1.1.1.1.1.1.1.0;
      aspects = p.1.1.1.1.1.1.1.1.1.1.0;
      levels = p.1.1.1.1.1.1.1.1.1.1.1.0;
      default_level = p.1.1.1.1.1.1.1.1.1.1.1.1;
    })
    (pair name_at (pair name_at (pair name_at (pair name_at
    (pair name_at (pair name_at (pair (many_at vdu_at) (pair (many_at storage_at)
    (pair (many_at name_at) (pair (many_at port_at) scaling_at)))))))))))

-- the kinds

unfoldable pub onboarded_at : Reader EventKind
onboarded_at = shape events.Onboarded vnfd_at

unfoldable pub created_at : Reader EventKind
created_at = shape (λ p. events.Created p.0 p.1.0 p.1.1.0 p.1.1.1)
    (pair u64_at (pair name_at (pair (optional_at name_at) (optional_at line_at))))

unfoldable pub deleted_at : Reader EventKind
deleted_at = shape events.Deleted u64_at

unfoldable pub asked_at : Reader EventKind
asked_at = shape events.Asked operation_at

unfoldable pub grant_tried_at : Reader EventKind
grant_tried_at = shape (λ p. events.GrantTried p.0 p.1) (pair u64_at grant_try_at)

unfoldable pub granted_at : Reader EventKind
granted_at = shape (λ p. events.Granted p.0 p.1.0 p.1.1.0 p.1.1.1) (pair u64_at (pair name_at placed_at))

unfoldable pub denied_at : Reader EventKind
denied_at = shape events.Denied u64_at

unfoldable pub intent_at : Reader EventKind
intent_at = shape events.Intent tag_at

unfoldable pub call_failed_at : Reader EventKind
call_failed_at = shape events.CallFailed tag_at

unfoldable pub settled_at : Reader EventKind
settled_at = shape (λ p. events.Settled p.0 p.1) (pair tag_at outcome_at)

unfoldable pub moved_kind_at : Reader EventKind
moved_kind_at = shape (λ p. events.Moved p.0 p.1) (pair u64_at moved_at)

unfoldable pub cancel_asked_at : Reader EventKind
cancel_asked_at = shape (λ p. events.CancelAsked p.0 p.1) (pair u64_at cancel_mode_at)

unfoldable pub subscribed_at : Reader EventKind
subscribed_at = shape (λ p. events.Subscribed p.0 p.1.0 p.1.1.0 p.1.1.1)
    (pair u64_at (pair role_at (pair line_at filter_at)))

unfoldable pub unsubscribed_at : Reader EventKind
unsubscribed_at = shape events.Unsubscribed u64_at

unfoldable pub posted_at : Reader EventKind
posted_at = shape (λ p. events.Posted p.0 p.1.0 p.1.1) (pair u64_at (pair u64_at post_outcome_at))

abbrev pub kind_cases : List (ℕ × Reader EventKind)
kind_cases = (1, onboarded_at) ∷ (2, created_at) ∷ (3, deleted_at) ∷ (4, asked_at) ∷ (5, grant_tried_at)
    ∷ (6, granted_at)
    ∷ (7, denied_at) ∷ (8, intent_at) ∷ (9, call_failed_at) ∷ (10, settled_at) ∷ (11, moved_kind_at)
    ∷ (12, cancel_asked_at)
    ∷ (13, subscribed_at) ∷ (14, unsubscribed_at) ∷ (15, posted_at) ∷ []

-- the fields of the kind with this number
unfoldable pub kind_at : ℕ → Reader EventKind
kind_at n = cases kind_cases n

unfoldable pub moment_at : Reader ℕ
moment_at = only (λ m. nat_le m 253402300799999) u64_at

unfoldable pub event_at : Reader Event
event_at = shape (λ p. record { moment = p.1.0; kind = p.1.1 }) (pair_by u8_at (λ n. pair moment_at (kind_at n)))

-- the event whose spelling the bytes are
unfoldable pub whole_event : List ℕ → Option Event
whole_event bytes = bind (event_at bytes) (λ e. if length e.1 == 0 then Some e.0 else None)
