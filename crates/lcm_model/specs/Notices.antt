-- The notices of a subscription and how far they were delivered (SOL 003 5.4.18 to 5.4.20, Subscriptions, Notification
-- endpoint).
use Rattle.std.specs.List.{list_any}
use Rattle.std.specs.Option.{option_map_or}
use Rattle.std.specs.Prelude.{Bool, List, None, Option, Some, [], false, filter, filter_map, length, map, nat_le}
use Rattle.std.specs.Prelude.{nat_lt, not, option_and_then, option_map, true, unwrap_or, ℕ, ◌&&◌, ◌+◌, ◌==◌, ◌||◌, ◌∷◌}
use Rattle.lcm_events.specs.Same.{same_name, same_state}
use Rattle.lcm_events.specs.declared.asks.OpKind.{OpKind}
use Rattle.lcm_events.specs.declared.events.Event.{Event}
use Rattle.lcm_events.specs.declared.events.EventKind.{EventKind}
use Rattle.lcm_events.specs.declared.events.EventKind.TheVariants.{Asked, Created, Deleted, Moved, Posted, Subscribed}
use Rattle.lcm_events.specs.declared.events.Operation.{Operation}
use Rattle.lcm_events.specs.declared.events.PostOutcome.{PostOutcome}
use Rattle.lcm_events.specs.declared.events.PostOutcome.TheVariants.{Delivered, NotTaken}
use Rattle.lcm_events.specs.declared.filters.Filter.{Filter}
use Rattle.lcm_events.specs.declared.filters.NoticeKind.{NoticeKind}
use Rattle.lcm_events.specs.declared.filters.NoticeKind.TheVariants.{Creation, Deletion, Occurrence}
use Rattle.lcm_events.specs.declared.filters.OperationType.{OperationType}
use Rattle.lcm_events.specs.declared.filters.OperationType.TheVariants.{ChangeExtConn, ModifyInfo, Of}
use Rattle.lcm_events.specs.declared.states.OpState.{OpState}
use Rattle.lcm_events.specs.declared.states.OpState.TheVariants.{Starting}
use Rattle.lcm_model.specs.Words.{first, greatest, last, told, when}
use Rattle.lcm_model.specs.Operations.{kind_of, operation}
use Rattle.lcm_model.specs.Lives.{Subscription, creation, subscription}
use Rattle.lcm_model.specs.Holding.{place}
use Rattle.vnfm_base.specs.Ident.{ident, ident_text}
use Rattle.vnfm_base.specs.declared.identifier.Kind.TheVariants as named
use Rattle.lcm_events.specs.declared.asks.OpKind.TheVariants as kinds

-- what a filter asks of a notice (SOL 003 5.5.3, LifecycleChangeNotificationsFilter)
pub record NoticeFacts : Type 0 where
  pub which : NoticeKind
  pub vnfd : List ℕ
  pub instance : ℕ
  pub name : Option (List ℕ)
  pub op : Option OpKind
  pub state : Option OpState

-- the place of a kind of notice in its list of values (own rule)
abbrev pub notice_number : NoticeKind → ℕ
notice_number Occurrence = 0
notice_number Creation = 1
notice_number Deletion = 2

-- the place of an operation's kind in its list of values (own rule)
abbrev pub op_number : OpKind → ℕ
op_number kinds.Instantiate = 1
op_number kinds.Scale = 2
op_number kinds.ScaleToLevel = 3
op_number kinds.Heal = 4
op_number kinds.Operate = 5
op_number kinds.Terminate = 6
op_number kinds.ChangeFlavour = 7

-- the operation type that a filter names is that of the operation (SOL 003 5.5.3)
abbrev pub is_type_of : OpKind → OperationType → Bool
is_type_of op (Of kind) = op_number op == op_number kind
is_type_of op ChangeExtConn = false
is_type_of op ModifyInfo = false

-- a list of alternatives admits what passes the test for one of them; an empty list asks nothing (SOL 003 5.5.3)
abbrev pub admits : {A : Type 0} → List A → (A → Bool) → Bool
admits [] p = true
admits (x ∷ xs) p = list_any p (x ∷ xs)

-- a list of alternatives admits a value that may be absent (own rule)
abbrev pub admits_given : {A B : Type 0} → List A → (B → A → Bool) → Option B → Bool
admits_given xs same None = admits xs (λ x. false)
admits_given xs same (Some y) = admits xs (same y)

-- a list of alternatives asks nothing of a notice that has no such value (own rule)
abbrev pub admits_if_given : {A B : Type 0} → List A → (B → A → Bool) → Option B → Bool
admits_if_given xs same None = true
admits_if_given xs same (Some y) = admits xs (same y)

-- the text of an instance's identifier (RFC 9562 5.8)
abbrev pub instance_text : ℕ → ℕ → List ℕ
instance_text m i = ident_text (ident m named.Instance i)

-- the filter lets the notice through: each of its lists does (SOL 003 5.5.3)
abbrev pub matches : ℕ → Filter → NoticeFacts → Bool
matches m f n =
    admits f.vnfds (same_name n.vnfd) && admits f.instances (same_name (instance_text m n.instance))
    && admits_given f.names same_name n.name && admits f.notices (λ k. notice_number n.which == notice_number k)
    && admits_if_given f.operations is_type_of n.op && admits_if_given f.states same_state n.state

-- what a notice of an operation's state tells (SOL 003 5.5.2.17, VnfLcmOperationOccurrenceNotification)
abbrev pub occurrence_facts : List Event → OpState → Operation → Option NoticeFacts
occurrence_facts H at a = option_map (λ x. record {
  which = Occurrence;
  vnfd = x.vnfd;
  instance = a.instance;
  name =
      x.name;
  op = Some (kind_of a.ask);
  state = Some at;
}) (creation H a.instance)

-- what the notice of an event tells, where the event makes one (SOL 003 5.5.2.17 to 5.5.2.19)
abbrev pub facts_of : List Event → EventKind → Option NoticeFacts
facts_of H (Created instance vnfd name text) = Some (record {
  which = Creation;
  vnfd = vnfd;
  instance = instance;
  name =
      name;
  op = None;
  state = None;
})
facts_of H (Deleted instance) = option_map (λ x. record {
  which = Deletion;
  vnfd = x.vnfd;
  instance = instance;
  name =
      x.name;
  op = None;
  state = None;
}) (creation H instance)
facts_of H (Asked a) = occurrence_facts H Starting a
facts_of H (Moved o to) = option_and_then (occurrence_facts H to) (operation H o)
facts_of H _ = None

-- the filter lets the event's notice through (SOL 003 5.5.3)
abbrev pub is_noticed : ℕ → List Event → EventKind → Subscription → Bool
is_noticed m H kind sub = option_map_or (matches m sub.filter) (facts_of H kind) false

-- the place of an event in the journal, from 1, where it makes a notice of the subscription, which was made before it
-- (own rule)
abbrev pub notice_in : ℕ → ℕ → List Event → EventKind → Option ℕ
notice_in m s H kind = option_and_then (λ sub. when (is_noticed m H kind sub) (length H + 1)) (subscription H s)

-- the places of the subscription's notices, the latest first (SOL 003 5.4.20)
abbrev pub notices : ℕ → List Event → ℕ → List ℕ
notices m H s = told (notice_in m s) H

-- the place of the event that made the subscription (own rule)
abbrev pub subscribed_in_place : ℕ → List Event → EventKind → Option ℕ
subscribed_in_place s H (Subscribed subscription role callback filter) = when (subscription == s) (length H + 1)
subscribed_in_place s H _ = None

-- the place of Subscribed, or 0 (own rule)
abbrev pub subscribed_at : List Event → ℕ → ℕ
subscribed_at H s = unwrap_or (first (told (subscribed_in_place s) H)) 0

-- the receiver took the notice (own rule)
abbrev pub is_delivered : PostOutcome → Bool
is_delivered Delivered = true
is_delivered NotTaken = false

-- the place of a notice of the subscription that an event says was posted, and whether it was delivered (own rule)
abbrev pub posted_in : ℕ → EventKind → Option (ℕ × Bool)
posted_in s (Posted subscription place outcome) = when (subscription == s) (place, is_delivered outcome)
posted_in s _ = None

-- the posts of a subscription, the latest first (own rule)
abbrev pub posts : List Event → ℕ → List (ℕ × Bool)
posts H s = filter_map (λ e. posted_in s e.kind) H

-- how often the notice at this place was posted and not taken (own rule)
abbrev pub tries : List Event → ℕ → ℕ → ℕ
tries H s place = length (filter (λ p. (p.0 == place) && not p.1) (posts H s))

-- the notice at this place is passed: delivered, or not taken five times (own rule)
abbrev pub is_passed : List Event → ℕ → ℕ → Bool
is_passed H s place = list_any (λ p. (p.0 == place) && p.1) (posts H s) || nat_le 5 (tries H s place)

-- the cursor of a subscription: its greatest place that is passed, or that of Subscribed (own rule)
abbrev pub cursor : List Event → ℕ → ℕ
cursor H s = greatest (subscribed_at H s ∷ filter (is_passed H s) (map (λ p. p.0) (posts H s)))

-- the place of the first notice past the cursor (own rule)
abbrev pub next_notice : ℕ → List Event → ℕ → Option ℕ
next_notice m H s = last (filter (nat_lt (cursor H s)) (notices m H s))

-- no list of the filter has more values than it may (own limit)
abbrev pub is_small_filter : Filter → Bool
is_small_filter f =
    nat_le (length f.vnfds) 64 && nat_le (length f.instances) 64 && nat_le (length f.names) 64
    && nat_le (length f.notices) 64 && nat_le (length f.operations) 64 && nat_le (length f.states) 64
