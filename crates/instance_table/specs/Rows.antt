-- What the rows of the table are: a function of the history (SOL 003 5.4.2, VNF instances; 5.4.18, Subscriptions).
use Rattle.std.specs.Prelude.{Bool, List, [], None, Option, false, if◌then◌else◌, filter, is_some, length, map, nat_lt}
use Rattle.std.specs.Prelude.{not, option_map, reverse, ℕ, ◌&&◌, ◌≡◌}
use Rattle.lcm_events.specs.declared.descriptor.Vnfd.{Vnfd}
use Rattle.lcm_events.specs.declared.events.Event.{Event}
use Rattle.lcm_model.specs.Lives.{CreatedInstance, Subscription, creation, descriptor, descriptor_named, descriptors}
use Rattle.lcm_model.specs.Lives.{instances_made, is_live, is_subscribed, is_unsubscribed, live_instances, subscription}
use Rattle.lcm_model.specs.Lives.{subscriptions, subscriptions_made}
use Rattle.lcm_events.specs.declared.asks.Ask.{Ask}
use Rattle.lcm_events.specs.declared.events.Operation.{Operation}
use Rattle.lcm_events.specs.declared.states.OpState.{OpState}
use Rattle.lcm_events.specs.declared.states.OpState.TheVariants.{Completed, Failed}
use Rattle.lcm_model.specs.Instances.{holding, instantiates, levels, sets_levels, starts_or_stops}
use Rattle.lcm_model.specs.Levels.{target}
use Rattle.lcm_model.specs.Operations.{goes_on, operations}
use Rattle.instance_table.specs.declared.going.EndEffect.{EndEffect}
use Rattle.instance_table.specs.declared.going.Going.{Going}
use Rattle.instance_table.specs.declared.going.Placing.{Placing}
use Rattle.lcm_model.specs.Grants.{grant}
use Rattle.std.specs.Option.{option_map_or}
use Rattle.lcm_model.specs.Holding.{place}
use Rattle.lcm_model.specs.Notices.{cursor, posts, subscribed_at}
use Rattle.vnfm_base.specs.declared.identifier.Kind.{Kind}
use Rattle.vnfm_base.specs.declared.identifier.Kind.TheVariants as kinds
use Rattle.instance_table.specs.declared.rows.InstanceRow.{InstanceRow}
use Rattle.lcm_events.specs.Same.{same_verb}
use Rattle.lcm_events.specs.declared.changes.Change.{Change}
use Rattle.lcm_events.specs.declared.changes.Verb.TheVariants.{Remove}
use Rattle.lcm_events.specs.declared.held.Holding.{Holding}
use Rattle.lcm_events.specs.declared.places.Place.{Place}
use Rattle.instance_table.specs.declared.rows.SubscriptionRow.{SubscriptionRow}

-- what the table keeps: descriptors, live instances, live subscriptions and operations that go on in the order in which
-- they came, how many instances and subscriptions were ever made, and how many events there are
pub record Rows : Type 0 where
  pub descriptors : List Vnfd
  pub instances : List InstanceRow
  pub subscriptions : List SubscriptionRow
  pub going : List Going
  pub instances_made : ℕ
  pub subscriptions_made : ℕ
  pub events : ℕ

-- nothing stands of an instance whose descriptor isn't there (own rule)
abbrev pub unheld : Holding
unheld = record { instantiated = false; started = false; levels = []; items = []; top = [] }

-- what stands of the instance and how it is meant to stand, by its descriptor (SOL 003 5.5.2.2, instantiatedVnfInfo)
abbrev pub holding_of : List Event → CreatedInstance → Holding
holding_of H x = option_map_or (λ d. holding d H x.instance) (descriptor_named H x.vnfd) unheld

-- the row of an instance of which this stands (SOL 003 5.5.2.2)
abbrev pub row_with : CreatedInstance → Holding → InstanceRow
row_with x h = record { number = x.instance; vnfd = x.vnfd; name = x.name; text = x.text; holding = h }

-- the row of an instance (SOL 003 5.5.2.2)
abbrev pub instance_row : List Event → CreatedInstance → InstanceRow
instance_row H x = row_with x (holding_of H x)

-- the rows of the live instances, in the order of their numbers (SOL 003 5.4.2)
abbrev pub instance_rows : List Event → List InstanceRow
instance_rows H = reverse (map (instance_row H) (live_instances H))

-- the row of the instance of this number, where it is live (SOL 003 5.4.3)
abbrev pub instance : List Event → ℕ → Option InstanceRow
instance H i = if is_live H i then option_map (instance_row H) (creation H i) else None

-- a subscription was not ended (SOL 003 5.4.19)
unfoldable pub is_continued : List Event → Subscription → Bool
is_continued H x = not (is_unsubscribed H x.number)

-- the subscriptions of both roles that were not ended, the latest first (SOL 003 5.4.18)
abbrev pub continued : List Event → List Subscription
continued H = filter (is_continued H) (subscriptions H)

-- how often the notice past the cursor was posted and not taken: the posts past the cursor that weren't taken (own
-- rule)
abbrev pub tries_past : List Event → ℕ → ℕ
tries_past H s = length (filter (λ p. nat_lt (cursor H s) p.0 && not p.1) (posts H s))

-- the row of a subscription, and how far its notices were delivered (SOL 003 5.5.2.16)
abbrev pub subscription_row : List Event → Subscription → SubscriptionRow
subscription_row H x = record {
  number = x.number;
  role = x.role;
  callback = x.callback;
  filter = x.filter;
  from =
      subscribed_at H x.number;
  cursor = cursor H x.number;
  tries = tries_past H x.number;
}

-- the rows of the live subscriptions, in the order of their numbers (SOL 003 5.4.18)
abbrev pub subscription_rows : List Event → List SubscriptionRow
subscription_rows H = reverse (map (subscription_row H) (continued H))

-- the row of the subscription of this number, where it is live (SOL 003 5.4.19)
abbrev pub subscription_at : List Event → ℕ → Option SubscriptionRow
subscription_at H s = if is_subscribed H s then option_map (subscription_row H) (subscription H s) else None

-- what a move of an operation to this state says of its instance (SOL 003 5.5.2.2)
abbrev pub end_effect : Ask → OpState → EndEffect
end_effect ask to = record {
  instantiated = instantiates ask to;
  started = starts_or_stops ask to;
  levels =
      is_some (sets_levels ask to);
}

-- the levels that an operation aims at, from those that its instance has while it goes on (SOL 003 5.4.4 to 5.4.6)
abbrev pub aim : List Event → Operation → List ℕ
aim H a = option_map_or (λ d. target d (levels d H a.instance) a.ask) (descriptor H a.instance) []

-- the places that the grant of an occurrence gave, where it was granted (SOL 003 9.5.2.3)
abbrev pub placing : List Event → ℕ → Option Placing
placing H o = option_map (λ g. record { places = g.places; spots = g.spots }) (grant H o)

-- where what a change of the instance removes stands, so that its undo is at that place (own rule)
abbrev pub stood_at : List Event → ℕ → Change → Option Place
stood_at H i k = if same_verb k.verb Remove then place H i k.def else None

-- an operation that goes on, with its changes and their places and what its end says of its instance (own rule)
abbrev pub going_of : List Event → Operation → Going
going_of H a = record {
  occ = a.occ;
  instance = a.instance;
  completed = end_effect a.ask Completed;
  failed =
      end_effect a.ask Failed;
  aim = aim H a;
  changes = a.changes;
  placing = placing H a.occ;
  stood =
      map (stood_at H a.instance) a.changes;
}

-- the operations that go on, in the order of their numbers (SOL 003 5.6.2)
abbrev pub going : List Event → List Going
going H = reverse (map (going_of H) (filter (goes_on H) (operations H)))

-- what the history says of descriptors, instances, subscriptions and operations that go on
abbrev pub rows : List Event → Rows
rows H = record {
  descriptors = reverse (descriptors H);
  instances = instance_rows H;
  subscriptions = subscription_rows H;
  going = going H;
  instances_made = instances_made H;
  subscriptions_made = subscriptions_made H;
  events = length H;
}

-- the rows are those of the history
abbrev pub StandsFor : Rows → List Event → Type 0
StandsFor rs H = rs ≡ rows H

-- how many of a kind were made, of the two kinds that the table counts (own rule)
abbrev pub made : Kind → List Event → ℕ
made kinds.Instance H = instances_made H
made kinds.Subscription H = subscriptions_made H
made _ H = 0

-- how many of a kind are live, of the two kinds that the table counts (own rule)
abbrev pub live : Kind → List Event → ℕ
live kinds.Instance H = length (live_instances H)
live kinds.Subscription H = length (continued H)
live _ H = 0
