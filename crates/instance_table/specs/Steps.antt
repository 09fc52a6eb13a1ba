-- What each event makes of the rows.
use Rattle.std.specs.Prelude.{List, None, Option, Some, false, filter, find, unwrap_or, if◌then◌else◌, length, map}
use Rattle.std.specs.Prelude.{option_and_then, option_map, slice_get, max, min, nat_le, replicate, not, suc, zero, ℕ}
use Rattle.std.specs.Prelude.{[], ◌+◌, ◌++◌, ◌<◌, ◌==◌, ◌||◌, ◌∷◌}
use Rattle.std.specs.Option.{option_map_or}
use Rattle.lcm_events.specs.Same.{same_name, same_verb}
use Rattle.lcm_events.specs.declared.attempts.Outcome.TheVariants.{Done}
use Rattle.lcm_events.specs.declared.attempts.Tag.{Tag}
use Rattle.lcm_events.specs.declared.attempts.Way.{Way}
use Rattle.lcm_events.specs.declared.attempts.Way.TheVariants.{Forward, Undo}
use Rattle.lcm_events.specs.declared.changes.Verb.TheVariants.{Remove}
use Rattle.lcm_events.specs.declared.held.Held.{Held}
use Rattle.lcm_events.specs.declared.held.Holding.{Holding}
use Rattle.lcm_events.specs.declared.places.Place.{Place}
use Rattle.lcm_model.specs.Grants.{place_at}
use Rattle.lcm_model.specs.Operations.{verb_done}
use Rattle.held_items.specs.Following.{once_done}
use Rattle.held_items.specs.Items.{AreInOrder, item_of}
use Rattle.instance_table.specs.declared.work.Work.{Work}
use Rattle.lcm_events.specs.declared.changes.Change.{Change}
use Rattle.lcm_events.specs.declared.descriptor.Vnfd.{Vnfd}
use Rattle.lcm_events.specs.declared.events.EventKind.{EventKind}
use Rattle.lcm_events.specs.declared.events.EventKind.TheVariants.{Asked, Created, Deleted, Granted, Moved, Onboarded}
use Rattle.lcm_events.specs.declared.events.EventKind.TheVariants.{Posted, Settled, Subscribed, Unsubscribed}
use Rattle.lcm_events.specs.declared.events.PostOutcome.{PostOutcome}
use Rattle.lcm_events.specs.declared.filters.Filter.{Filter}
use Rattle.lcm_events.specs.declared.states.Role.{Role}
use Rattle.lcm_model.specs.Notices.{is_delivered}
use Rattle.lcm_model.specs.Words.{IsIn, when}
use Rattle.lcm_events.specs.declared.states.OpState.{OpState}
use Rattle.lcm_events.specs.declared.states.OpState.TheVariants.{Completed, Failed}
use Rattle.lcm_model.specs.Moves.{is_final}
use Rattle.instance_table.specs.declared.going.EndEffect.{EndEffect}
use Rattle.instance_table.specs.declared.going.Going.{Going}
use Rattle.instance_table.specs.declared.going.Placing.{Placing}
use Rattle.lcm_events.specs.declared.asks.Ask.{Ask}
use Rattle.lcm_events.specs.declared.events.Operation.{Operation}
use Rattle.lcm_model.specs.Levels.{target}
use Rattle.instance_table.specs.Rows.{Rows, end_effect}
use Rattle.instance_table.specs.declared.rows.InstanceRow.{InstanceRow}
use Rattle.instance_table.specs.declared.rows.SubscriptionRow.{SubscriptionRow}

-- a list with the entry at this place changed
abbrev pub update : {A : Type 0} → (A → A) → ℕ → List A → List A
update f n [] = []
update f zero (x ∷ xs) = f x ∷ xs
update f (suc n) (x ∷ xs) = x ∷ update f n xs

-- no serial number was given, for each VDU of a descriptor that is known
abbrev pub fresh_tops : Option Vnfd → List ℕ
fresh_tops d = option_map_or (λ d. replicate (length d.vdus) 0) d []

-- level 0 of every aspect of a descriptor that is known
abbrev pub fresh_levels : Option Vnfd → List ℕ
fresh_levels d = option_map_or (λ d. replicate (length d.aspects) 0) d []

-- what stands of an instance that is created of this descriptor: nothing
abbrev pub first_holding : Option Vnfd → Holding
first_holding d = record {
  instantiated = false;
  started = false;
  levels = fresh_levels d;
  items = [];
  top =
      fresh_tops d;
}

-- the row of an instance that is created of this descriptor
abbrev pub first_instance : Option Vnfd → ℕ → List ℕ → Option (List ℕ) → Option (List ℕ) → InstanceRow
first_instance d i vnfd name text = record {
  number = i;
  vnfd = vnfd;
  name = name;
  text = text;
  holding =
      first_holding d;
}

-- the row of a subscription that is made by the event at this place
abbrev pub first_subscription : ℕ → ℕ → Role → List ℕ → Filter → SubscriptionRow
first_subscription at s role callback filter = record {
  number = s;
  role = role;
  callback = callback;
  filter = filter;
  from = at;
  cursor = at;
  tries = 0;
}

-- the row, where the event that made its subscription stands at this place
abbrev pub begun_at : ℕ → SubscriptionRow → SubscriptionRow
begun_at at r = record r { from = at; cursor = at }

-- the row after the notice at this place was posted: the cursor comes to it where it was taken, or not taken for the
-- fifth time
abbrev pub after_post : ℕ → PostOutcome → SubscriptionRow → SubscriptionRow
after_post place outcome r = if is_delivered outcome || nat_le 4 r.tries then record r { cursor = place; tries = 0 }
    else record r { tries = r.tries + 1 }

-- a row after the notice at this place was posted to the subscription of this number
abbrev pub posted : ℕ → ℕ → PostOutcome → SubscriptionRow → SubscriptionRow
posted s place outcome r = if r.number == s then after_post place outcome r else r

-- the row after the end of an operation said this, which aimed at these levels
abbrev pub after_end : EndEffect → List ℕ → InstanceRow → InstanceRow
after_end e aim r = record r {
  holding = record r.holding {
    instantiated = unwrap_or e.instantiated r.holding.instantiated;
    started = unwrap_or e.started r.holding.started;
    levels = if e.levels then aim else r.holding.levels;
  };
}

-- a row after the end of an operation of the instance of this number said this
abbrev pub ended : ℕ → EndEffect → List ℕ → InstanceRow → InstanceRow
ended i e aim r = if r.number == i then after_end e aim r else r

-- the greatest serial numbers after these changes gave theirs
abbrev pub raised : List Change → List ℕ → List ℕ
raised [] ts = ts
raised (x ∷ xs) ts = raised xs (update (max x.def.serial) x.def.vdu ts)

-- a row after an operation with these changes was asked of the instance of this number
abbrev pub asked : ℕ → List Change → InstanceRow → InstanceRow
asked i xs r = if r.number == i then record r { holding = record r.holding { top = raised xs r.holding.top } } else r

-- the levels that an ask aims at from these; none where they aren't one an aspect
abbrev pub aim_from : Vnfd → List ℕ → Ask → List ℕ
aim_from d levels ask = if length levels == length d.aspects then target d levels ask else []

-- the levels that an ask of the instance of this row aims at, where its descriptor is among these
abbrev pub aim_at : List Vnfd → Ask → InstanceRow → List ℕ
aim_at ds ask r = option_map_or (λ d. aim_from d r.holding.levels ask) (find (λ d. same_name d.descriptor_id r.vnfd) ds)
    []

-- the levels that an operation aims at when it is asked for, from those of its instance
abbrev pub first_aim : Rows → Operation → List ℕ
first_aim rs a = option_map_or (aim_at rs.descriptors a.ask) (find (λ r. r.number == a.instance) rs.instances) []

-- where what a change removes stands among these items
abbrev pub stood_in : List Held → Change → Option Place
stood_in ys k = if same_verb k.verb Remove then option_map (λ y. y.place) (item_of k.def ys) else None

-- for each change of an operation that removes something, where that stands when the operation is asked for
abbrev pub first_stood : Rows → Operation → List (Option Place)
first_stood rs a = option_map_or (λ r. map (stood_in r.holding.items) a.changes)
    (find (λ r. r.number == a.instance) rs.instances) []

-- what is kept of an operation that is asked for, aims at these levels and removes what stands at these places
abbrev pub begun : Operation → List ℕ → List (Option Place) → Going
begun a aim stood = record {
  occ = a.occ;
  instance = a.instance;
  completed = end_effect a.ask Completed;
  failed =
      end_effect a.ask Failed;
  aim = aim;
  changes = a.changes;
  placing = None;
  stood = stood;
}

-- what is kept of an operation when it is asked for
abbrev pub first_going : Rows → Operation → Going
first_going rs a = begun a (first_aim rs a) (first_stood rs a)

-- what is kept of an operation after the occurrence of this number was granted these places
abbrev pub placed : ℕ → Placing → Going → Going
placed o p g = if g.occ == o then record g { placing = Some p } else g

-- the place at which an attempt of an operation makes something: the granted one, or that of what is made again
abbrev pub place_by_way : Way → ℕ → Going → Option Place
place_by_way Forward c g = option_and_then (λ p. place_at p.places p.spots c) g.placing
place_by_way Undo c g = unwrap_or (slice_get g.stood c) None

-- the place at which this attempt of an operation makes something
abbrev pub place_by : Tag → Going → Option Place
place_by t g = place_by_way t.way t.change g

-- what an attempt at this change of an operation did, whose resource has this name
abbrev pub work_of : Tag → List ℕ → Going → Change → Work
work_of t name g k = record {
  instance = g.instance;
  verb = verb_done t.way k.verb;
  def = k.def;
  resource = name;
  place = place_by t g;
}

-- what an attempt of an operation did, where it has such a change
abbrev pub work_in : Tag → List ℕ → Going → Option Work
work_in t name g = option_map (work_of t name g) (slice_get g.changes t.change)

-- what an attempt that is done did
abbrev pub work_done : Tag → List ℕ → Rows → Option Work
work_done t name rs = option_and_then (work_in t name) (find (λ g. g.occ == t.occ) rs.going)

-- what stands of an instance is in order, and there is room for one item more
abbrev pub HasItemRoom : ℕ → InstanceRow → Type 0
HasItemRoom room r = (length r.holding.items < room) × AreInOrder r.holding.items

-- a row after this was done to what stands of an instance
abbrev pub after_work : Work → InstanceRow → InstanceRow
after_work w r = if r.number == w.instance then record r
    { holding = record r.holding { items = once_done w.verb w.def w.resource w.place r.holding.items } } else r

-- the rows after this was done
abbrev pub worked : Option Work → Rows → Rows
worked None rs = rs
worked (Some w) rs = record rs { instances = map (after_work w) rs.instances }

-- what stands of the instance of an occurrence that goes on
abbrev pub items_about : Rows → ℕ → Option (List Held)
items_about rs o = option_and_then (λ g. option_map (λ r. r.holding.items)
    (find (λ r. r.number == g.instance) rs.instances)) (find (λ g. g.occ == o) rs.going)

-- what a move to this state says of the operation's instance
abbrev pub end_of : OpState → Going → EndEffect
end_of Completed g = g.completed
end_of Failed g = g.failed
end_of _ g = record { instantiated = None; started = None; levels = false }

-- the operations without the one of this occurrence
abbrev pub without_operation : ℕ → List Going → List Going
without_operation o gs = filter (λ g. not (g.occ == o)) gs

-- the rows after this operation ended in this state
abbrev pub finished : ℕ → OpState → Option Going → Rows → Rows
finished o to None rs = record rs { going = without_operation o rs.going }
finished o to (Some g) rs = record rs {
  instances = map (ended g.instance (end_of to g) g.aim) rs.instances;
  going =
      without_operation o rs.going;
}

-- the rows after a move of an occurrence: only an end changes them
abbrev pub moved : ℕ → OpState → Rows → Rows
moved o to rs = if is_final to then finished o to (find (λ g. g.occ == o) rs.going) rs else rs

-- the place behind this many events, of those that 64 bits can name
abbrev pub next_place : ℕ → ℕ
next_place n = min (n + 1) 18446744073709551615

-- all numbers are above this one
abbrev pub Over : {A : Type 0} → (A → ℕ) → ℕ → List A → Type 0
Over f n [] = Unit {0}
Over f n (x ∷ xs) = (n < f x) × Over f n xs

-- each number is below those behind it
abbrev pub Rises : {A : Type 0} → (A → ℕ) → List A → Type 0
Rises f [] = Unit {0}
Rises f (x ∷ xs) = Over f (f x) xs × Rises f xs

-- the entry, where its key is this number
abbrev pub with_key : {A : Type 0} → (A → ℕ) → ℕ → Option A → Option A
with_key f n None = None
with_key f n (Some x) = when (f x == n) x

-- the instances without the one of this number
abbrev pub without_instance : ℕ → List InstanceRow → List InstanceRow
without_instance i rs = filter (λ r. not (r.number == i)) rs

-- the subscriptions without the one of this number
abbrev pub without_subscription : ℕ → List SubscriptionRow → List SubscriptionRow
without_subscription s rs = filter (λ r. not (r.number == s)) rs

-- instances, subscriptions and operations stand in the order of their numbers, and what stands of an instance in that
-- of definitions
pub record AreOrdered (rs : Rows) : Type 0 where
  pub instances : Rises (λ r. r.number) rs.instances
  pub items : (r : InstanceRow) → IsIn r rs.instances → AreInOrder r.holding.items
  pub subscriptions : Rises (λ r. r.number) rs.subscriptions
  pub going : Rises (λ g. g.occ) rs.going

-- the rows after an event that isn't counted yet
abbrev pub changed : EventKind → Rows → Rows
changed (Onboarded d) rs = record rs { descriptors = rs.descriptors ++ d ∷ [] }
changed (Created i vnfd name text) rs = record rs {
  instances =
      rs.instances ++ first_instance (find (λ d. same_name d.descriptor_id vnfd) rs.descriptors) i vnfd name text ∷ [];
  instances_made = i;
}
changed (Deleted i) rs = record rs { instances = without_instance i rs.instances }
changed (Subscribed s role callback filter) rs = record rs {
  subscriptions = rs.subscriptions ++ first_subscription (next_place rs.events) s role callback filter ∷ [];
  subscriptions_made = s;
}
changed (Unsubscribed s) rs = record rs { subscriptions = without_subscription s rs.subscriptions }
changed (Posted s place outcome) rs = record rs { subscriptions = map (posted s place outcome) rs.subscriptions }
changed (Asked a) rs = record rs {
  instances = map (asked a.instance a.changes) rs.instances;
  going =
      rs.going ++ first_going rs a ∷ [];
}
changed (Granted o grant places spots) rs = record rs {
  going =
      map (placed o (record { places = places; spots = spots })) rs.going;
}
changed (Settled t (Done name)) rs = worked (work_done t name rs) rs
changed (Moved o to) rs = moved o to rs
changed _ rs = rs

-- the rows after an event
abbrev pub rows_after : EventKind → Rows → Rows
rows_after k rs = record (changed k rs) { events = next_place (changed k rs).events }
