-- What each event makes of what stands of an instance (SOL 003 5.5.2.2, instantiatedVnfInfo).
use Rattle.std.specs.Option.{option_map_or}
use Rattle.std.specs.Prelude.{Bool, List, Option, Some, [], false, is_some, length, option_map, slice_get, true, ℕ}
use Rattle.std.specs.Prelude.{◌==◌, ◌∷◌, ◌≡◌, ◌≤◌}
use Rattle.lcm_events.specs.Same.{same_kind}
use Rattle.lcm_events.specs.declared.attempts.Outcome.TheVariants.{Done}
use Rattle.lcm_events.specs.declared.attempts.Tag.{Tag}
use Rattle.lcm_events.specs.declared.attempts.Way.{Way}
use Rattle.lcm_events.specs.declared.attempts.Way.TheVariants.{Forward, Undo}
use Rattle.lcm_events.specs.declared.changes.Change.{Change}
use Rattle.lcm_events.specs.declared.changes.Def.{Def}
use Rattle.lcm_events.specs.declared.changes.DefKind.TheVariants.{Compute}
use Rattle.lcm_events.specs.declared.changes.Verb.{Verb}
use Rattle.lcm_events.specs.declared.changes.Verb.TheVariants.{Create, Remove, Start, Stop}
use Rattle.lcm_events.specs.declared.descriptor.Vnfd.{Vnfd}
use Rattle.lcm_events.specs.declared.events.Event.{Event}
use Rattle.lcm_events.specs.declared.events.EventKind.{EventKind}
use Rattle.lcm_events.specs.declared.events.EventKind.TheVariants.{Created, Settled}
use Rattle.lcm_events.specs.declared.events.Operation.{Operation}
use Rattle.lcm_events.specs.declared.held.Held.{Held}
use Rattle.lcm_events.specs.declared.places.Place.{Place}
use Rattle.lcm_model.specs.Allowed.{IsAllowedWithin, IsLegalWithin}
use Rattle.lcm_model.specs.Attempts.{is_open}
use Rattle.lcm_model.specs.Grants.{granted_place}
use Rattle.lcm_model.specs.Holding.{place, stands}
use Rattle.lcm_model.specs.Instances.{held_at, holding}
use Rattle.lcm_model.specs.Lives.{descriptor}
use Rattle.lcm_model.specs.Moves.{is_final, state}
use Rattle.lcm_model.specs.Operations.{operation, verb_done}
use Rattle.lcm_model.specs.Words.{IsIn}
use Rattle.held_items.specs.Items.{AreInOrder, item_of, with_item, with_power, without}

-- what stands of an instance, in order of definition (SOL 003 5.5.2.2, instantiatedVnfInfo)
abbrev pub items : Vnfd → List Event → ℕ → List Held
items d H i = (holding d H i).items

-- where an attempt of an operation of instance i makes definition x: at the place that was granted to its change, and
-- where it undoes a removal at the place that x had (SOL 003 9.5.2.3)
abbrev pub place_made : List Event → Tag → Way → ℕ → Def → Option Place
place_made H t Forward i x = granted_place H t.occ t.change
place_made H t Undo i x = place H i x

-- a resource that was just made: a compute runs (SOL 003 5.5.3)
abbrev pub made : Def → List ℕ → Place → Held
made x name at = record { def = x; resource = name; place = at; running = same_kind x.kind Compute }

-- the items once this was done to a definition, and, where it was made, which resource was made of it at which place
-- (own rule)
abbrev pub once_done : Verb → Def → List ℕ → Option Place → List Held → List Held
once_done Create x name at ys = option_map_or (λ at. with_item (made x name at) ys) at ys
once_done Remove x name at ys = without x ys
once_done Start x name at ys = with_power x true ys
once_done Stop x name at ys = with_power x false ys

-- in a legal history an open attempt is of an operation, and of one of its changes (own rule)
abbrev pub OpenAttemptsHaveChanges : Type 0
OpenAttemptsHaveChanges =
    (width m : ℕ) (H : List Event) → IsLegalWithin width m H → (t : Tag) → is_open H t ≡ true
    → (a : Operation) × (k : Change) × (operation H t.occ ≡ Some a) × (slice_get a.changes t.change ≡ Some k)

-- the items of an operation's instance follow its attempt that is done (SOL 003 5.5.3)
pub record IsFollowed (H : List Event) (time : ℕ) (t : Tag) (name : List ℕ) (a : Operation) (k : Change)
    (d : Vnfd) : Type 0 where
  pub items : items d (record { moment = time; kind = Settled t (Done name) } ∷ H) a.instance
      ≡ once_done (verb_done t.way k.verb) k.def name (place_made H t t.way a.instance k.def) (items d H a.instance)
  pub placed : verb_done t.way k.verb ≡ Create → is_some (place_made H t t.way a.instance k.def) ≡ true

-- where an attempt is done, its definition is made, removed, started or stopped among the items of its instance, by a
-- change or by an undo; where it is made, there is a place for it (SOL 003 5.5.3)
abbrev pub ItemsFollowWhatIsDone : Type 0
ItemsFollowWhatIsDone =
    (width m : ℕ) (H : List Event) (time : ℕ) (t : Tag) (name : List ℕ) (a : Operation) (k : Change) (d : Vnfd)
    → IsLegalWithin width m H → IsAllowedWithin width m H (Settled t (Done name)) → operation H t.occ ≡ Some a
    → slice_get a.changes t.change ≡ Some k → descriptor H a.instance ≡ Some d → IsFollowed H time t name a k d

-- an attempt that is done leaves the items of the instances that its operation isn't of (own rule)
abbrev pub ItemsOfOthersStay : Type 0
ItemsOfOthersStay =
    (width m : ℕ) (H : List Event) (time : ℕ) (t : Tag) (name : List ℕ) (a : Operation) (i : ℕ) (d : Vnfd)
    → IsLegalWithin width m H → IsAllowedWithin width m H (Settled t (Done name)) → operation H t.occ ≡ Some a
    → (a.instance == i) ≡ false → items d (record { moment = time; kind = Settled t (Done name) } ∷ H) i ≡ items d H i

-- the event says that an attempt is done (own rule)
abbrev pub is_done : EventKind → Bool
is_done (Settled t (Done name)) = true
is_done _ = false

-- every other event leaves the items of every instance (own rule)
abbrev pub OtherEventsLeaveItems : Type 0
OtherEventsLeaveItems =
    (width m : ℕ) (H : List Event) (time : ℕ) (kind : EventKind) (i : ℕ) (d : Vnfd)
    → IsLegalWithin width m H → IsAllowedWithin width m H kind → is_done kind ≡ false
    → items d (record { moment = time; kind = kind } ∷ H) i ≡ items d H i

-- nothing stands of an instance that is just created (SOL 003 5.4.2)
abbrev pub NewInstancesHoldNothing : Type 0
NewInstancesHoldNothing =
    (width m : ℕ) (H : List Event) (time i : ℕ) (vnfd : List ℕ) (name text : Option (List ℕ)) (d : Vnfd)
    → IsLegalWithin width m H → IsAllowedWithin width m H (Created i vnfd name text)
    → items d (record { moment = time; kind = Created i vnfd name text } ∷ H) i ≡ []

-- in a legal history the items of an instance stand in order, and are at most 2,500 (own limit)
abbrev pub ItemsAreInOrder : Type 0
ItemsAreInOrder =
    (width m : ℕ) (H : List Event) → IsLegalWithin width m H → (i : ℕ) (d : Vnfd) → descriptor H i ≡ Some d
    → AreInOrder (items d H i) × (length (items d H i) ≤ 2500)

-- in a legal history an item is found by its definition exactly where it stands (own rule)
abbrev pub ItemsAreFound : Type 0
ItemsAreFound =
    (width m : ℕ) (H : List Event) → IsLegalWithin width m H → (i : ℕ) (d : Vnfd) → descriptor H i ≡ Some d
    → (x : Def) → item_of x (items d H i) ≡ held_at H i x

-- in a legal history the item of what stands says where it stands (SOL 003 5.5.3)
abbrev pub ItemsTellPlaces : Type 0
ItemsTellPlaces =
    (width m : ℕ) (H : List Event) → IsLegalWithin width m H → (i : ℕ) (d : Vnfd) → descriptor H i ≡ Some d
    → (x : Def) → stands H i x ≡ true → option_map (λ y. y.place) (item_of x (items d H i)) ≡ place H i x

-- events but attempts that are done leave the places of all definitions (own rule)
abbrev pub OtherEventsLeavePlaces : Type 0
OtherEventsLeavePlaces =
    (width m : ℕ) (H : List Event) (time : ℕ) (kind : EventKind) (i : ℕ) (x : Def)
    → IsLegalWithin width m H → IsAllowedWithin width m H kind → is_done kind ≡ false
    → place (record { moment = time; kind = kind } ∷ H) i x ≡ place H i x

-- no event changes the place of what an operation removes while the operation goes on, so that an undo finds it (own
-- rule)
abbrev pub PlacesOfRemovalsStay : Type 0
PlacesOfRemovalsStay =
    (width m : ℕ) (H : List Event) (time : ℕ) (kind : EventKind) (o : ℕ) (a : Operation) (k : Change)
    → IsLegalWithin width m H → IsAllowedWithin width m H kind → operation H o ≡ Some a → is_final (state H o) ≡ false
    → IsIn k a.changes → k.verb ≡ Remove → place (record { moment = time; kind = kind } ∷ H) a.instance k.def
    ≡ place H a.instance k.def
