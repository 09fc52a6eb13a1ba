-- What the table shows, what is reserved beside its rows, and what its calls do (own rule).
use Rattle.occ_table.specs.declared.rows.Grant.{Grant}
use Rattle.std.specs.Prelude.{Bool, List, Option, Some, false, true, ℕ, ◌∷◌, ◌<◌, ◌≡◌, ◌≤◌, IsTrue, ◌↔◌}
use Rattle.lcm_events.specs.declared.events.Event.{Event}
use Rattle.lcm_events.specs.declared.events.EventKind.{EventKind}
use Rattle.lcm_events.specs.declared.events.EventKind.TheVariants.{Asked, Created, GrantTried, Granted, Settled}
use Rattle.lcm_events.specs.declared.events.GrantTry.TheVariants.{Later}
use Rattle.lcm_events.specs.declared.attempts.Outcome.{Outcome}
use Rattle.lcm_events.specs.declared.attempts.Outcome.TheVariants.{Done}
use Rattle.lcm_events.specs.declared.changes.Def.{Def}
use Rattle.lcm_model.specs.Allowed.{IsAllowedWithin, IsLegalWithin}
use Rattle.lcm_model.specs.Attempts.{is_done}
use Rattle.lcm_model.specs.Operations.{occurrences_made}
use Rattle.occ_table.specs.Descriptors.{vnfds}
use Rattle.occ_table.specs.Going.{active, next_active}
use Rattle.occ_table.specs.Ongoing.{ongoing_of, ongoings}
use Rattle.occ_table.specs.Needed.{entry, needed}
use Rattle.occ_table.specs.Resources.{kept_of}
use Rattle.occ_table.specs.Rows.{StandsFor, occurrence}
use Rattle.occ_table.specs.Steps.{first_row}
use Rattle.occ_table.specs.declared.resources.Entry.{Entry}
use Rattle.occ_table.specs.declared.resources.Key.{Key}
use Rattle.occ_table.specs.declared.rows.OccRow.{OccRow}
use Rattle.occ_table.specs.declared.used.Used.{Used}

-- what is reserved: a row, a grant and a location that are to come, and room for how many more rows, for how many more
-- rows than there are a place among the active numbers, room for the ongoing operations and the descriptors of how many
-- more instances, for how many more resources, and how many bytes for the names of a resource that is made, and of one
-- that is used or of a row's descriptor
pub record Reserved : Type 0 where
  pub row : Option OccRow
  pub grant : Option Grant
  pub location : Option (List ℕ)
  pub spare : ℕ
  pub places : ℕ
  pub instances : ℕ
  pub names : ℕ
  pub resources : ℕ
  pub made_names : ℕ
  pub used_names : ℕ

-- what a contract sees of the table: its rows, the numbers of the active occurrences, the ongoing operation and the
-- descriptor of each instance, the resource of each definition that is needed, and what is reserved
pub record Occurrences : Type 0 where
  pub rows : List OccRow
  pub active : List ℕ
  pub ongoing : List (Option ℕ)
  pub vnfds : List (List ℕ)
  pub resources : List (Key × Entry)
  pub reserved : Reserved

-- the event needs a reservation
abbrev pub needs_room : EventKind → Bool
needs_room (Created instance vnfd name text) = true
needs_room (Asked a) = true
needs_room (Granted o name places spots) = true
needs_room (GrantTried o (Later at)) = true
needs_room (Settled t outcome) = is_done outcome
needs_room _ = false

-- what the end of an attempt needs is reserved: for one that was done room for a resource, and for two times three
-- names of 255 bytes, whatever its name is
abbrev pub HasNames : Outcome → Reserved → Type 0
HasNames (Done name) r = (0 < r.resources) × (765 ≤ r.made_names) × (765 ≤ r.used_names)
HasNames _ r = Unit {0}

-- what an event of this moment needs is reserved
abbrev pub HasRoomFor : ℕ → EventKind → Reserved → Type 0
HasRoomFor time (Created instance vnfd name text) r = (0 < r.instances) × (0 < r.names)
HasRoomFor time (Asked a) r = (r.row ≡ Some (first_row time a)) × (0 < r.spare) × (0 < r.places) × (765 ≤ r.used_names)
HasRoomFor time (Granted o name places spots) r = r.grant
    ≡ Some (record { name = name; places = places; spots = spots })
HasRoomFor time (GrantTried o (Later at)) r = r.location ≡ Some at
HasRoomFor time (Settled t outcome) r = HasNames outcome r
HasRoomFor time _ r = Unit {0}

-- what the event needs is reserved
abbrev pub HasRoom : Event → Reserved → Type 0
HasRoom e r = HasRoomFor e.moment e.kind r

-- what was reserved is reserved: all as it was, and room for as many resources, or for more where some were forgotten
pub record IsKept (old new : Reserved) : Type 0 where
  pub others : new ≡ record old { resources = new.resources }
  pub resources : old.resources ≤ new.resources

-- the table is that of the history: its rows, the numbers of its active occurrences, the ongoing operation and the
-- descriptor of each instance, and of each definition that is needed the resource with its place, and whether it
-- stands; of any other nothing
pub record IsTableOf (t : Occurrences) (H : List Event) : Type 0 where
  pub rows : StandsFor t.rows H
  pub active : t.active ≡ active H
  pub ongoing : t.ongoing ≡ ongoings H
  pub vnfds : t.vnfds ≡ vnfds H
  pub resources : (i : ℕ) (x : Def) → kept_of t.resources i x ≡ entry H i x

-- a table of a legal history is that of it with the event that was allowed after it, where at most four attempts of an
-- occurrence may be open
abbrev pub Applies : Event → Occurrences → Occurrences → Type 0
Applies e old new =
    (width m : ℕ) (H : List Event) → width ≤ 4 → IsLegalWithin width m H → IsAllowedWithin width m H e.kind
    → IsTableOf old H → IsTableOf new (e ∷ H)

-- what is found is the number of the instance's ongoing operation in each legal history whose ongoing operations these
-- are
abbrev pub GoesOn : ℕ → Option ℕ → List (Option ℕ) → Type 0
GoesOn i x xs = (width m : ℕ) (H : List Event) → IsLegalWithin width m H → xs ≡ ongoings H → x ≡ ongoing_of H i

-- what is found is the least number above this one of an active occurrence, in each legal history whose active numbers
-- these are
abbrev pub Follows : ℕ → Option ℕ → List ℕ → Type 0
Follows after x ns = (width m : ℕ) (H : List Event) → IsLegalWithin width m H → ns ≡ active H → x ≡ next_active H after

-- what is found is the row of the occurrence of this number in each legal history that the rows stand for
abbrev pub Looks : ℕ → Option OccRow → List OccRow → Type 0
Looks n x rs = (width m : ℕ) (H : List Event) → IsLegalWithin width m H → StandsFor rs H → x ≡ occurrence H n

-- what is found is the resource of this definition of the instance, with its place, where that is needed, in each
-- history whose table this is
abbrev pub Knows : ℕ → Def → Option Used → Occurrences → Type 0
Knows i x found t = (H : List Event) → IsTableOf t H → found ≡ needed H i x

-- this is how many operations each history asks for that the rows stand for
abbrev pub Counts : ℕ → List OccRow → Type 0
Counts n rs = (H : List Event) → StandsFor rs H → n ≡ occurrences_made H

-- the answer is whether the event is allowed after each legal history that the rows stand for, where at most so many
-- attempts of an occurrence may be open
abbrev pub JudgesWithin : ℕ → EventKind → Bool → List OccRow → Type 0
JudgesWithin width k answer rs = (m : ℕ) (H : List Event) → IsLegalWithin width m H → StandsFor rs H
    → IsTrue answer ↔ IsAllowedWithin width m H k

-- the answer is whether the event is allowed after each legal history that the rows stand for, however many attempts
-- may be open
abbrev pub Judges : EventKind → Bool → List OccRow → Type 0
Judges k answer rs = (width : ℕ) → JudgesWithin width k answer rs
