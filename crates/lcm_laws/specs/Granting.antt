-- Grants: what they give, and what stands behind them (SOL 003 9.4.2, Grants; 9.5.2.3, Grant).
use Rattle.std.specs.Prelude.{List, Some, is_some, length, option_and_then, slice_get, true, ℕ, ◌++◌, ◌<◌, ◌∷◌, ◌≡◌}
use Rattle.lcm_events.specs.declared.attempts.Tag.{Tag}
use Rattle.lcm_events.specs.declared.changes.Change.{Change}
use Rattle.lcm_events.specs.declared.events.Event.{Event}
use Rattle.lcm_events.specs.declared.events.EventKind.TheVariants.{Granted, Intent}
use Rattle.lcm_events.specs.declared.places.Place.{Place}
use Rattle.lcm_model.specs.Allowed.{IsAllowedWithin, IsAsking, IsLegalWithin}
use Rattle.lcm_model.specs.Descriptors.{is_given}
use Rattle.lcm_model.specs.Grants.{IsPlacing, covers, grant, granted_place, granted_places, granted_spots, is_granted}
use Rattle.lcm_model.specs.Grants.{place_at, place_of_row}
use Rattle.lcm_model.specs.Operations.{changes}

-- an occurrence was granted exactly where it has a grant (SOL 003 9.4.2)
abbrev pub GrantedMeansAGrant : Type 0
GrantedMeansAGrant = (H : List Event) (o : ℕ) → is_granted H o ≡ is_some (grant H o)

-- the place that was granted to a change is that of the grant (SOL 003 9.5.2.3)
abbrev pub PlacesAreTheGrants : Type 0
PlacesAreTheGrants = (H : List Event) (o c : ℕ) → granted_place H o c
    ≡ option_and_then (λ g. place_at g.places g.spots c) (grant H o)

-- in a legal history each change of an occurrence that was granted has a place (SOL 003 9.5.2.3)
abbrev pub GrantedChangesHavePlaces : Type 0
GrantedChangesHavePlaces =
    (width m : ℕ) (H : List Event) → IsLegalWithin width m H → (o : ℕ) → is_granted H o ≡ true
    → (c : ℕ) → c < length (changes H o) → is_some (granted_place H o c) ≡ true

-- in a legal history each attempt begins behind a grant of its occurrence: nothing is made, removed or powered
-- ungranted (SOL 003 9.4.2)
abbrev pub AttemptsStandBehindGrants : Type 0
AttemptsStandBehindGrants =
    (width m : ℕ) (H later : List Event) (time : ℕ) (t : Tag)
    → IsLegalWithin width m (later ++ record { moment = time; kind = Intent t } ∷ H) → is_granted H t.occ ≡ true

-- rows of a grant name identifiers with their places
abbrev pub Rows : Type 0
Rows = List (List ℕ × Place)

-- what rows that cover a plan record places each of its changes (SOL 003 9.5.2.3)
abbrev pub CoveringRowsPlaceChanges : Type 0
CoveringRowsPlaceChanges =
    (xs : List Change) (add remove update : Rows) → covers xs add remove update ≡ true
    → IsPlacing (granted_places xs add remove update) (granted_spots xs add remove update) (length xs)

-- what rows that cover a plan record gives each change the place of its row (SOL 003 9.5.2.3)
abbrev pub RecordedPlacesAreThoseOfRows : Type 0
RecordedPlacesAreThoseOfRows =
    (xs : List Change) (add remove update : Rows) → covers xs add remove update ≡ true
    → (c : ℕ) (x : Change) → slice_get xs c ≡ Some x
    → place_at (granted_places xs add remove update) (granted_spots xs add remove update) c
    ≡ place_of_row add remove update (c, x)

-- a grant whose rows cover the changes of an occurrence that asks for it may be recorded (SOL 003 9.5.2.3)
abbrev pub CoveringGrantsAreAllowed : Type 0
CoveringGrantsAreAllowed =
    (width m : ℕ) (H : List Event) (o : ℕ) (name : List ℕ) (add remove update : Rows)
    → IsAsking H o → is_given name ≡ true → covers (changes H o) add remove update ≡ true
    → IsAllowedWithin width m H (Granted o name (granted_places (changes H o) add remove update)
    (granted_spots (changes H o) add remove update))
