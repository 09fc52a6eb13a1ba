-- How far the grant exchange of an occurrence is, and what a grant gives (SOL 003 9.4.2, Grants; 9.5.2.3, Grant).
use Rattle.std.specs.Cmp.Lexicographic.{pointwise}
use Rattle.std.specs.Fmt.{decimal}
use Rattle.std.specs.List.{enumerate_from, list_all, list_any}
use Rattle.std.specs.Prelude.{Bool, List, None, Option, Some, [], false, filter, filter_map, find, length, map, nat_le}
use Rattle.std.specs.Prelude.{nat_lt, option_and_then, option_map, unwrap_or, if◌then◌else◌, slice_get, true, ℕ, ◌&&◌}
use Rattle.std.specs.Prelude.{◌+◌, ◌==◌, ◌||◌, ◌∷◌, ◌++◌, ◌≡◌, ◌≤◌}
use Rattle.lcm_events.specs.Same.{same_verb, same_name}
use Rattle.lcm_events.specs.declared.changes.Change.{Change}
use Rattle.lcm_events.specs.declared.changes.Verb.{Verb}
use Rattle.lcm_events.specs.declared.changes.Verb.TheVariants.{Create, Remove, Start, Stop}
use Rattle.lcm_events.specs.declared.events.Event.{Event}
use Rattle.lcm_events.specs.declared.events.EventKind.{EventKind}
use Rattle.lcm_events.specs.declared.events.EventKind.TheVariants.{Denied, GrantTried, Granted}
use Rattle.lcm_events.specs.declared.events.GrantTry.{GrantTry}
use Rattle.lcm_events.specs.declared.events.GrantTry.TheVariants.{Later, NotCovering, Trouble}
use Rattle.lcm_events.specs.declared.places.Place.{Place}
use Rattle.lcm_model.specs.Words.{first, when}

-- what came of the grant exchange (own rule)
pub data GrantAnswer : Type 0 where
  Covering : GrantAnswer
  Refused : GrantAnswer
  Tried : GrantTry → GrantAnswer

-- the answer of the exchange of o that an event records (own rule)
abbrev pub answer_in : ℕ → EventKind → Option GrantAnswer
answer_in o (GrantTried occ answer) = when (occ == o) (Tried answer)
answer_in o (Granted occ grant places spots) = when (occ == o) Covering
answer_in o (Denied occ) = when (occ == o) Refused
answer_in o _ = None

-- the answers of the exchange, the latest first (SOL 003 9.4.2)
abbrev pub answers : List Event → ℕ → List GrantAnswer
answers H o = filter_map (λ e. answer_in o e.kind) H

-- the answer is a grant that covers the request (own rule)
abbrev pub is_covering : GrantAnswer → Bool
is_covering Covering = true
is_covering _ = false

-- the answer is the last one: a grant, a denial, or a grant that doesn't cover the request (own rule)
abbrev pub is_last : GrantAnswer → Bool
is_last Covering = true
is_last Refused = true
is_last (Tried NotCovering) = true
is_last (Tried (Later location)) = false
is_last (Tried Trouble) = false

-- the answer comes later, at this location (SOL 003 9.4.2)
abbrev pub later_at : GrantAnswer → Option (List ℕ)
later_at (Tried (Later location)) = Some location
later_at _ = None

-- the answer is one that can't be read (own rule)
abbrev pub is_grant_trouble : GrantAnswer → Bool
is_grant_trouble (Tried Trouble) = true
is_grant_trouble _ = false

-- the occurrence was granted (SOL 003 9.4.2)
abbrev pub is_granted : List Event → ℕ → Bool
is_granted H o = list_any is_covering (answers H o)

-- how many tries were in trouble (own rule)
abbrev pub troubled_tries : List Event → ℕ → ℕ
troubled_tries H o = length (filter is_grant_trouble (answers H o))

-- the exchange has ended: a last answer, or five tries in trouble (own rule)
abbrev pub has_ended : List Event → ℕ → Bool
has_ended H o = list_any is_last (answers H o) || nat_le 5 (troubled_tries H o)

-- the location at which the grant will be, where one was told (SOL 003 9.4.2)
abbrev pub location : List Event → ℕ → Option (List ℕ)
location H o = first (filter_map later_at (answers H o))

-- two places are the same (own rule)
abbrev pub same_place : Place → Place → Bool
same_place a b = same_name a.vim b.vim && same_name a.zone b.zone

-- the places that aren't among those seen or before them: each place once, where it comes first (own rule)
abbrev pub places_after : List Place → List Place → List Place
places_after seen [] = []
places_after seen (p ∷ places) = if list_any (same_place p) seen then places_after seen places
    else p ∷ places_after (seen ++ p ∷ []) places

-- each place once, where it comes first (own rule)
abbrev pub distinct_places : List Place → List Place
distinct_places places = places_after [] places

-- two lists of places are equal (own rule)
abbrev pub same_places : List Place → List Place → Bool
same_places a b = pointwise same_place a b

-- the places that these numbers name in a list (own rule)
abbrev pub places_at : List Place → List ℕ → List Place
places_at places spots = filter_map (slice_get places) spots

-- the places are named in the order of the first change that has them, each once, at most 32, and each change has one
-- (own rule)
pub record IsPlacing (places : List Place) (spots : List ℕ) (asked : ℕ) : Type 0 where
  pub one_a_change : length spots ≡ asked
  pub known : list_all (λ n. nat_lt n (length places)) spots ≡ true
  pub in_order : same_places (distinct_places (places_at places spots)) places ≡ true
  pub few : length places ≤ 32

-- the place of change c by these places and their numbers (SOL 003 9.5.2.3)
abbrev pub place_at : List Place → List ℕ → ℕ → Option Place
place_at places spots c = option_and_then (slice_get places) (slice_get spots c)

-- the place of change c that an event of o grants (SOL 003 9.5.2.3)
abbrev pub grant_in : ℕ → ℕ → EventKind → Option (Option Place)
grant_in o c (Granted occ grant places spots) = when (occ == o) (place_at places spots c)
grant_in o c _ = None

-- the place that the grant gave to change c of occurrence o (SOL 003 9.5.2.3)
abbrev pub granted_place : List Event → ℕ → ℕ → Option Place
granted_place H o c = unwrap_or (first (filter_map (λ e. grant_in o c e.kind) H)) None

-- what a grant gave: its identifier, its places, and the number of the place of each change (SOL 003 9.5.2.3)
pub record GivenGrant : Type 0 where
  pub name : List ℕ
  pub places : List Place
  pub spots : List ℕ

-- the grant of o that an event records (SOL 003 9.4.2)
abbrev pub granted_in : ℕ → EventKind → Option GivenGrant
granted_in o (Granted occ grant places spots) = when (occ == o)
    (record { name = grant; places = places; spots = spots })
granted_in o _ = None

-- the grant of an occurrence (SOL 003 9.4.2)
abbrev pub grant : List Event → ℕ → Option GivenGrant
grant H o = first (filter_map (λ e. granted_in o e.kind) H)

-- the identifier of change number k in a grant request and a grant (own rule)
abbrev pub change_id : ℕ → List ℕ
change_id k = 100 ∷ decimal k

-- the identifiers of the changes whose verb passes the test, in the order of the plan (SOL 003 9.5.2.2, GrantRequest)
abbrev pub ids_of : (Verb → Bool) → List Change → List (List ℕ)
ids_of p xs = map (λ x. change_id x.0) (filter (λ x. p x.1.verb) (enumerate_from 0 xs))

-- rows of a grant, each an identifier with its place, name each of these identifiers once, in any order, and no other
-- (own rule)
abbrev pub names_each_once : List (List ℕ) → List (List ℕ × Place) → Bool
names_each_once ids rows = (length rows == length ids)
    && list_all (λ id. length (filter (λ r. same_name r.0 id) rows) == 1) ids

-- the verb changes a resource that stays (SOL 003 9.5.2.2)
abbrev pub is_update : Verb → Bool
is_update Start = true
is_update Stop = true
is_update _ = false

-- rows that add, remove and update cover a plan: each names exactly what was asked, and there are few places (own rule)
abbrev pub covers : List Change → List (List ℕ × Place) → List (List ℕ × Place) → List (List ℕ × Place) → Bool
covers xs add remove update =
    names_each_once (ids_of (same_verb Create) xs) add && names_each_once (ids_of (same_verb Remove) xs) remove
    && names_each_once (ids_of is_update xs) update
    && nat_le (length (distinct_places (map (λ r. r.1) (add ++ remove ++ update)))) 32

-- the rows, of those that add, remove and update, among which a change with this verb is named (SOL 003 9.5.2.3)
abbrev pub rows_for : Verb → List (List ℕ × Place) → List (List ℕ × Place) → List (List ℕ × Place)
    → List (List ℕ × Place)
rows_for Create add remove update = add
rows_for Remove add remove update = remove
rows_for _ add remove update = update

-- the place that rows give to an identifier: that of the first row with it (own rule)
abbrev pub place_in_rows : List (List ℕ × Place) → List ℕ → Option Place
place_in_rows rows id = option_map (λ r. r.1) (find (λ r. same_name r.0 id) rows)

-- the place that rows give to a change with its number (SOL 003 9.5.2.3)
unfoldable pub place_of_row : List (List ℕ × Place) → List (List ℕ × Place) → List (List ℕ × Place) → ℕ × Change
    → Option Place
place_of_row add remove update x = place_in_rows (rows_for x.1.verb add remove update) (change_id x.0)

-- the places that rows give to the changes of a plan, in its order (SOL 003 9.5.2.3)
abbrev pub row_places : List Change → List (List ℕ × Place) → List (List ℕ × Place) → List (List ℕ × Place) → List Place
row_places xs add remove update = filter_map (place_of_row add remove update) (enumerate_from 0 xs)

-- the number of a place in a list: that of the first that is the same (own rule)
abbrev pub place_number : List Place → Place → Option ℕ
place_number [] p = None
place_number (q ∷ places) p = if same_place q p then Some 0 else option_map (λ n. n + 1) (place_number places p)

-- the places that a grant by these rows records: each once, in the order of the first change that has it (own format)
abbrev pub granted_places : List Change → List (List ℕ × Place) → List (List ℕ × Place) → List (List ℕ × Place)
    → List Place
granted_places xs add remove update = distinct_places (row_places xs add remove update)

-- the number of the place of each change that a grant by these rows records (own format)
abbrev pub granted_spots : List Change → List (List ℕ × Place) → List (List ℕ × Place) → List (List ℕ × Place) → List ℕ
granted_spots xs add remove update =
    filter_map (place_number (granted_places xs add remove update)) (row_places xs add remove update)
