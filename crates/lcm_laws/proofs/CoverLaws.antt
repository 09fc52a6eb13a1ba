-- Rows that cover a plan give a grant that may be recorded.
use Rattle.std.proofs.Common.{◌≡◌, ◌≤◌, ◌+◌, ◌++◌, ◌&&◌, ◌||◌, ◌==◌, ◌∙◌, ℕ, List, [], ◌∷◌, Bool, true, false, cond, Option, None, Some}
use Rattle.std.proofs.Common.{is_some, refl, ap, sym, subst, length, map, filter, filter_map, find, arith, suc, zero, inl, inr, ◌⊎◌, ltb}
use Rattle.std.proofs.Common.{lt-ltb, eqb-true, slice_get}
use Rattle.std.proofs.lemmas.Bool.{leb-true}
use Rattle.std.specs.List.{enumerate_from, list_all, list_any}
use Rattle.std.specs.Prelude.{option_map}
use Rattle.lcm_events.specs.Same.{same_name, same_verb}
use Rattle.lcm_events.proofs.SameLaws.{eq-refl}
use Rattle.lcm_events.specs.declared.changes.Change.{Change}
use Rattle.lcm_events.specs.declared.changes.Verb.{Verb}
use Rattle.lcm_events.specs.declared.changes.Verb.TheVariants.{Create, Remove, Start, Stop}
use Rattle.lcm_events.specs.declared.events.Event.{Event}
use Rattle.lcm_events.specs.declared.events.EventKind.TheVariants.{Granted}
use Rattle.lcm_events.specs.declared.places.Place.{Place}
use Rattle.lcm_model.specs.Words.{IsIn}
use Rattle.lcm_model.specs.Grants.{IsPlacing, change_id, covers, distinct_places, granted_places, granted_spots, ids_of, is_update}
use Rattle.lcm_model.specs.Grants.{names_each_once, place_at, place_in_rows, place_number, place_of_row, places_after, places_at}
use Rattle.lcm_model.specs.Grants.{row_places, rows_for, same_place, same_places}
use Rattle.lcm_model.specs.Operations.{changes}
use Rattle.lcm_model.specs.Descriptors.{is_given}
use Rattle.lcm_model.specs.Allowed.{IsAllowedWithin, IsAsking}
use Rattle.lcm_laws.specs.Granting.{Rows}
use Rattle.lcm_laws.proofs.Lists.{and_left, and_right, and_true, by_test}
use Rattle.lcm_laws.proofs.Members.{Rises, get_in, get_within, in_back, in_filter, in_front, in_map, of_map}
use Rattle.lcm_laws.proofs.BoundLaws.{Differ, few}
use Rattle.lcm_laws.proofs.HoldingLaws.{all_of, of_filter_map}
use Rattle.lcm_laws.proofs.PlanHistory.{found_in}
use Rattle.lcm_laws.proofs.StandLaws.{same_name-true}

-- places that compare equal are equal
unfoldable place_of : List ℕ → List ℕ → Place
place_of vim zone = record { vim = vim; zone = zone }

place_join : (v w z y : List ℕ) → v ≡ w → z ≡ y → place_of v z ≡ place_of w y
place_join v w z y e f = cc

place_ext : {p q : Place} → p.vim ≡ q.vim → p.zone ≡ q.zone → p ≡ q
unfolding place_of
place_ext {p} {q} e f = place_join p.vim q.vim p.zone q.zone e f

same_place-true : (p q : Place) → same_place p q ≡ true → p ≡ q
same_place-true p q h =
    place_ext (same_name-true p.vim q.vim (and_left (same_name p.vim q.vim) (same_name p.zone q.zone) h))
    (same_name-true p.zone q.zone (and_right (same_name p.vim q.vim) (same_name p.zone q.zone) h))

pub same_name-refl : (ns : List ℕ) → same_name ns ns ≡ true
same_name-refl [] = refl
same_name-refl (n ∷ ns) = and_true _ _ (eq-refl n) (same_name-refl ns)

same_place-refl : (p : Place) → same_place p p ≡ true
same_place-refl p = and_true _ _ (same_name-refl p.vim) (same_name-refl p.zone)

same_places-refl : (ps : List Place) → same_places ps ps ≡ true
same_places-refl [] = refl
same_places-refl (p ∷ ps) = and_true _ _ (same_place-refl p) (same_places-refl ps)

-- a question that each entry answers
abbrev Answered : {A B : Type 0} → (A → Option B) → List A → Type 0
Answered {A} f xs = (x : A) → IsIn x xs → is_some (f x) ≡ true

no_answer : {A B P : Type 0} → (f : A → Option B) (x : A) → is_some (f x) ≡ true → f x ≡ None → P
no_answer {A} {B} f x some none = let clash : is_some {T = B} None ≡ true = subst (λ (o : Option B). is_some o ≡ true) none some in cc

answered_length : {A B : Type 0} → (f : A → Option B) (xs : List A) → Answered f xs → length (filter_map f xs) ≡ length xs
answered_length f [] h = refl
answered_length {A} {B} f (x ∷ xs) h = by_answer (f x) refl (h x (inl refl)) (answered_length f xs (λ z g. h z (inr g))) where
  by_answer : (o : Option B) → f x ≡ o → is_some (f x) ≡ true → length (filter_map f xs) ≡ length xs
      → length (filter_map f (x ∷ xs)) ≡ length (x ∷ xs)
  by_answer None is some rest = no_answer f x some is
  by_answer (Some y) is some rest = rw is (ap suc rest)

answered_get : {A B : Type 0} → (f : A → Option B) (xs : List A) (n : ℕ) (x : A) → Answered f xs → slice_get xs n ≡ Some x
    → slice_get (filter_map f xs) n ≡ f x
answered_get f [] n x h e = cc
answered_get {A} {B} f (y ∷ xs) zero x h e = by_answer (f y) refl (h y (inl refl)) where
  by_answer : (o : Option B) → f y ≡ o → is_some (f y) ≡ true → slice_get (filter_map f (y ∷ xs)) 0 ≡ f x
  by_answer None is some = no_answer f y some is
  by_answer (Some z) is some = let one : y ≡ x = cc in let at : f y ≡ f x = ap f one in rw is (sym is ∙ at)
answered_get {A} {B} f (y ∷ xs) (suc n) x h e = by_answer (f y) refl (h y (inl refl)) (answered_get f xs n x (λ w g. h w (inr g)) e) where
  by_answer : (o : Option B) → f y ≡ o → is_some (f y) ≡ true → slice_get (filter_map f xs) n ≡ f x
      → slice_get (filter_map f (y ∷ xs)) (suc n) ≡ f x
  by_answer None is some rest = no_answer f y some is
  by_answer (Some z) is some rest = rw is rest

-- an entry of a list all of which passes a test
pub all_in : {A : Type 0} → (p : A → Bool) (x : A) (xs : List A) → list_all p xs ≡ true → IsIn x xs → p x ≡ true
all_in p x [] all h = absurd h
all_in {A} p x (y ∷ xs) all (inl e) = subst (λ (z : A). p z ≡ true) e (and_left (p y) (list_all p xs) all)
all_in p x (y ∷ xs) all (inr h) = all_in p x xs (and_right (p y) (list_all p xs) all) h

found_one : {A : Type 0} → (p : A → Bool) (xs : List A) → length (filter p xs) ≡ 1 → is_some (find p xs) ≡ true
found_one p [] e = cc
found_one p (x ∷ xs) e = by_test (p x) (λ passes. rw passes refl) (λ fails. rw fails (found_one p xs (rw fails at e)))

some_of_map : {A B : Type 0} → (f : A → B) (o : Option A) → is_some o ≡ true → is_some (option_map f o) ≡ true
some_of_map f None e = e
some_of_map f (Some x) e = refl

-- rows that name the identifiers of some verbs have a place for each change with one of them
placed_row : (p : Verb → Bool) (xs : List Change) (rows : Rows) (x : ℕ × Change) → names_each_once (ids_of p xs) rows ≡ true
    → IsIn x (enumerate_from 0 xs)
    → p x.1.verb ≡ true → is_some (place_in_rows rows (change_id x.0)) ≡ true
placed_row p xs rows x named among passes =
    let id : IsIn (change_id x.0) (ids_of p xs) =
    in_map (λ (y : ℕ × Change). change_id y.0) x (filter (λ y. p y.1.verb) (enumerate_from 0 xs))
    (in_filter (λ (y : ℕ × Change). p y.1.verb) x (enumerate_from 0 xs) among passes) in
    let once : (length (filter (λ r. same_name r.0 (change_id x.0)) rows) == 1) ≡ true =
    all_in (λ id. length (filter (λ r. same_name r.0 id) rows) == 1) (change_id x.0) (ids_of p xs)
    (and_right (length rows == length (ids_of p xs)) _ named) id in
    some_of_map (λ r. r.1) (find (λ r. same_name r.0 (change_id x.0)) rows)
    (found_one (λ r. same_name r.0 (change_id x.0)) rows (eqb-true (length (filter (λ r. same_name r.0 (change_id x.0)) rows)) 1 once))

-- what rows that cover a plan are
record Covered (xs : List Change) (add remove update : Rows) : Type 0 where
  adds : names_each_once (ids_of (same_verb Create) xs) add ≡ true
  removes : names_each_once (ids_of (same_verb Remove) xs) remove ≡ true
  updates : names_each_once (ids_of is_update xs) update ≡ true
  few_places : length (distinct_places (map (λ r. r.1) (add ++ remove ++ update))) ≤ 32

covered : (xs : List Change) (add remove update : Rows) → covers xs add remove update ≡ true → Covered xs add remove update
covered xs add remove update h = record {
  adds = and_left _ _ (and_left _ _ (and_left _ _ h));
  removes = and_right (names_each_once (ids_of (same_verb Create) xs) add) _ (and_left _ _ (and_left _ _ h));
  updates = and_right (names_each_once (ids_of (same_verb Create) xs) add && names_each_once (ids_of (same_verb Remove) xs) remove) _
      (and_left _ _ h);
  few_places = leb-true (length (distinct_places (map (λ r. r.1) (add ++ remove ++ update)))) 32
      (and_right (names_each_once (ids_of (same_verb Create) xs) add && names_each_once (ids_of (same_verb Remove) xs) remove
      && names_each_once (ids_of is_update xs) update) _ h);
}

row_by : (xs : List Change) (add remove update : Rows) (x : ℕ × Change) (v : Verb) → Covered xs add remove update
    → IsIn x (enumerate_from 0 xs) → x.1.verb ≡ v
    → is_some (place_in_rows (rows_for v add remove update) (change_id x.0)) ≡ true
row_by xs add remove update x Create h among is = placed_row (same_verb Create) xs add x h.adds among (rw is refl)
row_by xs add remove update x Remove h among is = placed_row (same_verb Remove) xs remove x h.removes among (rw is refl)
row_by xs add remove update x Start h among is = placed_row is_update xs update x h.updates among (rw is refl)
row_by xs add remove update x Stop h among is = placed_row is_update xs update x h.updates among (rw is refl)

-- each change has a place by its row
rows_answer : (xs : List Change) (add remove update : Rows) → Covered xs add remove update
    → Answered (place_of_row add remove update) (enumerate_from 0 xs)
unfolding place_of_row
rows_answer xs add remove update h x among = row_by xs add remove update x x.1.verb h among refl

enumerated_length : {A : Type 0} → (k : ℕ) (xs : List A) → length (enumerate_from k xs) ≡ length xs
enumerated_length k [] = refl
enumerated_length k (x ∷ xs) = ap suc (enumerated_length (k + 1) xs)

enumerated_get : {A : Type 0} → (k : ℕ) (xs : List A) (n : ℕ) (x : A) → slice_get xs n ≡ Some x
    → slice_get (enumerate_from k xs) n ≡ Some (k + n, x)
enumerated_get k [] n x e = cc
enumerated_get k (y ∷ xs) zero x e = let is : y ≡ x = cc in let same : k ≡ k + 0 = omega arith in cc
enumerated_get {A} k (y ∷ xs) (suc n) x e =
    let same : (k + 1) + n ≡ k + suc n = omega arith in
    enumerated_get (k + 1) xs n x e ∙ ap (λ (j : ℕ). Some (j, x)) same

beside : (a b : Bool) → (a || b) ≡ true → (a ≡ true) ⊎ (b ≡ true)
beside true b e = inl refl
beside false b e = inr e

or_first : (a b : Bool) → a ≡ true → (a || b) ≡ true
or_first true b e = refl
or_first false b e = cc

or_second : (a b : Bool) → b ≡ true → (a || b) ≡ true
or_second true b e = refl
or_second false b e = e

any_parts : {A : Type 0} → (p : A → Bool) (xs ys : List A) → list_any p (xs ++ ys) ≡ true → (list_any p xs ≡ true) ⊎ (list_any p ys ≡ true)
any_parts p [] ys e = inr e
any_parts p (x ∷ xs) ys e = elim (beside (p x) (list_any p (xs ++ ys)) e) [
  | inl a ↦ inl (or_first (p x) (list_any p xs) a)
  | inr b ↦
      (elim (any_parts p xs ys b) [
        | inl c ↦ inl (or_second (p x) (list_any p xs) c)
        | inr c ↦ inr c
      ])
]

any_front : {A : Type 0} → (p : A → Bool) (xs ys : List A) → list_any p xs ≡ true → list_any p (xs ++ ys) ≡ true
any_front p [] ys e = cc
any_front p (x ∷ xs) ys e = elim (beside (p x) (list_any p xs) e) [
  | inl a ↦ or_first (p x) (list_any p (xs ++ ys)) a
  | inr b ↦ or_second (p x) (list_any p (xs ++ ys)) (any_front p xs ys b)
]

any_back : {A : Type 0} → (p : A → Bool) (xs ys : List A) → list_any p ys ≡ true → list_any p (xs ++ ys) ≡ true
any_back p [] ys e = e
any_back p (x ∷ xs) ys e = or_second (p x) (list_any p (xs ++ ys)) (any_back p xs ys e)

-- a place is the same as one seen before, or as one that is kept
abbrev KeptOrSeen : List Place → List Place → Place → Type 0
KeptOrSeen seen ps p = (list_any (same_place p) seen ≡ true) ⊎ (list_any (same_place p) (places_after seen ps) ≡ true)

in_seen : (seen ps : List Place) (q p : Place) → list_any (same_place q) seen ≡ true → (IsIn p ps → KeptOrSeen seen ps p) → IsIn p (q ∷ ps)
    → KeptOrSeen seen (q ∷ ps) p
in_seen seen ps q p known rest (inl e) = inl (subst (λ (r : Place). list_any (same_place r) seen ≡ true) e known)
in_seen seen ps q p known rest (inr g) = rw known (rest g)

one_same : (p q : Place) → list_any (same_place p) (q ∷ []) ≡ true → same_place p q ≡ true
one_same p q e = elim (beside (same_place p q) false e) [ inl a ↦ a | inr b ↦ cc ]

same_last : (p q : Place) (rs : List Place) → same_place p q ≡ true → list_any (same_place p) (q ∷ rs) ≡ true
same_last p q rs e = or_first (same_place p q) (list_any (same_place p) rs) e

not_seen : (seen ps : List Place) (q p : Place) → list_any (same_place q) seen ≡ false → (IsIn p ps → KeptOrSeen (seen ++ q ∷ []) ps p)
    → IsIn p (q ∷ ps)
    → KeptOrSeen seen (q ∷ ps) p
not_seen seen ps q p new rest (inl e) =
    let own : same_place p q ≡ true = subst (λ (r : Place). same_place p r ≡ true) (sym e) (same_place-refl p) in
    inr (rw new (same_last p q (places_after (seen ++ q ∷ []) ps) own))
not_seen seen ps q p new rest (inr g) = elim (rest g) [
  | inl known ↦
      (elim (any_parts (same_place p) seen (q ∷ []) known) [
        | inl a ↦ inl a
        | inr b ↦ inr (rw new (same_last p q (places_after (seen ++ q ∷ []) ps) (one_same p q b)))
      ])
  | inr kept ↦ inr (rw new (or_second (same_place p q) (list_any (same_place p) (places_after (seen ++ q ∷ []) ps)) kept))
]

kept_or_seen : (seen ps : List Place) (p : Place) → IsIn p ps → KeptOrSeen seen ps p
kept_or_seen seen [] p h = absurd h
kept_or_seen seen (q ∷ ps) p h = by_test (list_any (same_place q) seen)
    (λ known. in_seen seen ps q p known (λ g. kept_or_seen seen ps p g) h)
    (λ new. not_seen seen ps q p new (λ g. kept_or_seen (seen ++ q ∷ []) ps p g) h)

-- each place of a list is the same as one that is kept
kept : (ps : List Place) (p : Place) → IsIn p ps → list_any (same_place p) (distinct_places ps) ≡ true
kept ps p h = elim (kept_or_seen [] ps p h) [ inl none ↦ cc | inr found ↦ found ]

-- what is kept was there
of_places : (seen ps : List Place) (p : Place) → IsIn p (places_after seen ps) → IsIn p ps
of_places seen [] p h = absurd h
of_places seen (q ∷ ps) p h = by_test (list_any (same_place q) seen)
    (λ known. inr (of_places seen ps p (subst (λ (b : Bool). IsIn p (cond b (places_after seen ps) (q ∷ places_after (seen ++ q ∷ []) ps)))
    known h)))
    (λ new. in_head (λ g. of_places (seen ++ q ∷ []) ps p g) (subst
    (λ (b : Bool). IsIn p (cond b (places_after seen ps) (q ∷ places_after (seen ++ q ∷ []) ps))) new h)) where
      in_head : (IsIn p (places_after (seen ++ q ∷ []) ps) → IsIn p ps) → IsIn p (q ∷ places_after (seen ++ q ∷ []) ps) → IsIn p (q ∷ ps)
      in_head rest (inl e) = inl e
      in_head rest (inr g) = inr (rest g)

-- what is kept wasn't seen before
unseen : (seen ps : List Place) (p : Place) → IsIn p (places_after seen ps) → list_any (same_place p) seen ≡ true → ⊥
unseen seen [] p h s = absurd h
unseen seen (q ∷ ps) p h s = by_test (list_any (same_place q) seen)
    (λ known. unseen seen ps p (subst (λ (b : Bool). IsIn p (cond b (places_after seen ps) (q ∷ places_after (seen ++ q ∷ []) ps))) known h)
    s)
    (λ new. in_head new (λ g. unseen (seen ++ q ∷ []) ps p g (any_front (same_place p) seen (q ∷ []) s))
    (subst (λ (b : Bool). IsIn p (cond b (places_after seen ps) (q ∷ places_after (seen ++ q ∷ []) ps))) new h)) where
      in_head : list_any (same_place q) seen ≡ false → (IsIn p (places_after (seen ++ q ∷ []) ps) → ⊥)
          → IsIn p (q ∷ places_after (seen ++ q ∷ []) ps) → ⊥
      in_head new rest (inl e) =
          let clash : list_any (same_place p) seen ≡ false = subst (λ (r : Place). list_any (same_place r) seen ≡ false) e new in
          let no_way : true ≡ false = sym s ∙ clash in cc
      in_head new rest (inr g) = rest g

places_differ : (seen ps : List Place) → Rises Differ (places_after seen ps)
places_differ seen [] = tt
places_differ seen (q ∷ ps) = by_test (list_any (same_place q) seen)
    (λ known. rw known (places_differ seen ps))
    (λ new. rw new (
      λ p within e.
          unseen (seen ++ q ∷ []) ps p within
          (any_back (same_place p) seen (q ∷ [])
          (same_last p q [] (subst (λ (r : Place). same_place p r ≡ true) (sym e) (same_place-refl p)))),
      places_differ (seen ++ q ∷ []) ps,
    ))

any_same : (p : Place) (qs : List Place) → list_any (same_place p) qs ≡ true → IsIn p qs
any_same p [] e = cc
any_same p (q ∷ qs) e = elim (beside (same_place p q) (list_any (same_place p) qs) e) [
  | inl a ↦ inl (sym (same_place-true p q a))
  | inr b ↦ inr (any_same p qs b)
]

-- the number of a place that is kept names it
numbered : (p : Place) (qs : List Place) → list_any (same_place p) qs ≡ true
    → (n : ℕ) × (place_number qs p ≡ Some n) × (slice_get qs n ≡ Some p)
numbered p [] e = cc
numbered p (q ∷ qs) e = by_test (same_place p q)
    (λ same.
    let is : p ≡ q = same_place-true p q same in
    let back : same_place q p ≡ true = subst (λ (r : Place). same_place r p ≡ true) is (same_place-refl p) in
    (0, rw back refl, ap Some (sym is)))
    (λ other.
    let rest : list_any (same_place p) qs ≡ true = subst (λ (b : Bool). (b || list_any (same_place p) qs) ≡ true) other e in
    let back : same_place q p ≡ false = by_test (same_place q p)
    (λ same.
    let is : q ≡ p = same_place-true q p same in
    let own : same_place p q ≡ true = subst (λ (r : Place). same_place p r ≡ true) (sym is) (same_place-refl p) in cc)
    (λ fails. fails) in
    let found = numbered p qs rest in
    let number = found.1 in
    let more : found.0 + 1 ≡ suc found.0 = omega arith in
    (found.0 + 1, rw (back, number) refl, rw more found.2))

-- places by their numbers are as they were
number_back : (qs ps : List Place) → ((p : Place) → IsIn p ps → list_any (same_place p) qs ≡ true)
    → places_at qs (filter_map (place_number qs) ps) ≡ ps
number_back qs [] h = refl
number_back qs (p ∷ ps) h =
    let found = numbered p qs (h p (inl refl)) in
    let number = found.1 in
    let at = found.2 in
    rw (number, at) (ap (λ (rs : List Place). p ∷ rs) (number_back qs ps (λ r g. h r (inr g))))

numbers_answer : (qs ps : List Place) → ((p : Place) → IsIn p ps → list_any (same_place p) qs ≡ true) → Answered (place_number qs) ps
numbers_answer qs ps h p among = let found = numbered p qs (h p among) in let number = found.1 in rw number refl

numbers_known : (qs ps : List Place) → ((p : Place) → IsIn p ps → list_any (same_place p) qs ≡ true)
    → list_all (λ n. ltb n (length qs)) (filter_map (place_number qs) ps) ≡ true
numbers_known qs ps h = all_of (λ n. ltb n (length qs)) (filter_map (place_number qs) ps) (λ n among.
    let from = of_filter_map (place_number qs) n ps among in
    let found = numbered from.0 qs (h from.0 from.1) in
    let one : found.0 ≡ n = (let both : Some found.0 ≡ Some n = sym found.1 ∙ from.2 in cc) in
    subst (λ (k : ℕ). ltb k (length qs) ≡ true) one (lt-ltb found.0 (length qs) (get_within from.0 qs found.0 found.2)))

-- a place that a row gives is one of the rows' places
row_place : (rows : Rows) (id : List ℕ) (p : Place) → place_in_rows rows id ≡ Some p → IsIn p (map (λ r. r.1) rows)
row_place rows id p e = by_row (find (λ r. same_name r.0 id) rows) refl e where
  by_row : (o : Option (List ℕ × Place)) → find (λ r. same_name r.0 id) rows ≡ o → option_map (λ r. r.1) o ≡ Some p
      → IsIn p (map (λ r. r.1) rows)
  by_row None is h = cc
  by_row (Some r) is h =
      let one : r.1 ≡ p = cc in
      subst (λ (q : Place). IsIn q (map (λ r. r.1) rows)) one (in_map (λ (s : List ℕ × Place). s.1) r rows
      (found_in (λ r. same_name r.0 id) rows r is))

of_rows : (add remove update : Rows) (v : Verb) (p : Place) → IsIn p (map (λ r. r.1) (rows_for v add remove update))
    → IsIn p (map (λ r. r.1) (add ++ remove ++ update))
of_rows add remove update v p h =
    let from = of_map (λ (r : List ℕ × Place). r.1) p (rows_for v add remove update) h in
    subst (λ (q : Place). IsIn q (map (λ r. r.1) (add ++ remove ++ update))) from.2
    (in_map (λ (r : List ℕ × Place). r.1) from.0 (add ++ remove ++ update) (among v from.0 from.1)) where
      among : (v : Verb) (r : List ℕ × Place) → IsIn r (rows_for v add remove update) → IsIn r (add ++ remove ++ update)
      among Create r g = in_front r (add ++ remove) update (in_front r add remove g)
      among Remove r g = in_front r (add ++ remove) update (in_back r add remove g)
      among Start r g = in_back r (add ++ remove) update g
      among Stop r g = in_back r (add ++ remove) update g

given_in : (xs : List Change) (add remove update : Rows) (p : Place) → IsIn p (row_places xs add remove update)
    → IsIn p (map (λ r. r.1) (add ++ remove ++ update))
unfolding place_of_row
given_in xs add remove update p h =
    let from = of_filter_map (place_of_row add remove update) p (enumerate_from 0 xs) h in
    of_rows add remove update from.0.1.verb p (row_place (rows_for from.0.1.verb add remove update) (change_id from.0.0) p from.2)

few_given : (xs : List Change) (add remove update : Rows) → Covered xs add remove update → length (granted_places xs add remove update) ≤ 32
few_given xs add remove update h =
    let all = distinct_places (map (λ (r : List ℕ × Place). r.1) (add ++ remove ++ update)) in
    let less : length (granted_places xs add remove update) ≤ length all =
    few (granted_places xs add remove update) all (places_differ [] (row_places xs add remove update)) (λ p among.
    any_same p all
    (kept (map (λ (r : List ℕ × Place). r.1) (add ++ remove ++ update)) p
    (given_in xs add remove update p (of_places [] (row_places xs add remove update) p among)))) in
    let most = h.few_places in
    omega (arith, less, most)

-- what rows that cover a plan record places each change
pub rows_place : (xs : List Change) (add remove update : Rows) → covers xs add remove update ≡ true
    → IsPlacing (granted_places xs add remove update) (granted_spots xs add remove update) (length xs)
rows_place xs add remove update h =
    let c : Covered xs add remove update = covered xs add remove update h in
    let ps = row_places xs add remove update in
    let qs = granted_places xs add remove update in
    let back : places_at qs (filter_map (place_number qs) ps) ≡ ps = number_back qs ps (λ p among. kept ps p among) in
    let given : length ps ≡ length (enumerate_from 0 xs) = answered_length (place_of_row add remove update) (enumerate_from 0 xs)
    (rows_answer xs add remove update c) in
    record {
      one_a_change =
          answered_length (place_number qs) ps (numbers_answer qs ps (λ p among. kept ps p among)) ∙ (given ∙ enumerated_length 0 xs);
      known = numbers_known qs ps (λ p among. kept ps p among);
      in_order = subst (λ (rs : List Place). same_places (distinct_places rs) qs ≡ true) (sym back) (same_places-refl qs);
      few = few_given xs add remove update c;
    }

-- each change has the place of its row
pub rows_given : (xs : List Change) (add remove update : Rows) → covers xs add remove update ≡ true → (c : ℕ) (x : Change)
    → slice_get xs c ≡ Some x
    → place_at (granted_places xs add remove update) (granted_spots xs add remove update) c ≡ place_of_row add remove update (c, x)
rows_given xs add remove update h c x at =
    let ps = row_places xs add remove update in
    let qs = granted_places xs add remove update in
    let answers = rows_answer xs add remove update (covered xs add remove update h) in
    let shift : 0 + c ≡ c = omega arith in
    let entry : slice_get (enumerate_from 0 xs) c ≡ Some (c, x) = enumerated_get 0 xs c x at ∙ ap (λ (j : ℕ). Some (j, x)) shift in
    let given : slice_get ps c ≡ place_of_row add remove update (c, x) =
    answered_get (place_of_row add remove update) (enumerate_from 0 xs) c (c, x) answers entry in
    let some : is_some (place_of_row add remove update (c, x)) ≡ true = answers (c, x) (get_in (c, x) (enumerate_from 0 xs) c entry) in
    by_place (place_of_row add remove update (c, x)) given some where
      by_place : (o : Option Place) → slice_get (row_places xs add remove update) c ≡ o → is_some o ≡ true
          → place_at (granted_places xs add remove update) (granted_spots xs add remove update) c ≡ o
      by_place None given some = cc
      by_place (Some p) given some =
          let ps = row_places xs add remove update in
          let qs = granted_places xs add remove update in
          let found = numbered p qs (kept ps p (get_in p ps c given)) in
          let spot : slice_get (filter_map (place_number qs) ps) c ≡ place_number qs p =
          answered_get (place_number qs) ps c p (numbers_answer qs ps (λ p among. kept ps p among)) given in
          let number : slice_get (filter_map (place_number qs) ps) c ≡ Some found.0 = spot ∙ found.1 in
          rw number found.2

-- a grant whose rows cover may be recorded
pub cover_allowed : (width m : ℕ) (H : List Event) (o : ℕ) (name : List ℕ) (add remove update : Rows) → IsAsking H o → is_given name ≡ true
    → covers (changes H o) add remove update ≡ true
    → IsAllowedWithin width m H (Granted o name (granted_places (changes H o) add remove update)
    (granted_spots (changes H o) add remove update))
cover_allowed width m H o name add remove update asking named h =
    record { asking = asking; named = named; placed = rows_place (changes H o) add remove update h }
