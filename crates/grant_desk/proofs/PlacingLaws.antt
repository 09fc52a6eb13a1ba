-- Laws of the places that rows give to changes.
use Rattle.std.proofs.Common.{◌≡◌, ◌<◌, ◌+◌, ◌++◌, ◌∙◌, ◌&&◌, ℕ, List, [], ◌∷◌, Bool, true, false, Option, None, Some, is_some, not}
use Rattle.std.proofs.Common.{refl, ap, sym, subst, length, take, get_or, filter_map, arith, suc, zero, replicate, add-zero, ◌==◌}
use Rattle.std.proofs.Common.{eqb-true, eq-eqb, ◌^◌}
use Rattle.std.specs.List.{cons_option, enumerate_from, find}
use Rattle.std.specs.Option.{option_or}
use Rattle.std.specs.Prelude.{if◌then◌else◌, option_map}
use Rattle.std.proofs.lemmas.List.{get_or_default, length-replicate, take_more}
use Rattle.std.proofs.lemmas.List.Folds.{find-append}
use Rattle.lcm_events.specs.Same.{same_name}
use Rattle.lcm_events.specs.declared.changes.Change.{Change}
use Rattle.lcm_events.specs.declared.changes.Verb.{Verb}
use Rattle.lcm_events.specs.declared.changes.Verb.TheVariants.{Create, Remove, Start, Stop}
use Rattle.lcm_events.specs.declared.places.Place.{Place}
use Rattle.lcm_model.specs.Grants.{change_id, covers, granted_places, granted_spots, place_in_rows, place_of_row, row_places}
use Rattle.lcm_model.specs.Grants.{rows_for}
use Rattle.lcm_events.specs.declared.events.Event.{Event}
use Rattle.lcm_model.specs.Allowed.{IsAsking, MayGrant}
use Rattle.lcm_model.specs.Descriptors.{is_given}
use Rattle.lcm_model.specs.Operations.{changes}
use Rattle.lcm_laws.proofs.CoverLaws.{cover_allowed, same_name-refl}
use Rattle.lcm_laws.proofs.StandLaws.{same_name-true}
use Rattle.grant_desk.proofs.TallyLaws.{by_test}
use Rattle.grant_desk.specs.Parts.{asks}
use Rattle.grant_desk.specs.Placing.{FoundByRow, FoundByRows, found_by_row, found_with}
use Rattle.grant_desk.specs.declared.parts.Part.{Part}
use Rattle.grant_desk.specs.declared.parts.Part.TheVariants as part

either_place : (a b : Option (List ℕ × Place)) → option_map (λ r. r.1) (option_or a b)
    ≡ option_or (option_map (λ r. r.1) a) (option_map (λ r. r.1) b)
either_place None b = refl
either_place (Some r) b = refl

one_place : (b : Bool) (r : List ℕ × Place) → option_map (λ r. r.1) (if b then Some r else None) ≡ (if b then Some r.1 else None)
one_place true r = refl
one_place false r = refl

-- the place of one row more, where none is found before
place_more : (rows : List (List ℕ × Place)) (r : List ℕ × Place) (id : List ℕ)
    → place_in_rows (rows ++ r ∷ []) id ≡ option_or (place_in_rows rows id) (if same_name r.0 id then Some r.1 else None)
place_more rows r id =
    let p : List ℕ × Place → Bool = λ r. same_name r.0 id in
    ap (option_map (λ r. r.1)) (find-append p rows (r ∷ []))
    ∙ either_place (find p rows) (find p (r ∷ []))
    ∙ ap (λ (o : Option Place). option_or (place_in_rows rows id) o) (one_place (same_name r.0 id) r)

found_step : (a s : Bool) (old p : Option Place) (q : Place) → found_with (a && s) (found_with a old p) (Some q)
    ≡ found_with a old (option_or p (if s then Some q else None))
found_step true true None None q = refl
found_step true true None (Some p) q = refl
found_step true true (Some o) p q = refl
found_step true false None None q = refl
found_step true false None (Some p) q = refl
found_step true false (Some o) p q = refl
found_step false s old p q = refl

-- the places found by one row more
pub found_more : (part : Part) (rows : List (List ℕ × Place)) (i : ℕ) (r : List ℕ × Place) (xs : List Change)
    (old mid new : List (Option Place)) → i < length rows
    → get_or rows i r ≡ r → FoundByRows part (take i rows) xs old mid → FoundByRow part r xs mid new
    → FoundByRows part (take (i + 1) rows) xs old new
found_more part rows i r xs old mid new lt is h g = record {
  long = g.long ∙ h.long;
  each = λ k x short. (
      let a = asks part (get_or xs k x).verb in
      let s = same_name r.0 (change_id k) in
      let more : place_in_rows (take (i + 1) rows) (change_id k) ≡ option_or (place_in_rows (take i rows) (change_id k))
      (if s then Some r.1 else None) =
      ap (λ (rs : List (List ℕ × Place)). place_in_rows rs (change_id k))
      (take_more rows i r lt ∙ ap (λ (q : List ℕ × Place). take i rows ++ q ∷ []) is)
      ∙ place_more (take i rows) r (change_id k) in
      g.each k x short
      ∙ ap (λ (o : Option Place). found_with (a && s) o (Some r.1)) (h.each k x short)
      ∙ found_step a s (get_or old k None) (place_in_rows (take i rows) (change_id k)) r.1
      ∙ ap (λ (o : Option Place). found_with a (get_or old k None) o) (sym more));
}

-- what is found for one change, by its verb
all_parts : (v : Verb) (a r u : Option Place) (add remove update : List (List ℕ × Place)) (id : List ℕ) → a ≡ place_in_rows add id
    → r ≡ place_in_rows remove id → u ≡ place_in_rows update id
    → found_with (asks part.Update v) (found_with (asks part.Remove v) (found_with (asks part.Add v) None a) r) u
    ≡ place_in_rows (rows_for v add remove update) id
all_parts Create a r u add remove update id e f g = e
all_parts Remove a r u add remove update id e f g = f
all_parts Start a r u add remove update id e f g = g
all_parts Stop a r u add remove update id e f g = g

nothing_there : (n k : ℕ) → get_or (replicate {A = Option Place} n None) k None ≡ None
nothing_there zero k = refl
nothing_there (suc n) zero = refl
nothing_there (suc n) (suc k) = nothing_there n k

listed : (xs : List Change) (f : ℕ × Change → Option Place) (first : ℕ) (found : List (Option Place)) → length found ≡ length xs
    → ((k : ℕ) (x : Change) → k < length xs → get_or found k None ≡ f (first + k, get_or xs k x))
    → filter_map (λ place. place) found ≡ filter_map f (enumerate_from first xs)
listed [] f first [] long each = refl
listed [] f first (o ∷ found) long each = cc
listed (x ∷ xs) f first [] long each = cc
listed (x ∷ xs) f first (o ∷ found) long each =
    let here : o ≡ f (first, x) = each 0 x (omega arith) ∙ ap (λ (k : ℕ). f (k, x)) (add-zero first) in
    let rest = listed xs f (first + 1) found (omega (arith, long))
    (λ k y lt. each (suc k) y (omega (arith, lt)) ∙ ap (λ (j : ℕ). f (j, get_or xs k y))
    (let at : first + suc k ≡ (first + 1) + k = omega arith in at)) in
    ap (λ (p : Option Place). cons_option p (filter_map (λ place. place) found)) here ∙ ap (cons_option (f (first, x))) rest

-- what the rows of all parts find is what they give to the changes of the plan
pub found_places : (xs : List Change) (add remove update : List (List ℕ × Place)) (n : ℕ) (none a b c : List (Option Place)) → n ≡ length xs
    → none ≡ replicate n None
    → FoundByRows part.Add add xs none a → FoundByRows part.Remove remove xs a b → FoundByRows part.Update update xs b c
    → filter_map (λ place. place) c ≡ row_places xs add remove update
unfolding place_of_row
found_places xs add remove update n none a b c size is fa fb fc =
    let long : length none ≡ n = ap length is ∙ length-replicate n None in
    listed xs (place_of_row add remove update) 0 c (fc.long ∙ (fb.long ∙ (fa.long ∙ (long ∙ size))))
    (λ k x lt.
    let v = (get_or xs k x).verb in
    let id = change_id k in
    let empty : get_or none k None ≡ None = ap (λ (os : List (Option Place)). get_or os k None) is ∙ nothing_there n k in
    fc.each k x lt
    ∙ ap (λ (o : Option Place). found_with (asks part.Update v) o (place_in_rows update id))
    (fb.each k x lt
    ∙ ap (λ (o : Option Place). found_with (asks part.Remove v) o (place_in_rows remove id))
    (fa.each k x lt ∙ ap (λ (o : Option Place). found_with (asks part.Add v) o (place_in_rows add id)) empty))
    ∙ all_parts v _ _ _ add remove update id refl refl refl
    ∙ ap (λ (j : ℕ). place_in_rows (rows_for v add remove update) (change_id j)) (let at : k ≡ 0 + k = omega arith in at))

and_yes : (a b : Bool) → b ≡ true → (a && b) ≡ a
and_yes true b e = e
and_yes false b e = refl

and_no : (a b : Bool) → b ≡ false → (a && b) ≡ false
and_no true b e = e
and_no false b e = refl

-- what a row finds, where it names change n alone
pub row_found : (part : Part) (row : List ℕ × Place) (xs : List Change) (old new : List (Option Place)) (n : ℕ) → length new ≡ length old
    → ((k : ℕ) → k < 2 ^ 64 → row.0 ≡ change_id k → Some n ≡ Some k) → row.0 ≡ change_id n → length xs < 2 ^ 64
    → ((k : ℕ) → (k ≡ n → ⊥) → get_or new k None ≡ get_or old k None)
    → ((x : Change) → get_or new n None ≡ found_with (asks part (get_or xs n x).verb) (get_or old n None) (Some row.1))
    → FoundByRow part row xs old new
row_found part row xs old new n long read is small others here = record {
  long = long;
  each = λ k x lt. by_test (k == n)
      (λ yes.
      let at : k ≡ n = eqb-true k n yes in
      let named : same_name row.0 (change_id n) ≡ true = ap (λ (id : List ℕ). same_name id (change_id n)) is
      ∙ same_name-refl (change_id n) in
      let P : ℕ → Type 0 = λ (j : ℕ). get_or new j None ≡ found_by_row part row (get_or xs j x) j (get_or old j None) in
      subst P (sym at) (here x ∙ ap (λ (b : Bool). found_with b (get_or old n None) (Some row.1))
      (sym (and_yes (asks part (get_or xs n x).verb) _ named))))
      (λ no.
      let other : k ≡ n → ⊥ = λ e. (let yes : (k == n) ≡ true = eq-eqb k n e in cc) in
      let unnamed : same_name row.0 (change_id k) ≡ false = by_test (same_name row.0 (change_id k))
      (λ named. absurd (other (let same : Some n ≡ Some k = read k (omega (arith, lt, small)) (same_name-true row.0 (change_id k) named) in
      cc)))
      (λ e. e) in
      others k other ∙ ap (λ (b : Bool). found_with b (get_or old k None) (Some row.1))
      (sym (and_no (asks part (get_or xs k x).verb) _ unnamed)));
}

-- a row that names a change which isn't asked for in its part finds nothing
pub not_asked : (part : Part) (xs : List Change) (n : ℕ) (d x : Change) (old : Option Place) (place : Place) (b : Bool) → n < length xs
    → b ≡ asks part (get_or xs n d).verb → b ≡ false
    → old ≡ found_with (asks part (get_or xs n x).verb) old (Some place)
not_asked part xs n d x old place b lt is off =
    let unasked : asks part (get_or xs n x).verb ≡ false = ap (λ (y : Change). asks part y.verb) (get_or_default xs n x d lt)
    ∙ (sym is ∙ off) in
    rw unasked refl

kept : (a b : Bool) (old : Option Place) (place : Place) → is_some old ≡ not b → b ≡ false → old ≡ found_with a old (Some place)
kept true b None place is off = cc
kept true b (Some o) place is off = refl
kept false b old place is off = refl

-- a row that names a change for which a place was found finds nothing
pub found_before : (a b : Bool) (old : List (Option Place)) (n : ℕ) (d : Option Place) (place : Place) → n < length old
    → is_some (get_or old n d) ≡ not b → b ≡ false
    → get_or old n None ≡ found_with a (get_or old n None) (Some place)
found_before a b old n d place lt is off = kept a b (get_or old n None) place (ap is_some (get_or_default old n None d lt) ∙ is) off

-- what covering rows record may be recorded
pub allowed : (width m : ℕ) (H : List Event) (o : ℕ) (name : List ℕ) (xs : List Change) (add remove update : List (List ℕ × Place))
    (places : List Place) (spots : List ℕ)
    → changes H o ≡ xs → places ≡ granted_places xs add remove update → spots ≡ granted_spots xs add remove update → IsAsking H o
    → is_given name ≡ true
    → covers xs add remove update ≡ true → MayGrant H o name places spots
allowed width m H o name xs add remove update places spots of_plan are numbered asking named covering =
    let here : covers (changes H o) add remove update ≡ true = subst (λ (ys : List Change). covers ys add remove update ≡ true)
    (sym of_plan) covering in
    let may : MayGrant H o name (granted_places (changes H o) add remove update) (granted_spots (changes H o) add remove update) =
    cover_allowed width m H o name add remove update asking named here in
    let placed : MayGrant H o name places (granted_spots (changes H o) add remove update) =
    subst (λ (ps : List Place). MayGrant H o name ps (granted_spots (changes H o) add remove update))
    (ap (λ (ys : List Change). granted_places ys add remove update) of_plan ∙ sym are) may in
    subst (λ (ns : List ℕ). MayGrant H o name places ns) (ap (λ (ys : List Change). granted_spots ys add remove update) of_plan
    ∙ sym numbered) placed
