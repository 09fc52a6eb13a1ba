-- What an act is done on, and where, is what the history has.
use Rattle.std.proofs.Common.{◌≡◌, ◌∷◌, ℕ, List, [], Bool, true, false, Option, None, Some, refl, ap, sym, map, inl, inr, ◌⊎◌, ◌∙◌}
use Rattle.std.specs.List.{cons_option}
use Rattle.std.specs.Option.{option_map_or}
use Rattle.std.specs.Prelude.{filter_map, find, if◌then◌else◌, option_and_then, option_map}
use Rattle.lcm_events.specs.Same.{same_def}
use Rattle.lcm_events.proofs.SameLaws.{same_def-refl, same_def-true}
use Rattle.lcm_events.specs.declared.changes.Def.{Def}
use Rattle.lcm_events.specs.declared.changes.Verb.{Verb}
use Rattle.lcm_events.specs.declared.changes.Verb.TheVariants.{Create, Remove, Start, Stop}
use Rattle.lcm_events.specs.declared.descriptor.Vnfd.{Vnfd}
use Rattle.lcm_events.specs.declared.events.Event.{Event}
use Rattle.lcm_events.specs.declared.held.Held.{Held}
use Rattle.lcm_events.specs.declared.places.Place.{Place}
use Rattle.lcm_model.specs.Holding.{place, resource, runs, stands, top}
use Rattle.lcm_model.specs.Instances.{defs_up_to, held_at, holding}
use Rattle.lcm_model.specs.Needs.{needs}
use Rattle.lcm_model.specs.Words.{IsIn}
use Rattle.change_planner.specs.Acts.{ActsAreOnWhatStands, held, place_of, resource_held}
use Rattle.change_planner.proofs.NetLaws.{by_test}

-- an item says the resource and the place of its definition
pub record SaysOf (x : Def) (name : Option (List ℕ)) (at : Option Place) (z : Held) : Type 0 where
  pub def : z.def ≡ x
  pub resource : name ≡ Some z.resource
  pub place : at ≡ Some z.place

made_of : (x : Def) (b running : Bool) (name : Option (List ℕ)) (at : Option Place) (z : Held)
    → (if b then option_and_then (λ n. option_map (λ p. record { def = x; resource = n; place = p; running = running }) at) name else None)
    ≡ Some z → SaysOf x name at z
made_of x false running name at z e = cc
made_of x true running None at z e = cc
made_of x true running (Some n) None z e = cc
made_of x true running (Some n) (Some p) z e = record { def = cc; resource = cc; place = cc }

says : (H : List Event) (i : ℕ) (x : Def) (z : Held) → held_at H i x ≡ Some z → SaysOf x (resource H i x) (place H i x) z
says H i x z e = made_of x (stands H i x) (runs H i x) (resource H i x) (place H i x) z e

abbrev is_at : Def → Held → Bool
is_at x y = same_def y.def x

never : (b : Bool) → b ≡ true → b ≡ false → ⊥
never b e f = cc

same-at : (f : Def → Option Held) (e x : Def) (z : Held) → f e ≡ Some z → e ≡ x → f x ≡ Some z
same-at f e x z is same = rw (sym same) is

rest-has : (f : Def → Option Held) (x : Def) (z : Held) (rest : List Held) → same_def z.def x ≡ false
    → (IsIn x (map (λ y. y.def) rest) → find (is_at x) rest ≡ f x)
    → (z.def ≡ x) ⊎ IsIn x (map (λ y. y.def) rest) → find (is_at x) rest ≡ f x
rest-has f x z rest apart on (inl same) = absurd (never (same_def z.def x) (rw same (same_def-refl x)) apart)
rest-has f x z rest apart on (inr h) = on h

find_step : (f : Def → Option Held) (e x : Def) (o : Option Held) (rest : List Held) → f e ≡ o → ((z : Held) → f e ≡ Some z → z.def ≡ e)
    → (IsIn x (map (λ y. y.def) rest) → find (is_at x) rest ≡ f x) → IsIn x (map (λ y. y.def) (cons_option o rest))
    → find (is_at x) (cons_option o rest) ≡ f x
find_step f e x None rest is names on h = on h
find_step f e x (Some z) rest is names on h = by_test (same_def z.def x)
    (λ same. let a : z.def ≡ x = same_def-true z.def x same in let b : z.def ≡ e = names z is in let c : f x ≡ Some z =
    same-at f e x z is (sym b ∙ a) in rw same (sym c))
    (λ apart. rw apart (rest-has f x z rest apart on h))

found_step : (f : Def → Option Held) (e x : Def) (o : Option Held) (rest : List Held) → f e ≡ o → ((z : Held) → f e ≡ Some z → z.def ≡ e)
    → (IsIn x (map (λ y. y.def) rest) → (z : Held) × (f x ≡ Some z)) → IsIn x (map (λ y. y.def) (cons_option o rest))
    → (z : Held) × (f x ≡ Some z)
found_step f e x None rest is names on h = on h
found_step f e x (Some z) rest is names on (inl same) = (z, same-at f e x z is (sym (names z is) ∙ same))
found_step f e x (Some z) rest is names on (inr h) = on h

find_is : (f : Def → Option Held) (xs : List Def) (x : Def) → ((e : Def) (z : Held) → f e ≡ Some z → z.def ≡ e)
    → IsIn x (map (λ y. y.def) (filter_map f xs)) → find (is_at x) (filter_map f xs) ≡ f x
find_is f [] x names h = absurd h
find_is f (e ∷ xs) x names h = find_step f e x (f e) (filter_map f xs) refl (names e) (find_is f xs x names) h

found_is : (f : Def → Option Held) (xs : List Def) (x : Def) → ((e : Def) (z : Held) → f e ≡ Some z → z.def ≡ e)
    → IsIn x (map (λ y. y.def) (filter_map f xs)) → (z : Held) × (f x ≡ Some z)
found_is f [] x names h = absurd h
found_is f (e ∷ xs) x names h = found_step f e x (f e) (filter_map f xs) refl (names e) (found_is f xs x names) h

holds : (d : Vnfd) (H : List Event) (i : ℕ) (x : Def) → IsIn x (map (λ y. y.def) (holding d H i).items)
    → (z : Held) × (held (holding d H i) x ≡ Some z) × SaysOf x (resource H i x) (place H i x) z
holds d H i x h =
    let names : (e : Def) (z : Held) → held_at H i e ≡ Some z → z.def ≡ e = λ e z is. (says H i e z is).def in
    let some = found_is (held_at H i) (defs_up_to d (top H i)) x names h in
    (some.0, find_is (held_at H i) (defs_up_to d (top H i)) x names h ∙ some.1, says H i x some.0 some.1)

names_resource : (d : Vnfd) (H : List Event) (i : ℕ) (x : Def) → IsIn x (map (λ y. y.def) (holding d H i).items)
    → resource_held (holding d H i) x ≡ resource H i x
names_resource d H i x h = let z = holds d H i x h in ap (option_map (λ y. y.resource)) z.1 ∙ sym z.2.resource

same_filter_map : {A B : Type 0} → (f g : A → Option B) (xs : List A) → ((x : A) → IsIn x xs → f x ≡ g x)
    → filter_map f xs ≡ filter_map g xs
same_filter_map f g [] same = refl
same_filter_map f g (x ∷ xs) same = rw (same x (inl refl)) (ap (cons_option (g x)) (same_filter_map f g xs (λ y h. same y (inr h))))

at_held : (d : Vnfd) (H : List Event) (i : ℕ) (x : Def) (at : Place) → IsIn x (map (λ y. y.def) (holding d H i).items)
    → Some (option_map_or (λ y. y.place) (held (holding d H i) x) at) ≡ place H i x
at_held d H i x at h = let z = holds d H i x h in ap (λ o. Some (option_map_or (λ y. y.place) o at)) z.1 ∙ sym z.2.place

at_place : (d : Vnfd) (H : List Event) (i : ℕ) (verb : Verb) (x : Def) (at : Place)
    → ((y : Def) → IsIn y (needs d verb x) → IsIn y (map (λ z. z.def) (holding d H i).items))
    → ¬ (verb ≡ Create) → Some (place_of (holding d H i) verb x at) ≡ place H i x
at_place d H i Create x at stand h = absurd (h refl)
at_place d H i Remove x at stand h = at_held d H i x at (stand x (inl refl))
at_place d H i Start x at stand h = at_held d H i x at (stand x (inl refl))
at_place d H i Stop x at stand h = at_held d H i x at (stand x (inl refl))

pub acts_on_what_stands : ActsAreOnWhatStands
acts_on_what_stands d H i verb x stand = record {
  on = same_filter_map (resource_held (holding d H i)) (resource H i) (needs d verb x) (λ y h. names_resource d H i y (stand y h));
  place = λ at apart. at_place d H i verb x at stand apart;
}
