-- Which instances operations are of, and which descriptors they were made of.
use Rattle.std.proofs.Common.{◌≡◌, ◌≢◌, ◌≤◌, ◌+◌, ◌-◌, ◌==◌, ◌∙◌, ℕ, List, [], ◌∷◌, Bool, true, false, cond, not, Option, None, is_some}
use Rattle.std.proofs.Common.{refl, ap, sym, subst, length, map, find, reverse, slice_get, arith, eqb-true, false-eqb, inl, inr, option_map}
use Rattle.std.specs.Prelude.{unwrap_or}
use Rattle.std.proofs.lemmas.List.{length-map, length-reverse}
use mathlib.Core.List.{reverse-cons}
use Rattle.lcm_events.specs.declared.events.Event.{Event}
use Rattle.lcm_events.specs.declared.events.EventKind.{EventKind}
use Rattle.lcm_events.specs.declared.events.EventKind.TheVariants.{Asked, Created}
use Rattle.lcm_events.specs.declared.events.Operation.{Operation}
use Rattle.lcm_model.specs.Allowed.{IsAllowedWithin, IsLegalWithin}
use Rattle.lcm_model.specs.Lives.{CreatedInstance, creation, creations, instances_made, is_deleted, is_live}
use Rattle.lcm_model.specs.Operations.{operations}
use Rattle.lcm_model.specs.Words.{IsIn}
use Rattle.lcm_laws.proofs.Histories.{event, legal_induction}
use Rattle.lcm_laws.proofs.Lists.{and_left, by_test}
use Rattle.lcm_laws.proofs.NumberLaws.{IsCounted, found_within, instances_counted}
use Rattle.occ_table.specs.Descriptors.{vnfd, vnfd_in, vnfds, vnfds_after}
use Rattle.occ_table.proofs.Updates.{get-front, get-last}

-- the number of a live instance
pub live_number : (width m : ℕ) (H : List Event) (i : ℕ) → IsLegalWithin width m H → is_live H i ≡ true → (1 ≤ i) × (i ≤ instances_made H)
live_number width m H i legal live =
    found_within (λ x. x.instance) (creations H) i (instances_counted width m H legal)
    (and_left (is_some (creation H i)) (not (is_deleted H i)) live)

abbrev pub AllHomed : List Event → Type 0
AllHomed H = (a : Operation) → IsIn a (operations H) → (1 ≤ a.instance) × (a.instance ≤ instances_made H)

homed_step : (width m : ℕ) (H : List Event) (time : ℕ) (k : EventKind) → IsLegalWithin width m H → IsAllowedWithin width m H k → AllHomed H
    → AllHomed (event time k ∷ H)
homed_step width m H time (Asked b) legal allowed h a (inl is) =
    subst (λ (i : ℕ). (1 ≤ i) × (i ≤ instances_made H)) (ap (λ (x : Operation). x.instance) is)
    (live_number width m H b.instance legal allowed.live)
homed_step width m H time (Asked b) legal allowed h a (inr g) = h a g
homed_step width m H time (Created i vnfd name text) legal allowed h a g = let from = h a g in (from.0, omega (arith, from.1))
homed_step width m H time _ legal allowed h a g = h a g

-- an operation's instance is from 1 to how many were created
pub homed : (width m : ℕ) (H : List Event) → IsLegalWithin width m H → AllHomed H
homed width m H legal = legal_induction width m AllHomed (λ a h. absurd h)
    (λ H time k legal allowed h. homed_step width m H time k legal allowed h) H legal

pub not_zero : (i : ℕ) → 1 ≤ i → (i == 0) ≡ false
not_zero i low = by_test (i == 0) (λ same. let is : i ≡ 0 = eqb-true i 0 same in absurd (omega (arith, low, is))) (λ other. other)

-- what is found at the place of a number in the list of what was made
pub placed : {A B : Type 0} → (number : A → ℕ) (f : A → B) (xs : List A) (n : ℕ) → IsCounted number xs → 1 ≤ n
    → slice_get (reverse (map f xs)) (n - 1) ≡ option_map f (find (λ a. number a == n) xs)
placed number f [] n counted low = refl
placed {A} {B} number f (x ∷ xs) n counted low =
    let ys : List B = reverse (map f xs) in
    let long : length (reverse (map f xs)) ≡ length xs = length-reverse (map f xs) ∙ length-map xs f in
    let here : number x ≡ length xs + 1 = counted.0 in
    ap (λ (zs : List B). slice_get zs (n - 1)) (reverse-cons (f x) (map f xs))
    ∙ by_test (number x == n)
    (λ same.
    let is : number x ≡ n = eqb-true (number x) n same in
    rw same (get-last (n - 1) ys (f x) (omega (arith, is, here, long))))
    (λ other.
    let not : number x ≢ n = false-eqb (number x) n (sym other) in
    rw other (get-front (n - 1) ys (f x) (λ at. not (omega (arith, at, here, long, low))) ∙ placed number f xs n counted.1 low))

-- the descriptor of an instance stands at its place
pub described_at : (width m : ℕ) (H : List Event) (i : ℕ) → IsLegalWithin width m H → 1 ≤ i → vnfd_in i (vnfds H) ≡ vnfd H i
described_at width m H i legal low =
    ap (λ (b : Bool). unwrap_or (cond b None (slice_get (vnfds H) (i - 1))) []) (not_zero i low)
    ∙ ap (λ (x : Option (List ℕ)). unwrap_or x []) (placed (λ (x : CreatedInstance). x.instance) (λ (x : CreatedInstance). x.vnfd)
    (creations H) i (instances_counted width m H legal) low)

-- what an event makes of the descriptors
vnfds-step : (H : List Event) (time : ℕ) (k : EventKind) → vnfds (event time k ∷ H) ≡ vnfds_after k (vnfds H)
vnfds-step H time (Created i v name text) = reverse-cons v (map (λ (x : CreatedInstance). x.vnfd) (creations H))
vnfds-step H time _ = refl

-- descriptors that followed an event
pub redescribed : (H : List Event) (e : Event) (old new : List (List ℕ)) → old ≡ vnfds H → new ≡ vnfds_after e.kind old
    → new ≡ vnfds (e ∷ H)
redescribed H e old new was is = is ∙ (ap (λ (vs : List (List ℕ)). vnfds_after e.kind vs) was ∙ sym (vnfds-step H e.moment e.kind))

-- an event that creates no instance leaves the descriptors
pub undescribed : (k : EventKind) (vs : List (List ℕ)) → ((i : ℕ) (v : List ℕ) (name text : Option (List ℕ)) → k ≡ Created i v name text
    → ⊥) → vs ≡ vnfds_after k vs
undescribed (Created i v name text) vs f = absurd (f i v name text refl)
undescribed _ vs f = refl
