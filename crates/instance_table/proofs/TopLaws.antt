-- The greatest serial numbers, event by event.
use Rattle.std.proofs.Common.{◌≡◌, ◌<◌, ◌+◌, ◌==◌, ◌∙◌, ℕ, List, [], ◌∷◌, zero, suc, Bool, true, false, cond, not, Option, None, Some}
use Rattle.std.proofs.Common.{is_some, refl, ap, sym, subst, length, map, max, filter, replicate, arith, eqb-true, eq-eqb, inl, inr}
use Rattle.std.specs.List.{range_with_len}
use Rattle.lcm_events.specs.Same.{same_name}
use Rattle.lcm_events.specs.declared.changes.Change.{Change}
use Rattle.lcm_events.specs.declared.descriptor.Vnfd.{Vnfd}
use Rattle.lcm_events.specs.declared.events.Event.{Event}
use Rattle.lcm_events.specs.declared.events.EventKind.{EventKind}
use Rattle.lcm_events.specs.declared.events.EventKind.TheVariants.{Asked, Created, Onboarded}
use Rattle.lcm_events.specs.declared.events.Operation.{Operation}
use Rattle.lcm_model.specs.Allowed.{IsAllowedWithin, IsLegalWithin}
use Rattle.lcm_model.specs.Holding.{is_of_instance, top, top_in, top_of}
use Rattle.lcm_model.specs.Lives.{CreatedInstance, creation, creations, descriptor_named, instances_made, is_deleted}
use Rattle.lcm_model.specs.Operations.{operations}
use Rattle.lcm_model.specs.Vnfcs.{vdu_numbers}
use Rattle.lcm_model.specs.Words.{greatest}
use Rattle.lcm_laws.proofs.Histories.{event, legal_induction}
use Rattle.lcm_laws.proofs.Lists.{and_left, by_test}
use Rattle.lcm_laws.proofs.NumberLaws.{found_within, instances_counted}
use Rattle.lcm_laws.proofs.StandLaws.{same_name-true}
use Rattle.lcm_laws.proofs.HoldLaws.{some_value}
use Rattle.lcm_model.specs.Words.{IsIn}
use Rattle.instance_table.specs.Steps.{raised, update}

-- a list over numbers from one on, where what stands at one of them changes
same_behind : (g : ℕ → ℕ) (f : ℕ → ℕ) (w k n : ℕ) → w < k → map f (range_with_len k n)
    ≡ map (λ v. cond (w == v) (g (f v)) (f v)) (range_with_len k n)
same_behind g f w k zero h = refl
same_behind g f w k (suc n) h =
    let other : (w == k) ≡ false = by_test (w == k) (λ same. let is : w ≡ k = eqb-true w k same in absurd (omega (arith, h, is)))
    (λ no. no) in
    rw other (ap (λ (ns : List ℕ). f k ∷ ns) (same_behind g f w (k + 1) n (omega (arith, h))))

update-range : (g : ℕ → ℕ) (f : ℕ → ℕ) (w k x n : ℕ) → k + w ≡ x
    → update g w (map f (range_with_len k n)) ≡ map (λ v. cond (x == v) (g (f v)) (f v)) (range_with_len k n)
update-range g f w k x zero e = refl
update-range g f zero k x (suc n) e =
    let is : x ≡ k = omega (arith, e) in
    let own : (x == k) ≡ true = eq-eqb x k is in
    rw own (ap (λ (ns : List ℕ). g (f k) ∷ ns) (same_behind g f x (k + 1) n (omega (arith, is))))
update-range g f (suc w) k x (suc n) e =
    let other : (x == k) ≡ false = by_test (x == k) (λ same. let is : x ≡ k = eqb-true x k same in absurd (omega (arith, e, is)))
    (λ no. no) in
    rw other (ap (λ (ns : List ℕ). f k ∷ ns) (update-range g f w (k + 1) x n (omega (arith, e))))

map_same : (f g : ℕ → ℕ) (ns : List ℕ) → ((n : ℕ) → f n ≡ g n) → map f ns ≡ map g ns
map_same f g [] e = refl
map_same f g (n ∷ ns) e = ap (λ (k : ℕ). k ∷ map f ns) (e n) ∙ ap (λ (ks : List ℕ). g n ∷ ks) (map_same f g ns e)

-- serials that are given, VDU by VDU
raised-each : (xs : List Change) (f : ℕ → ℕ) (n : ℕ) → raised xs (map f (range_with_len 0 n))
    ≡ map (λ v. max (top_of v xs) (f v)) (range_with_len 0 n)
raised-each [] f n = map_same f (λ v. max 0 (f v)) (range_with_len 0 n) (λ v. omega arith)
raised-each (x ∷ xs) f n =
    ap (raised xs) (update-range (max x.def.serial) f x.def.vdu 0 x.def.vdu n (omega arith))
    ∙ (raised-each xs (λ v. cond (x.def.vdu == v) (max x.def.serial (f v)) (f v)) n
    ∙ map_same _ _ (range_with_len 0 n) (λ v. by_test (x.def.vdu == v) (λ same. rw same (omega arith)) (λ other. rw other refl)))

-- no operation of an instance that wasn't made was asked for
abbrev Unasked : List Event → Type 0
Unasked H = (i : ℕ) → instances_made H < i → filter (is_of_instance i) (operations H) ≡ []

unasked_step : (width m : ℕ) (H : List Event) (time : ℕ) (k : EventKind) → IsLegalWithin width m H → IsAllowedWithin width m H k → Unasked H
    → Unasked (event time k ∷ H)
unasked_step width m H time (Created j vnfd name text) legal allowed h i high = h i (omega (arith, high))
unasked_step width m H time (Asked a) legal allowed h i high =
    let there = and_left (is_some (creation H a.instance)) (not (is_deleted H a.instance)) allowed.live in
    let low = (found_within (λ x. x.instance) (creations H) a.instance (instances_counted width m H legal) there).1 in
    let other : (a.instance == i) ≡ false = by_test (a.instance == i)
    (λ same. let is : a.instance ≡ i = eqb-true a.instance i same in absurd (omega (arith, low, high, is))) (λ no. no) in
    rw other (h i high)
unasked_step width m H time k legal allowed h i high = h i high

unasked : (width m : ℕ) (H : List Event) → IsLegalWithin width m H → Unasked H
unasked width m H legal = legal_induction width m Unasked (λ i high. refl)
    (λ H time k legal allowed h. unasked_step width m H time k legal allowed h) H legal

zeros : (k n : ℕ) → map {B = ℕ} (λ v. 0) (range_with_len k n) ≡ replicate n 0
zeros k zero = refl
zeros k (suc n) = ap (λ (ns : List ℕ). 0 ∷ ns) (zeros (k + 1) n)

-- an instance has no serials before it is made
pub new_tops : (width m : ℕ) (H : List Event) (i : ℕ) (d : Vnfd) → IsLegalWithin width m H → instances_made H < i
    → map (top H i) (vdu_numbers d) ≡ replicate (length d.vdus) 0
new_tops width m H i d legal high =
    map_same (top H i) (λ v. 0) (vdu_numbers d) (λ v. ap (λ (xs : List Operation). greatest (map (top_in v) xs))
    (unasked width m H legal i high))
    ∙ zeros 0 (length d.vdus)

top-asked : (H : List Event) (time i v : ℕ) (a : Operation) (b : Bool) → (a.instance == i) ≡ b
    → top (event time (Asked a) ∷ H) i v ≡ cond b (max (top_of v a.changes) (top H i v)) (top H i v)
unfolding top_in
top-asked H time i v a true e = rw e refl
top-asked H time i v a false e = rw e refl

tops_when : (H : List Event) (time i : ℕ) (a : Operation) (d : Vnfd) (b : Bool) → (a.instance == i) ≡ b
    → map (top (event time (Asked a) ∷ H) i) (vdu_numbers d) ≡ cond b (raised a.changes (map (top H i) (vdu_numbers d)))
    (map (top H i) (vdu_numbers d))
tops_when H time i a d true e = map_same _ _ (vdu_numbers d) (λ v. top-asked H time i v a true e)
    ∙ sym (raised-each a.changes (top H i) (length d.vdus))
tops_when H time i a d false e = map_same _ _ (vdu_numbers d) (λ v. top-asked H time i v a false e)

-- what an ask makes of the serials of an instance
pub tops-asked : (H : List Event) (time i : ℕ) (a : Operation) (d : Vnfd)
    → map (top (event time (Asked a) ∷ H) i) (vdu_numbers d) ≡ cond (a.instance == i) (raised a.changes (map (top H i) (vdu_numbers d)))
    (map (top H i) (vdu_numbers d))
tops-asked H time i a d = tops_when H time i a d (a.instance == i) refl

-- the descriptors of these instances were onboarded
abbrev Known : List Event → List CreatedInstance → Type 0
Known H [] = Unit {0}
Known H (x ∷ xs) = (is_some (descriptor_named H x.vnfd) ≡ true) × Known H xs

known_more : (H : List Event) (time : ℕ) (d : Vnfd) (xs : List CreatedInstance) → Known H xs → Known (event time (Onboarded d) ∷ H) xs
known_more H time d [] h = tt
known_more H time d (x ∷ xs) h = (more (same_name d.descriptor_id x.vnfd) (descriptor_named H x.vnfd) h.0, known_more H time d xs h.1) where
  more : (b : Bool) (y : Option Vnfd) → is_some y ≡ true → is_some (cond b (Some d) y) ≡ true
  more true y e = refl
  more false y e = e

known_same : (H : List Event) (time : ℕ) (k : EventKind) (xs : List CreatedInstance) → Known H xs → Known (event time k ∷ H) xs
known_same H time (Onboarded d) xs h = known_more H time d xs h
known_same H time k [] h = tt
known_same H time k (x ∷ xs) h = (h.0, known_same H time k xs h.1)

known_step : (width m : ℕ) (H : List Event) (time : ℕ) (k : EventKind) → IsAllowedWithin width m H k → Known H (creations H)
    → Known (event time k ∷ H) (creations (event time k ∷ H))
known_step width m H time (Created i vnfd name text) allowed h =
    (allowed.onboarded, known_same H time (Created i vnfd name text) (creations H) h)
known_step width m H time k allowed h = known_same H time k (creations H) h

known : (width m : ℕ) (H : List Event) → IsLegalWithin width m H → Known H (creations H)
known width m H legal = legal_induction width m (λ H. Known H (creations H)) tt
    (λ H time k legal allowed h. known_step width m H time k allowed h) H legal

another : (H : List Event) (d : Vnfd) (n : List ℕ) → descriptor_named H d.descriptor_id ≡ None → is_some (descriptor_named H n) ≡ true
    → same_name d.descriptor_id n ≡ false
another H d n none there = by_test (same_name d.descriptor_id n)
    (λ same.
    let is : d.descriptor_id ≡ n = same_name-true d.descriptor_id n same in
    let gone : descriptor_named H n ≡ None = subst (λ (k : List ℕ). descriptor_named H k ≡ None) is none in
    let clash : is_some {T = Vnfd} None ≡ true = subst (λ (y : Option Vnfd). is_some y ≡ true) gone there in
    cc)
    (λ other. other)

known_in : (H : List Event) (xs : List CreatedInstance) (x : CreatedInstance) → Known H xs → IsIn x xs
    → is_some (descriptor_named H x.vnfd) ≡ true
known_in H [] x h among = absurd among
known_in H (y ∷ ys) x h (inl e) = subst (λ (z : CreatedInstance). is_some (descriptor_named H z.vnfd) ≡ true) e h.0
known_in H (y ∷ ys) x h (inr g) = known_in H ys x h.1 g

-- the descriptor of an instance that was created is known
pub named_of : (width m : ℕ) (H : List Event) (x : CreatedInstance) → IsLegalWithin width m H → IsIn x (creations H)
    → (d : Vnfd) × (descriptor_named H x.vnfd ≡ Some d)
named_of width m H x legal among = some_value (descriptor_named H x.vnfd) (known_in H (creations H) x (known width m H legal) among)

-- a descriptor stays known
pub named-next : (width m : ℕ) (H : List Event) (time : ℕ) (k : EventKind) (n : List ℕ) (d : Vnfd) → IsAllowedWithin width m H k
    → descriptor_named H n ≡ Some d
    → descriptor_named (event time k ∷ H) n ≡ Some d
named-next width m H time (Onboarded y) n d allowed e =
    let there : is_some (descriptor_named H n) ≡ true = ap is_some e in
    let other : same_name y.descriptor_id n ≡ false = another H y n allowed.unknown there in
    rw other e
named-next width m H time k n d allowed e = e
