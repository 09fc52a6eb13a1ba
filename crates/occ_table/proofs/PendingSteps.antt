-- What each event makes of the open attempts of a row, and of its trouble.
use Rattle.std.proofs.Common.{◌≡◌, ◌≤◌, ◌<◌, ◌||◌, ◌&&◌, ◌==◌, ◌∙◌, ◌++◌, ℕ, List, [], ◌∷◌, Bool, true, false, cond, not, refl, ap, sym}
use Rattle.std.proofs.Common.{subst, length, map, filter, reverse, arith, eqb-true, lt-ltb}
use Rattle.std.specs.List.{list_any}
use Rattle.std.proofs.lemmas.List.{length-map, length-reverse, map-append}
use Rattle.std.proofs.lemmas.List.Elements.{filter-append}
use Rattle.std.proofs.lemmas.List.Folds.{list_any-append}
use mathlib.Core.List.{reverse-cons}
use Rattle.lcm_events.specs.Same.{same_tag}
use Rattle.lcm_events.proofs.SameLaws.{same_tag-true}
use Rattle.lcm_events.specs.declared.attempts.Outcome.{Outcome}
use Rattle.lcm_events.specs.declared.attempts.Outcome.TheVariants.{Aborted, Broken, Done, NotBegun}
use Rattle.lcm_events.specs.declared.attempts.Tag.{Tag}
use Rattle.lcm_events.specs.declared.events.Event.{Event}
use Rattle.lcm_events.specs.declared.events.EventKind.TheVariants.{CallFailed, Intent, Settled}
use Rattle.lcm_model.specs.Allowed.{IsAllowedWithin, IsLegalWithin}
use Rattle.lcm_model.specs.Attempts.{is_of_occurrence, is_open, is_unsettled, open_of, open_tags}
use Rattle.lcm_model.specs.Since.{has_call_failed, has_trouble, is_trouble, troubles}
use Rattle.lcm_laws.proofs.FreshLaws.{fresh_unfailed}
use Rattle.lcm_laws.proofs.Histories.{event}
use Rattle.lcm_laws.proofs.Lists.{any_filter, by_test, filter_same, not-false}
use Rattle.lcm_laws.proofs.NetLaws.{another}
use Rattle.lcm_laws.proofs.OpenLaws.{open_of-begun, open_of-ended}
use Rattle.occ_table.specs.Rows.{pending_of, pendings}
use Rattle.occ_table.specs.Steps.{begun, ended, failed_by, has_failed_among, is_trouble_among}
use Rattle.occ_table.specs.declared.pending.Pending.{Pending}

map_reverse : {A B : Type 0} → (f : A → B) (xs : List A) → map f (reverse xs) ≡ reverse (map f xs)
map_reverse f [] = refl
map_reverse f (x ∷ xs) =
    ap (map f) (reverse-cons x xs)
    ∙ (map-append f (reverse xs) (x ∷ [])
    ∙ (ap (λ ys. ys ++ f x ∷ []) (map_reverse f xs) ∙ sym (reverse-cons (f x) (map f xs))))

pub filter_reverse : {A : Type 0} → (p : A → Bool) (xs : List A) → filter p (reverse xs) ≡ reverse (filter p xs)
filter_reverse p [] = refl
filter_reverse p (x ∷ xs) =
    ap (filter p) (reverse-cons x xs)
    ∙ (filter-append p (reverse xs) (x ∷ [])
    ∙ (ap (λ ys. ys ++ filter p (x ∷ [])) (filter_reverse p xs)
    ∙ by_test (p x) (λ yes. rw yes (sym (reverse-cons x (filter p xs)))) (λ no. rw no (nil_right (reverse (filter p xs)))))) where
      nil_right : {A : Type 0} → (ys : List A) → ys ++ [] ≡ ys
      nil_right [] = refl
      nil_right (y ∷ ys) = ap (λ zs. y ∷ zs) (nil_right ys)

pub any_reverse : {A : Type 0} → (p : A → Bool) (xs : List A) → list_any p (reverse xs) ≡ list_any p xs
any_reverse p [] = refl
any_reverse p (x ∷ xs) =
    ap (list_any p) (reverse-cons x xs)
    ∙ (list_any-append p (reverse xs) (x ∷ [])
    ∙ (ap (λ b. b || list_any p (x ∷ [])) (any_reverse p xs) ∙ turned (list_any p xs) (p x))) where
      turned : (a b : Bool) → (a || (b || false)) ≡ (b || a)
      turned true true = refl
      turned true false = refl
      turned false true = refl
      turned false false = refl

map_map : {A B C : Type 0} → (f : B → C) (g : A → B) (xs : List A) → map f (map g xs) ≡ map (λ x. f (g x)) xs
map_map f g [] = refl
map_map f g (x ∷ xs) = ap (λ ys. f (g x) ∷ ys) (map_map f g xs)

pub filter_map_swap : {A B : Type 0} → (p : B → Bool) (f : A → B) (xs : List A) → filter p (map f xs) ≡ map f (filter (λ x. p (f x)) xs)
filter_map_swap p f [] = refl
filter_map_swap p f (x ∷ xs) = by_test (p (f x))
    (λ yes. rw yes (ap (λ ys. f x ∷ ys) (filter_map_swap p f xs)))
    (λ no. rw no (filter_map_swap p f xs))

map_passing : {A B : Type 0} → (f g : A → B) (p : A → Bool) (xs : List A) → ((x : A) → p x ≡ true → f x ≡ g x)
    → map f (filter p xs) ≡ map g (filter p xs)
map_passing f g p [] e = refl
map_passing f g p (x ∷ xs) e = by_test (p x)
    (λ yes. rw yes (ap (λ y. y ∷ map f (filter p xs)) (e x yes) ∙ ap (λ ys. g x ∷ ys) (map_passing f g p xs e)))
    (λ no. rw no (map_passing f g p xs e))

-- attempts of different occurrences aren't the same
apart : (t x : Tag) (o : ℕ) → (t.occ == o) ≡ false → is_of_occurrence o x ≡ true → same_tag x t ≡ false
apart t x o other own = by_test (same_tag x t)
    (λ same. let is : x ≡ t = same_tag-true x t same in let both : (t.occ == o) ≡ true = subst (λ (y : Tag). (y.occ == o) ≡ true) is own in
    cc)
    (λ no. no)

room_for : (b : Bool) (ps qs : List Pending) → b ≡ true → ps ≡ cond b ps qs
room_for true ps qs e = refl
room_for false ps qs e = cc

pub pendings-begun : (width m : ℕ) (H : List Event) (time : ℕ) (t : Tag) (o : ℕ) → (t.occ == o) ≡ true → width ≤ 4 → IsLegalWithin width m H
    → IsAllowedWithin width m H (Intent t) → pendings (event time (Intent t) ∷ H) o ≡ begun t (pendings H o)
pendings-begun width m H time t o same wide legal allowed =
    let is : t.occ ≡ o = eqb-true t.occ o same in
    let few : length (open_of H o) < width = subst (λ (n : ℕ). length (open_of H n) < width) is allowed.room in
    let long : length (pendings H o) ≡ length (open_of H o) = length-reverse (map (pending_of H) (open_of H o))
    ∙ length-map (open_of H o) (pending_of H) in
    let opened : open_of (event time (Intent t) ∷ H) o ≡ t ∷ open_of H o =
    open_of-begun width m H time t legal allowed o ∙ ap (λ (b : Bool). cond b (t ∷ open_of H o) (open_of H o)) same in
    let fresh : has_call_failed H t ≡ false = fresh_unfailed width m H legal t allowed.number in
    ap (λ (ts : List Tag). reverse (map (pending_of H) ts)) opened
    ∙ (reverse-cons (pending_of H t) (map (pending_of H) (open_of H o))
    ∙ (ap (λ (b : Bool). pendings H o ++ record { tag = t; failed = b } ∷ []) fresh
    ∙ room_for _ _ _ (lt-ltb (length (pendings H o)) 4 (omega (arith, few, long, wide)))))

pub pendings-begun_other : (width m : ℕ) (H : List Event) (time : ℕ) (t : Tag) (o : ℕ) → (t.occ == o) ≡ false → IsLegalWithin width m H
    → IsAllowedWithin width m H (Intent t) → pendings (event time (Intent t) ∷ H) o ≡ pendings H o
pendings-begun_other width m H time t o other legal allowed =
    ap (λ (ts : List Tag). reverse (map (pending_of H) ts))
    (open_of-begun width m H time t legal allowed o ∙ ap (λ (b : Bool). cond b (t ∷ open_of H o) (open_of H o)) other)

pub pendings-failed : (H : List Event) (time : ℕ) (t : Tag) (o : ℕ)
    → pendings (event time (CallFailed t) ∷ H) o ≡ map (failed_by t) (pendings H o)
unfolding is_unsettled
pendings-failed H time t o =
    ap reverse (sym (map_map (failed_by t) (pending_of H) (open_of H o)))
    ∙ sym (map_reverse (failed_by t) (map (pending_of H) (open_of H o)))

pub pendings-failed_other : (H : List Event) (time : ℕ) (t : Tag) (o : ℕ) → (t.occ == o) ≡ false
    → pendings (event time (CallFailed t) ∷ H) o ≡ pendings H o
unfolding is_unsettled
pendings-failed_other H time t o other =
    ap reverse (map_passing (pending_of (event time (CallFailed t) ∷ H)) (pending_of H) (is_of_occurrence o) (open_tags H)
    (λ x own. let no : same_tag x t ≡ false = apart t x o other own in rw no refl))

pub pendings-ended : (H : List Event) (time : ℕ) (t : Tag) (outcome : Outcome) (o : ℕ)
    → pendings (event time (Settled t outcome) ∷ H) o ≡ ended t (pendings H o)
pendings-ended H time t outcome o =
    ap (λ (ts : List Tag). reverse (map (pending_of H) ts)) (open_of-ended H time t outcome o)
    ∙ (ap reverse (sym (filter_map_swap (λ (p : Pending). not (same_tag p.tag t)) (pending_of H) (open_of H o)))
    ∙ sym (filter_reverse (λ (p : Pending). not (same_tag p.tag t)) (map (pending_of H) (open_of H o))))

pub pendings-ended_other : (H : List Event) (time : ℕ) (t : Tag) (outcome : Outcome) (o : ℕ) → (t.occ == o) ≡ false
    → pendings (event time (Settled t outcome) ∷ H) o ≡ pendings H o
pendings-ended_other H time t outcome o other =
    ap (λ (ts : List Tag). reverse (map (pending_of H) ts))
    (open_of-ended H time t outcome o
    ∙ filter_same (is_of_occurrence o) (another t) (open_tags H) (λ x own. not-false (same_tag x t) (apart t x o other own)))

absorbed : (a b : Bool) → (a || (b && a)) ≡ a
absorbed true b = refl
absorbed false true = refl
absorbed false false = refl

any_failed : (H : List Event) (t : Tag) (ts : List Tag)
    → has_failed_among t (map (pending_of H) ts) ≡ (list_any (same_tag t) ts && has_call_failed H t)
any_failed H t [] = refl
any_failed H t (x ∷ ts) = by_test (same_tag t x)
    (λ same.
    let is : t ≡ x = same_tag-true t x same in
    let own : has_call_failed H x ≡ has_call_failed H t = ap (has_call_failed H) (sym is) in
    rw same (ap (λ (b : Bool). has_call_failed H x || b) (any_failed H t ts)
    ∙ (ap (λ (b : Bool). b || (list_any (same_tag t) ts && has_call_failed H t)) own
    ∙ absorbed (has_call_failed H t) (list_any (same_tag t) ts))))
    (λ other. rw other (any_failed H t ts))

-- an open attempt is among those of its row, with what is known of its call
pub known_failed : (H : List Event) (t : Tag) (o : ℕ) → is_open H t ≡ true → (t.occ == o) ≡ true
    → has_call_failed H t ≡ has_failed_among t (pendings H o)
known_failed H t o opened own =
    let among : list_any (same_tag t) (open_of H o) ≡ true =
    any_filter (same_tag t) (is_of_occurrence o) (open_tags H)
    (λ x same. let is : t ≡ x = same_tag-true t x same in subst (λ (y : Tag). is_of_occurrence o y ≡ true) is own) opened in
    sym (any_reverse (λ (p : Pending). same_tag t p.tag && p.failed) (map (pending_of H) (open_of H o))
    ∙ (any_failed H t (open_of H o) ∙ ap (λ (b : Bool). b && has_call_failed H t) among))

is_trouble-known : (H : List Event) (t : Tag) (outcome : Outcome) (o : ℕ) → is_open H t ≡ true → (t.occ == o) ≡ true
    → is_trouble H t outcome ≡ is_trouble_among t outcome (pendings H o)
is_trouble-known H t (Done name) o opened own = refl
is_trouble-known H t (Broken code) o opened own = refl
is_trouble-known H t Aborted o opened own = refl
is_trouble-known H t NotBegun o opened own = known_failed H t o opened own

pub trouble-settled : (H : List Event) (t : Tag) (outcome : Outcome) (o : ℕ) → is_open H t ≡ true → (t.occ == o) ≡ true
    → (troubles H o (Settled t outcome) || has_trouble H o) ≡ (is_trouble_among t outcome (pendings H o) || has_trouble H o)
trouble-settled H t outcome o opened own = rw own (ap (λ (b : Bool). b || has_trouble H o) (is_trouble-known H t outcome o opened own))

pub trouble-settled_other : (H : List Event) (t : Tag) (outcome : Outcome) (o : ℕ) → (t.occ == o) ≡ false
    → (troubles H o (Settled t outcome) || has_trouble H o) ≡ has_trouble H o
trouble-settled_other H t outcome o other = rw other refl
