-- What each event makes of the rows, and what is found among them.
use Rattle.std.proofs.Common.{◌≡◌, ◌++◌, ◌==◌, ◌&&◌, ◌∙◌, ℕ, List, [], ◌∷◌, Bool, false, not, Option, None, Some, refl, ap, sym, subst, map}
use Rattle.std.proofs.Common.{filter, find, reverse, option_map, arith, length, cond, true, max, nat_le, eq-eqb, ◌||◌, ◌<◌, ◌+◌, eqb-true}
use Rattle.std.proofs.Common.{inl, inr, is_some}
use Rattle.std.specs.Option.{option_map_or}
use Rattle.std.specs.Prelude.{option_and_then, slice_get}
use mathlib.Core.List.{reverse-cons}
use Rattle.lcm_events.specs.Same.{same_name, same_verb}
use Rattle.lcm_laws.proofs.StandLaws.{same_name-true}
use Rattle.lcm_events.specs.declared.descriptor.Vnfd.{Vnfd}
use Rattle.lcm_events.specs.declared.events.Event.{Event}
use Rattle.lcm_events.specs.declared.events.EventKind.{EventKind}
use Rattle.lcm_events.specs.declared.events.EventKind.TheVariants.{Asked, Created, Deleted, Granted, Moved, Onboarded, Posted, Settled}
use Rattle.lcm_events.specs.declared.events.EventKind.TheVariants.{Subscribed, Unsubscribed}
use Rattle.lcm_events.specs.declared.events.PostOutcome.{PostOutcome}
use Rattle.lcm_events.specs.declared.places.Place.{Place}
use Rattle.lcm_events.specs.declared.filters.Filter.{Filter}
use Rattle.lcm_events.specs.declared.states.Role.{Role}
use Rattle.lcm_model.specs.Allowed.{IsAllowedWithin, IsLegalWithin}
use Rattle.lcm_model.specs.Lives.{CreatedInstance, Subscription, creation, creations, descriptor, descriptor_named, descriptors, is_deleted}
use Rattle.lcm_model.specs.Lives.{is_kept, is_live, is_unsubscribed, live_instances, subscriptions, subscriptions_made}
use Rattle.lcm_model.specs.Notices.{is_delivered, posts}
use Rattle.instance_table.proofs.DeliveryLaws.{cursor-other, cursor-posted, never_posted, tries-other, tries-posted}
use Rattle.lcm_events.specs.declared.events.Operation.{Operation}
use Rattle.lcm_events.specs.declared.states.OpState.{OpState}
use Rattle.lcm_model.specs.Instances.{holding, levels}
use Rattle.lcm_model.specs.Levels.{target}
use Rattle.lcm_model.specs.Moves.{is_final}
use Rattle.lcm_model.specs.Operations.{goes_on, operation, operations}
use Rattle.lcm_laws.proofs.HoldLaws.{moved_from, some_value}
use Rattle.instance_table.specs.declared.going.Going.{Going}
use Rattle.instance_table.specs.declared.going.Placing.{Placing}
use Rattle.instance_table.proofs.TopLaws.{named_of}
use Rattle.instance_table.proofs.HoldingSteps.{leaves_holdings, not_ended, row-asked, row-done, row-idle, row-moved, row-new, row-stays}
use Rattle.instance_table.proofs.LevelLaws.{levels_long, planned_descriptor}
use Rattle.instance_table.proofs.GoingLaws.{all_kept, going-asked, going-ended, going-found, going-moved, granted_one, kept_after, map_in}
use Rattle.instance_table.proofs.GoingLaws.{place_kept}
use Rattle.lcm_model.specs.Words.{IsIn, otherwise, when}
use Rattle.lcm_laws.proofs.Histories.{event, legal_induction}
use Rattle.lcm_laws.proofs.Lists.{and_left, by_test}
use Rattle.lcm_laws.proofs.Members.{in_either, of_filter, of_map}
use Rattle.lcm_laws.proofs.PlannedLaws.{plan_fits}
use Rattle.lcm_laws.proofs.PlanHistory.{descriptor_valid, found_in}
use Rattle.lcm_laws.proofs.SettledLaws.{find-own, found_number, open_operation}
use Rattle.held_items.specs.Following.{items}
use Rattle.held_items.specs.Items.{AreInOrder}
use Rattle.held_items.proofs.ItemLaws.{items_in_order, places_told}
use Rattle.lcm_events.proofs.SameLaws.{same_verb-true}
use Rattle.lcm_events.specs.declared.attempts.Outcome.TheVariants.{Done}
use Rattle.lcm_events.specs.declared.attempts.Tag.{Tag}
use Rattle.lcm_events.specs.declared.changes.Change.{Change}
use Rattle.lcm_events.specs.declared.changes.Verb.TheVariants.{Create, Remove}
use Rattle.lcm_model.specs.Holding.{effect_in, stands}
use Rattle.instance_table.specs.declared.work.Work.{Work}
use Rattle.lcm_laws.proofs.NumberLaws.{IsCounted, instances_counted, operations_counted, subscriptions_counted}
use Rattle.instance_table.specs.Rows.{Rows, StandsFor, aim, continued, going, going_of, instance, instance_row, instance_rows, is_continued}
use Rattle.instance_table.specs.Rows.{row_with, rows, stood_at, subscription_at, subscription_row, subscription_rows, tries_past, unheld}
use Rattle.instance_table.specs.Steps.{AreOrdered, Rises, after_post, after_work, aim_at, aim_from, asked, begun, end_of, ended, placed}
use Rattle.instance_table.specs.Steps.{finished, first_aim, first_instance, first_stood, first_subscription, place_by, stood_in, work_done}
use Rattle.instance_table.specs.Steps.{work_in, work_of, worked, next_place, posted, rows_after, without_instance, without_subscription}
use Rattle.instance_table.specs.declared.rows.InstanceRow.{InstanceRow}
use Rattle.instance_table.specs.declared.rows.SubscriptionRow.{SubscriptionRow}
use Rattle.instance_table.proofs.LiveLaws.{deleted_made, ended_made, false_by, fewer, find-filter, find-map, flip, if_there, one_more}
use Rattle.instance_table.proofs.LiveLaws.{without-not}
use Rattle.instance_table.proofs.Sorted.{falls-counted, falls-filter, falls-map, find-end, find-reverse, rises-reverse}

map_both_in : {A B : Type 0} → (f g : A → B) (h : B → B) (xs : List A) → ((x : A) → IsIn x xs → g x ≡ h (f x)) → map g xs ≡ map h (map f xs)
map_both_in f g h [] e = refl
map_both_in f g h (x ∷ xs) e = ap (λ y. y ∷ map g xs) (e x (inl refl))
    ∙ ap (λ ys. h (f x) ∷ ys) (map_both_in f g h xs (λ y among. e y (inr among)))

-- rows that stay
rows-stay : (width m : ℕ) (H : List Event) (time : ℕ) (k : EventKind) (p : CreatedInstance → Bool) → IsLegalWithin width m H
    → IsAllowedWithin width m H k → leaves_holdings k ≡ true
    → map (instance_row (event time k ∷ H)) (filter p (creations H)) ≡ map (instance_row H) (filter p (creations H))
rows-stay width m H time k p legal allowed e =
    map_in (instance_row (event time k ∷ H)) (instance_row H) (filter p (creations H))
    (λ x among. row-stays width m H time k x legal allowed e (of_filter p x (creations H) among).0)

-- a new instance is last
created-step : (width m : ℕ) (H : List Event) (time i : ℕ) (vnfd : List ℕ) (name text : Option (List ℕ)) → IsLegalWithin width m H
    → IsAllowedWithin width m H (Created i vnfd name text)
    → instance_rows (event time (Created i vnfd name text) ∷ H) ≡ instance_rows H
    ++ first_instance (descriptor_named H vnfd) i vnfd name text ∷ []
unfolding is_kept
created-step width m H time i vnfd name text legal allowed =
    let none : is_deleted H i ≡ false = false_by (is_deleted H i) (λ gone. let made = deleted_made width m H legal i gone in
    omega (arith, made, allowed.number)) in
    let k : EventKind = Created i vnfd name text in
    one_more (instance_row (event time k ∷ H)) (is_kept H) (record { instance = i; vnfd = vnfd; name = name; text = text }) (creations H)
    (ap not none)
    ∙ (ap (λ (rs : List InstanceRow). reverse rs ++ instance_row (event time k ∷ H)
    (record { instance = i; vnfd = vnfd; name = name; text = text }) ∷ []) (rows-stay width m H time k (is_kept H) legal allowed refl)
    ∙ ap (λ (r : InstanceRow). instance_rows H ++ r ∷ []) (row-new width m H time i vnfd name text legal allowed))

-- a deleted instance is gone
deleted-step : (width m : ℕ) (H : List Event) (time i : ℕ) → IsLegalWithin width m H → IsAllowedWithin width m H (Deleted i)
    → instance_rows (event time (Deleted i) ∷ H) ≡ without_instance i (instance_rows H)
unfolding is_kept
deleted-step width m H time i legal allowed =
    ap reverse (rows-stay width m H time (Deleted i) (is_kept (event time (Deleted i) ∷ H)) legal allowed refl)
    ∙ fewer (instance_row H) (λ r. not (r.number == i)) (is_kept H) (is_kept (event time (Deleted i) ∷ H)) (creations H)
    (λ x. without-not (i == x.instance) (is_deleted H x.instance) ∙ ap (λ (b : Bool). not b && not (is_deleted H x.instance))
    (flip i x.instance))

-- rows that differ in how far notices were delivered alone
with_delivery : (r : SubscriptionRow) (a b c d i j : ℕ) → a ≡ b → c ≡ d → i ≡ j
    → record r { from = a; cursor = c; tries = i } ≡ record r { from = b; cursor = d; tries = j }
with_delivery r a b c d i j e f g =
    ap (λ (n : ℕ). record r { from = n; cursor = c; tries = i }) e
    ∙ (ap (λ (n : ℕ). record r { from = b; cursor = n; tries = i }) f ∙ ap (λ (n : ℕ). record r { from = b; cursor = d; tries = n }) g)

-- a subscription that was made before another
older_row : (H : List Event) (time s : ℕ) (role : Role) (callback : List ℕ) (filter : Filter) (x : Subscription) → (s == x.number) ≡ false
    → subscription_row (event time (Subscribed s role callback filter) ∷ H) x ≡ subscription_row H x
older_row H time s role callback filter x other = rw other refl

older_rows : (H : List Event) (time s : ℕ) (role : Role) (callback : List ℕ) (f : Filter) (p : Subscription → Bool) (xs : List Subscription)
    → IsCounted (λ x. x.number) xs → length xs < s
    → map (subscription_row (event time (Subscribed s role callback f) ∷ H)) (filter p xs) ≡ map (subscription_row H) (filter p xs)
older_rows H time s role callback f p [] counted less = refl
older_rows H time s role callback f p (x ∷ xs) counted less =
    let number = counted.0 in
    let other : (s == x.number) ≡ false = false_by (s == x.number)
    (λ same. let is : s ≡ x.number = eqb-true s x.number same in omega (arith, is, number, less)) in
    let rest = older_rows H time s role callback f p xs counted.1 (omega (arith, less)) in
    by_test (p x)
    (λ passes. rw passes (ap (λ (r : SubscriptionRow). r ∷ map (subscription_row (event time (Subscribed s role callback f) ∷ H))
    (filter p xs)) (older_row H time s role callback f x other)
    ∙ ap (λ (rs : List SubscriptionRow). subscription_row H x ∷ rs) rest))
    (λ fails. rw fails rest)

new_row : (width m : ℕ) (H : List Event) (time s : ℕ) (role : Role) (callback : List ℕ) (f : Filter) → IsLegalWithin width m H
    → s ≡ subscriptions_made H + 1
    → subscription_row (event time (Subscribed s role callback f) ∷ H) (record { number = s; role = role; callback = callback; filter = f })
    ≡ first_subscription (length H + 1) s role callback f
new_row width m H time s role callback f legal number =
    let own : (s == s) ≡ true = eq-eqb s s refl in
    let none : posts H s ≡ [] = never_posted width m H legal s (omega (arith, number)) in
    let most : max (length H + 1) 0 ≡ length H + 1 = omega arith in
    rw (own, none, most) refl

-- a new subscription is last
subscribed-step : (width m : ℕ) (H : List Event) (time s : ℕ) (role : Role) (callback : List ℕ) (filter : Filter) → IsLegalWithin width m H
    → IsAllowedWithin width m H (Subscribed s role callback filter)
    → subscription_rows (event time (Subscribed s role callback filter) ∷ H)
    ≡ subscription_rows H ++ first_subscription (length H + 1) s role callback filter ∷ []
unfolding is_continued
subscribed-step width m H time s role callback filter legal allowed =
    let after = event time (Subscribed s role callback filter) ∷ H in
    let none : is_unsubscribed H s ≡ false = false_by (is_unsubscribed H s)
    (λ gone. let made = ended_made width m H legal s gone in omega (arith, made, allowed.number)) in
    one_more (subscription_row after) (is_continued H) (record { number = s; role = role; callback = callback; filter = filter })
    (subscriptions H) (ap not none)
    ∙ (ap (λ (rs : List SubscriptionRow). reverse rs ++ subscription_row after
    (record { number = s; role = role; callback = callback; filter = filter }) ∷ [])
    (older_rows H time s role callback filter (is_continued H) (subscriptions H) (subscriptions_counted width m H legal)
    (omega (arith, allowed.number)))
    ∙ ap (λ (r : SubscriptionRow). subscription_rows H ++ r ∷ []) (new_row width m H time s role callback filter legal allowed.number))

posted_own : (b : Bool) (r : SubscriptionRow) (place : ℕ) → record r { cursor = cond b place r.cursor; tries = cond b 0 (r.tries + 1) }
    ≡ cond b (record r { cursor = place; tries = 0 }) (record r { tries = r.tries + 1 })
posted_own true r place = refl
posted_own false r place = refl

posted_row : (width m : ℕ) (H : List Event) (time s place : ℕ) (outcome : PostOutcome) (x : Subscription) → IsLegalWithin width m H
    → IsAllowedWithin width m H (Posted s place outcome)
    → subscription_row (event time (Posted s place outcome) ∷ H) x ≡ posted s place outcome (subscription_row H x)
posted_row width m H time s place outcome x legal allowed = by_test (s == x.number)
    (λ same.
    let turned : (x.number == s) ≡ true = flip x.number s ∙ same in
    with_delivery (subscription_row H x) _ _ _ _ _ _ refl (cursor-posted width m H time s place x.number outcome legal allowed same)
    (tries-posted width m H time s place x.number outcome legal allowed same)
    ∙ (posted_own (is_delivered outcome || nat_le 4 (tries_past H x.number)) (subscription_row H x) place
    ∙ ap (λ (b : Bool). cond b (after_post place outcome (subscription_row H x)) (subscription_row H x)) (sym turned)))
    (λ other.
    let turned : (x.number == s) ≡ false = flip x.number s ∙ other in
    with_delivery (subscription_row H x) _ _ _ _ _ _ refl (cursor-other H time s place x.number outcome other)
    (tries-other H time s place x.number outcome other)
    ∙ ap (λ (b : Bool). cond b (after_post place outcome (subscription_row H x)) (subscription_row H x)) (sym turned))

map_reverse : {A B : Type 0} → (f : A → B) (xs : List A) → reverse (map f xs) ≡ map f (reverse xs)
map_reverse f [] = refl
map_reverse f (x ∷ xs) =
    reverse-cons (f x) (map f xs) ∙ (ap (λ ys. ys ++ f x ∷ []) (map_reverse f xs)
    ∙ (sym (map_end f (reverse xs) x) ∙ ap (map f) (sym (reverse-cons x xs)))) where
      map_end : {A B : Type 0} → (f : A → B) (xs : List A) (y : A) → map f (xs ++ y ∷ []) ≡ map f xs ++ f y ∷ []
      map_end f [] y = refl
      map_end f (x ∷ xs) y = ap (λ ys. f x ∷ ys) (map_end f xs y)

map_both : {A B : Type 0} → (f g : A → B) (h : B → B) (xs : List A) → ((x : A) → g x ≡ h (f x)) → map g xs ≡ map h (map f xs)
map_both f g h [] e = refl
map_both f g h (x ∷ xs) e = ap (λ y. y ∷ map g xs) (e x) ∙ ap (λ ys. h (f x) ∷ ys) (map_both f g h xs e)

-- rows that follow an event alike
rows-follow : (width m : ℕ) (H : List Event) (time : ℕ) (k : EventKind) (h : InstanceRow → InstanceRow)
    → ((x : CreatedInstance) → IsIn x (creations H) → instance_row (event time k ∷ H) x ≡ h (instance_row H x))
    → reverse (map (instance_row (event time k ∷ H)) (live_instances H)) ≡ map h (instance_rows H)
unfolding is_kept
rows-follow width m H time k h f =
    ap reverse (map_both_in (instance_row H) (instance_row (event time k ∷ H)) h (live_instances H)
    (λ x among. f x (of_filter (is_kept H) x (creations H) among).0))
    ∙ map_reverse h (map (instance_row H) (live_instances H))

-- an ask changes the row of its instance alone
asked-step : (width m : ℕ) (H : List Event) (time : ℕ) (a : Operation) → IsLegalWithin width m H → IsAllowedWithin width m H (Asked a)
    → instance_rows (event time (Asked a) ∷ H) ≡ map (asked a.instance a.changes) (instance_rows H)
unfolding is_kept
asked-step width m H time a legal allowed =
    rows-follow width m H time (Asked a) (asked a.instance a.changes) (λ x among. row-asked width m H time a x legal allowed among)

-- an end changes the row of its instance alone
ended-step : (width m : ℕ) (H : List Event) (time o : ℕ) (to : OpState) (a : Operation) → IsLegalWithin width m H
    → IsAllowedWithin width m H (Moved o to) → operation H o ≡ Some a
    → instance_rows (event time (Moved o to) ∷ H) ≡ map (ended a.instance (end_of to (going_of H a)) (aim H a)) (instance_rows H)
unfolding is_kept
ended-step width m H time o to a legal allowed e =
    rows-follow width m H time (Moved o to) (ended a.instance (end_of to (going_of H a)) (aim H a))
    (λ x among. row-moved width m H time o to a x legal allowed e among)

-- a move that ends nothing changes no row of an instance
moved-step : (width m : ℕ) (H : List Event) (time o : ℕ) (to : OpState) (a : Operation) → IsLegalWithin width m H
    → IsAllowedWithin width m H (Moved o to) → operation H o ≡ Some a
    → is_final to ≡ false → instance_rows (event time (Moved o to) ∷ H) ≡ instance_rows H
unfolding is_kept
moved-step width m H time o to a legal allowed e more =
    ap reverse (map_in (instance_row (event time (Moved o to) ∷ H)) (instance_row H) (live_instances H)
    (λ x among. row-moved width m H time o to a x legal allowed e (of_filter (is_kept H) x (creations H) among).0
    ∙ not_ended (going_of H a) to a.instance (aim H a) (instance_row H x) more))

effect-none : (H : List Event) (t : Tag) (name : List ℕ) (a : Operation) → operation H t.occ ≡ Some a → slice_get a.changes t.change ≡ None
    → effect_in H (Settled t (Done name)) ≡ None
unfolding effect_in
effect-none H t name a found none = rw (found, none) refl

-- an attempt that is done changes what stands of its instance alone
done-step : (width m : ℕ) (H : List Event) (time : ℕ) (t : Tag) (name : List ℕ) → IsLegalWithin width m H
    → IsAllowedWithin width m H (Settled t (Done name))
    → record (rows H) { instances = instance_rows (event time (Settled t (Done name)) ∷ H) } ≡ worked (work_done t name (rows H)) (rows H)
unfolding is_kept
done-step width m H time t name legal allowed =
    let mine = open_operation width m H t legal allowed in
    let a : Operation = mine.0 in
    let found : find (λ g. g.occ == t.occ) (going H) ≡ Some (going_of H a) = going-found width m H t.occ a legal mine.2 mine.1 in
    let does : work_done t name (rows H) ≡ work_in t name (going_of H a) = ap (option_and_then (work_in t name)) found in
    by_change a (slice_get a.changes t.change) mine.1 refl ∙ ap (λ (w : Option Work). worked w (rows H)) (sym does) where
      by_change : (a : Operation) (k : Option Change) → operation H t.occ ≡ Some a → slice_get a.changes t.change ≡ k
          → record (rows H) { instances = instance_rows (event time (Settled t (Done name)) ∷ H) }
          ≡ worked (work_in t name (going_of H a)) (rows H)
      by_change a None is change =
          let none : effect_in H (Settled t (Done name)) ≡ None = effect-none H t name a is change in
          ap (λ (rs : List InstanceRow). record (rows H) { instances = reverse rs })
          (map_in (instance_row (event time (Settled t (Done name)) ∷ H)) (instance_row H) (live_instances H)
          (λ x among. row-idle width m H time t name x legal allowed none (of_filter (is_kept H) x (creations H) among).0))
          ∙ ap (λ (y : Option Change). worked (option_map (work_of t name (going_of H a)) y) (rows H)) (sym change)
      by_change a (Some k) is change =
          let at : a.occ ≡ t.occ = found_number (λ x. x.occ) (operations H) t.occ a is in
          ap (λ (rs : List InstanceRow). record (rows H) { instances = rs })
          (rows-follow width m H time (Settled t (Done name)) (after_work (work_of t name (going_of H a) k))
          (λ x among. row-done width m H time t name a k (place_by t (going_of H a)) x legal allowed is change
          (λ makes. place_kept H t t.way a k is at change makes) among))
          ∙ ap (λ (y : Option Change). worked (option_map (work_of t name (going_of H a)) y) (rows H)) (sym change)

-- a post changes the row of its subscription alone
posted-step : (width m : ℕ) (H : List Event) (time s place : ℕ) (outcome : PostOutcome) → IsLegalWithin width m H
    → IsAllowedWithin width m H (Posted s place outcome)
    → subscription_rows (event time (Posted s place outcome) ∷ H) ≡ map (posted s place outcome) (subscription_rows H)
unfolding is_continued
posted-step width m H time s place outcome legal allowed =
    ap reverse (map_both (subscription_row H) (subscription_row (event time (Posted s place outcome) ∷ H)) (posted s place outcome)
    (continued H)
    (λ x. posted_row width m H time s place outcome x legal allowed))
    ∙ map_reverse (posted s place outcome) (map (subscription_row H) (continued H))

-- an ended subscription is gone
unsubscribed-step : (H : List Event) (time s : ℕ) → subscription_rows (event time (Unsubscribed s) ∷ H)
    ≡ without_subscription s (subscription_rows H)
unfolding is_continued
unsubscribed-step H time s =
    fewer (subscription_row H) (λ r. not (r.number == s)) (is_continued H) (is_continued (event time (Unsubscribed s) ∷ H))
    (subscriptions H)
    (λ x. without-not (s == x.number) (is_unsubscribed H x.number)
    ∙ ap (λ (b : Bool). not b && not (is_unsubscribed H x.number)) (flip s x.number))

vnfd_step : (width m : ℕ) (H : List Event) (time : ℕ) (k : EventKind) (id : List ℕ) → IsAllowedWithin width m H k
    → find (λ d. same_name d.descriptor_id id) (reverse (descriptors H)) ≡ descriptor_named H id
    → find (λ d. same_name d.descriptor_id id) (reverse (descriptors (event time k ∷ H))) ≡ descriptor_named (event time k ∷ H) id
vnfd_step width m H time (Onboarded d) id allowed h =
    let p : Vnfd → Bool = λ d. same_name d.descriptor_id id in
    ap (find p) (reverse-cons d (descriptors H))
    ∙ (find-end p (reverse (descriptors H)) d
    ∙ (ap (λ (y : Option Vnfd). otherwise y (when (p d) d)) h
    ∙ by_test (same_name d.descriptor_id id)
    (λ same.
    let is : d.descriptor_id ≡ id = same_name-true d.descriptor_id id same in
    let none : descriptor_named H id ≡ None = subst (λ (n : List ℕ). descriptor_named H n ≡ None) is allowed.unknown in
    rw (same, none) refl)
    (λ other. rw other (or_none (descriptor_named H id))))) where
      or_none : (y : Option Vnfd) → otherwise y None ≡ y
      or_none None = refl
      or_none (Some y) = refl
vnfd_step width m H time _ id allowed h = h

-- a descriptor is found from either end
pub vnfd_found : (width m : ℕ) (H : List Event) (id : List ℕ) → IsLegalWithin width m H
    → find (λ d. same_name d.descriptor_id id) (reverse (descriptors H)) ≡ descriptor_named H id
vnfd_found width m H id legal =
    legal_induction width m (λ H. find (λ d. same_name d.descriptor_id id) (reverse (descriptors H)) ≡ descriptor_named H id) refl
    (λ H time k legal allowed h. vnfd_step width m H time k id allowed h) H legal

-- rows that are alike in all parts are one
rows_by : (a b : Rows) → a.descriptors ≡ b.descriptors → a.instances ≡ b.instances → a.subscriptions ≡ b.subscriptions → a.going ≡ b.going
    → a.instances_made ≡ b.instances_made → a.subscriptions_made ≡ b.subscriptions_made → a.events ≡ b.events → a ≡ b
rows_by a b e f g h i j k =
    ap (λ (z : List Vnfd). record a { descriptors = z }) e
    ∙ (ap (λ (z : List InstanceRow). record a { descriptors = b.descriptors; instances = z }) f
    ∙ (ap (λ (z : List SubscriptionRow). record a { descriptors = b.descriptors; instances = b.instances; subscriptions = z }) g
    ∙ (ap (λ (z : List Going). record b {
      going = z;
      instances_made = a.instances_made;
      subscriptions_made = a.subscriptions_made;
      events =
          a.events;
    }) h
    ∙ (ap (λ (n : ℕ). record b { instances_made = n; subscriptions_made = a.subscriptions_made; events = a.events }) i
    ∙ (ap (λ (n : ℕ). record b { subscriptions_made = n; events = a.events }) j ∙ ap (λ (n : ℕ). record b { events = n }) k)))))

-- what is found is the instance of this number
pub instance_found : (width m : ℕ) (H : List Event) (rs : Rows) (i : ℕ) (x : Option InstanceRow) → IsLegalWithin width m H → StandsFor rs H
    → (Rises (λ r. r.number) rs.instances → x ≡ find (λ r. r.number == i) rs.instances) → x ≡ instance H i
unfolding is_kept
instance_found width m H rs i x legal stands is_found =
    let g : CreatedInstance → InstanceRow = instance_row H in
    let falls = falls-filter (λ x. x.instance) (is_kept H) (creations H)
    (falls-counted (λ x. x.instance) (creations H) (instances_counted width m H legal)) in
    let is : rs.instances ≡ instance_rows H = ap (λ (r : Rows). r.instances) stands in
    let f : InstanceRow → ℕ = λ r. r.number in
    let mapped = falls-map f g (live_instances H) falls in
    is_found (subst (λ (ys : List InstanceRow). Rises f ys) (sym is) (rises-reverse f (map g (live_instances H)) mapped))
    ∙ (ap (λ (ys : List InstanceRow). find (λ r. r.number == i) ys) is
    ∙ (find-reverse f i (map g (live_instances H)) mapped
    ∙ (find-map f g i (live_instances H)
    ∙ (ap (option_map g) (find-filter (λ x. x.instance) (is_kept H) i (creations H) (not (is_deleted H i))
    (λ x e. ap (λ (n : ℕ). not (is_deleted H n)) e))
    ∙ if_there g (find (λ x. x.instance == i) (creations H)) (not (is_deleted H i))))))

-- the row of the instance of an operation that may be asked for
record AskedRow (H : List Event) (a : Operation) : Type 0 where
  d : Vnfd
  x : CreatedInstance
  described : descriptor H a.instance ≡ Some d
  vnfd : descriptor_named H x.vnfd ≡ Some d
  row : find (λ r. r.number == a.instance) (instance_rows H) ≡ Some (row_with x (holding d H a.instance))

asked_row : (width m : ℕ) (H : List Event) (a : Operation) → IsLegalWithin width m H → IsAllowedWithin width m H (Asked a) → AskedRow H a
asked_row width m H a legal allowed =
    let there = and_left (is_some (creation H a.instance)) (not (is_deleted H a.instance)) allowed.live in
    let made = some_value (creation H a.instance) there in
    let x : CreatedInstance = made.0 in
    let own = planned_descriptor H a (descriptor H a.instance) refl allowed.planned in
    let named : descriptor_named H x.vnfd ≡ Some own.0 = ap (λ (c : Option CreatedInstance).
    option_and_then (λ c. descriptor_named H c.vnfd) c) (sym made.1) ∙ own.1 in
    let number : x.instance ≡ a.instance = found_number (λ x. x.instance) (creations H) a.instance x made.1 in
    record {
      d = own.0;
      x = x;
      described = own.1;
      vnfd = named;
      row =
          instance_found width m H (rows H) a.instance (find (λ r. r.number == a.instance) (instance_rows H)) legal refl (λ rises. refl)
          ∙ (ap (λ (b : Bool). cond b (option_map (instance_row H) (creation H a.instance)) None) allowed.live
          ∙ (ap (option_map (instance_row H)) made.1
          ∙ (ap (λ (y : Option Vnfd). Some (row_with x (option_map_or (λ d. holding d H x.instance) y unheld))) named
          ∙ ap (λ (i : ℕ). Some (row_with x (holding own.0 H i))) number)));
    }

-- the levels that an operation aims at, from the rows when it is asked for
aim-asked : (width m : ℕ) (H : List Event) (a : Operation) → IsLegalWithin width m H → IsAllowedWithin width m H (Asked a)
    → first_aim (rows H) a ≡ aim H a
aim-asked width m H a legal allowed =
    let of : AskedRow H a = asked_row width m H a legal allowed in
    let d : Vnfd = of.d in
    let long : (length (levels d H a.instance) == length d.aspects) ≡ true =
    eq-eqb (length (levels d H a.instance)) (length d.aspects) (levels_long d H a.instance
    (descriptor_valid width m H a.instance d legal of.described)) in
    ap (λ (r : Option InstanceRow). option_map_or (aim_at (reverse (descriptors H)) a.ask) r []) of.row
    ∙ (ap (λ (y : Option Vnfd). option_map_or (λ c. aim_from c (levels d H a.instance) a.ask) y [])
    (vnfd_found width m H of.x.vnfd legal ∙ of.vnfd)
    ∙ (ap (λ (b : Bool). cond b (target d (levels d H a.instance) a.ask) []) long
    ∙ sym (ap (λ (y : Option Vnfd). option_map_or (λ d. target d (levels d H a.instance) a.ask) y []) of.described)))

-- where what an operation removes stands, from the rows when it is asked for
stood-asked : (width m : ℕ) (H : List Event) (a : Operation) → IsLegalWithin width m H → IsAllowedWithin width m H (Asked a)
    → first_stood (rows H) a ≡ map (stood_at H a.instance) a.changes
stood-asked width m H a legal allowed =
    let of : AskedRow H a = asked_row width m H a legal allowed in
    let i = a.instance in
    ap (λ (r : Option InstanceRow). option_map_or (λ r. map (stood_in r.holding.items) a.changes) r []) of.row
    ∙ map_in (stood_in (items of.d H i)) (stood_at H i) a.changes
    (λ k has. by_test (same_verb k.verb Remove)
    (λ removes.
    let is : k.verb ≡ Remove = same_verb-true k.verb Remove removes in
    let stood : stands H i k.def ≡ true = (plan_fits width m H a legal allowed k has).others
    (λ create. let clash : Remove ≡ Create = sym is ∙ create in cc) in
    rw removes (places_told width m H legal i of.d of.described k.def stood))
    (λ other. rw other refl))

-- a grant is kept with its operation alone
granted-step : (width m : ℕ) (H : List Event) (time o : ℕ) (name : List ℕ) (places : List Place) (spots : List ℕ) → IsLegalWithin width m H
    → IsAllowedWithin width m H (Granted o name places spots)
    → going (event time (Granted o name places spots) ∷ H) ≡ map (placed o (record { places = places; spots = spots })) (going H)
unfolding goes_on
granted-step width m H time o name places spots legal allowed =
    let p : Placing = record { places = places; spots = spots } in
    all_kept width m H time (Granted o name places spots) legal allowed
    ∙ (ap reverse (map_both (going_of H) (kept_after (event time (Granted o name places spots) ∷ H) H) (placed o p)
    (filter (goes_on H) (operations H)) (λ x. granted_one H time o name places spots x))
    ∙ map_reverse (placed o p) (map (going_of H) (filter (goes_on H) (operations H))))

-- what an event makes of the rows
pub rows-step : (width m : ℕ) (H : List Event) (time : ℕ) (k : EventKind) → length H < 18446744073709551615 → IsLegalWithin width m H
    → IsAllowedWithin width m H k
    → rows (event time k ∷ H) ≡ rows_after k (rows H)
unfolding is_kept is_continued goes_on
rows-step width m H time (Onboarded d) short legal allowed =
    rows_by _ _ (reverse-cons d (descriptors H)) (ap reverse (rows-stay width m H time (Onboarded d) (is_kept H) legal allowed refl)) refl
    (all_kept width m H time (Onboarded d) legal allowed) refl refl (omega (arith, short))
rows-step width m H time (Created i vnfd name text) short legal allowed =
    rows_by _ _ refl
    (created-step width m H time i vnfd name text legal allowed ∙ ap
    (λ (d : Option Vnfd). instance_rows H ++ first_instance d i vnfd name text ∷ []) (sym (vnfd_found width m H vnfd legal)))
    refl (all_kept width m H time (Created i vnfd name text) legal allowed) (omega (arith, allowed.number)) refl (omega (arith, short))
rows-step width m H time (Deleted i) short legal allowed = rows_by _ _ refl (deleted-step width m H time i legal allowed) refl
    (all_kept width m H time (Deleted i) legal allowed) refl refl (omega (arith, short))
rows-step width m H time (Subscribed s role callback filter) short legal allowed =
    let place : length H + 1 ≡ next_place (length H) = omega (arith, short) in
    rows_by _ _ refl (ap reverse (rows-stay width m H time (Subscribed s role callback filter) (is_kept H) legal allowed refl))
    (subscribed-step width m H time s role callback filter legal allowed
    ∙ ap (λ (n : ℕ). subscription_rows H ++ first_subscription n s role callback filter ∷ []) place)
    (all_kept width m H time (Subscribed s role callback filter) legal allowed) refl (omega (arith, allowed.number)) (omega (arith, short))
rows-step width m H time (Unsubscribed s) short legal allowed =
    rows_by _ _ refl (ap reverse (rows-stay width m H time (Unsubscribed s) (is_kept H) legal allowed refl)) (unsubscribed-step H time s)
    (all_kept width m H time (Unsubscribed s) legal allowed) refl refl (omega (arith, short))
rows-step width m H time (Posted s place outcome) short legal allowed =
    rows_by _ _ refl (ap reverse (rows-stay width m H time (Posted s place outcome) (is_kept H) legal allowed refl))
    (posted-step width m H time s place outcome legal allowed)
    (all_kept width m H time (Posted s place outcome) legal allowed) refl refl (omega (arith, short))
rows-step width m H time (Asked a) short legal allowed =
    rows_by _ _ refl (asked-step width m H time a legal allowed) refl
    (going-asked width m H time a legal allowed
    ∙ (ap (λ (ns : List ℕ). going H ++ begun a ns (map (stood_at H a.instance) a.changes) ∷ []) (sym (aim-asked width m H a legal allowed))
    ∙ ap (λ (ps : List (Option Place)). going H ++ begun a (first_aim (rows H) a) ps ∷ []) (sym (stood-asked width m H a legal allowed))))
    refl refl (omega (arith, short))
rows-step width m H time (Granted o name places spots) short legal allowed =
    rows_by _ _ refl (ap reverse (rows-stay width m H time (Granted o name places spots) (is_kept H) legal allowed refl)) refl
    (granted-step width m H time o name places spots legal allowed) refl refl (omega (arith, short))
rows-step width m H time (Settled t (Done name)) short legal allowed =
    rows_by _ (record (record (rows H) { instances = instance_rows (event time (Settled t (Done name)) ∷ H) })
    { events = next_place (length H) }) refl refl refl
    (all_kept width m H time (Settled t (Done name)) legal allowed) refl refl (omega (arith, short))
    ∙ (ap (λ (rs : Rows). record rs { events = next_place (length H) }) (done-step width m H time t name legal allowed)
    ∙ ap (λ (n : ℕ). record (worked (work_done t name (rows H)) (rows H)) { events = next_place n })
    (sym (worked_events (work_done t name (rows H)) (rows H)))) where
      worked_events : (w : Option Work) (rs : Rows) → (worked w rs).events ≡ rs.events
      worked_events None rs = refl
      worked_events (Some w) rs = refl
rows-step width m H time (Moved o to) short legal allowed =
    let found = some_value (operation H o) allowed.0 in
    by_test (is_final to)
    (λ last.
    rows_by _ (record (finished o to (Some (going_of H found.0)) (rows H)) { events = next_place (length H) }) refl
    (ended-step width m H time o to found.0 legal allowed found.1) refl
    (going-ended width m H time o to legal allowed last) refl refl (omega (arith, short))
    ∙ (ap (λ (g : Option Going). record (finished o to g (rows H)) { events = next_place (length H) })
    (sym (going-found width m H o found.0 legal (moved_from H o to allowed.1) found.1))
    ∙ end_is o to (rows H) true last))
    (λ more.
    rows_by _ (record (rows H) { events = next_place (length H) }) refl
    (moved-step width m H time o to found.0 legal allowed found.1 more) refl
    (going-moved width m H time o to legal allowed more) refl refl (omega (arith, short))
    ∙ end_is o to (rows H) false more) where
      same_events : (o : ℕ) (to : OpState) (g : Option Going) (rs : Rows) → (finished o to g rs).events ≡ rs.events
      same_events o to None rs = refl
      same_events o to (Some g) rs = refl

      end_is : (o : ℕ) (to : OpState) (rs : Rows) (b : Bool) → is_final to ≡ b
          → record (cond b (finished o to (find (λ g. g.occ == o) rs.going) rs) rs) { events = next_place rs.events }
          ≡ rows_after (Moved o to) rs
      end_is o to rs true e =
          ap (λ (n : ℕ). record (finished o to (find (λ g. g.occ == o) rs.going) rs) { events = next_place n })
          (sym (same_events o to (find (λ g. g.occ == o) rs.going) rs))
          ∙ ap (λ (b : Bool). record (cond b (finished o to (find (λ g. g.occ == o) rs.going) rs) rs)
          { events = next_place (cond b (finished o to (find (λ g. g.occ == o) rs.going) rs) rs).events }) (sym e)
      end_is o to rs false e =
          ap (λ (b : Bool). record (cond b (finished o to (find (λ g. g.occ == o) rs.going) rs) rs)
          { events = next_place (cond b (finished o to (find (λ g. g.occ == o) rs.going) rs) rs).events }) (sym e)
rows-step width m H time k short legal allowed =
    rows_by _ _ refl (ap reverse (rows-stay width m H time k (is_kept H) legal allowed refl)) refl
    (all_kept width m H time k legal allowed) refl refl (omega (arith, short))

-- what is in a list the other way round is in it
pub of_reverse : {A : Type 0} → (y : A) (xs : List A) → IsIn y (reverse xs) → IsIn y xs
of_reverse y [] h = h
of_reverse y (x ∷ xs) h = elim (in_either y (reverse xs) (x ∷ []) (subst (λ ys. IsIn y ys) (reverse-cons x xs) h)) [
  | inl front ↦ inr (of_reverse y xs front)
  | inr (inl e) ↦ inl e
  | inr (inr none) ↦ absurd none
]

-- what stands of an instance stands in the order of definitions
items_ordered : (width m : ℕ) (H : List Event) (r : InstanceRow) → IsLegalWithin width m H → IsIn r (instance_rows H)
    → AreInOrder r.holding.items
items_ordered width m H r legal among =
    let of = of_map (instance_row H) r (live_instances H) (of_reverse r (map (instance_row H) (live_instances H)) among) in
    let x : CreatedInstance = of.0 in
    let here = (of_filter (is_kept H) x (creations H) of.1).0 in
    let named = named_of width m H x legal here in
    let made : creation H x.instance ≡ Some x = find-own (λ x. x.instance) (creations H) x (instances_counted width m H legal) here in
    let described : descriptor H x.instance ≡ Some named.0 = ap (λ (c : Option CreatedInstance).
    option_and_then (λ c. descriptor_named H c.vnfd) c) made ∙ named.1 in
    let holds : instance_row H x ≡ row_with x (holding named.0 H x.instance) =
    ap (λ (y : Option Vnfd). row_with x (option_map_or (λ d. holding d H x.instance) y unheld)) named.1 in
    subst (λ (r : InstanceRow). AreInOrder r.holding.items) (sym holds ∙ of.2)
    (items_in_order width m H legal x.instance named.0 described).0

-- instances, subscriptions and operations stand in the order of their numbers, and what stands of an instance in that of definitions
pub ordered : (width m : ℕ) (H : List Event) (rs : Rows) → IsLegalWithin width m H → StandsFor rs H → AreOrdered rs
ordered width m H rs legal stands =
    let f : InstanceRow → ℕ = λ r. r.number in
    let g : SubscriptionRow → ℕ = λ r. r.number in
    let h : Going → ℕ = λ r. r.occ in
    let lives = falls-filter (λ x. x.instance) (is_kept H) (creations H)
    (falls-counted (λ x. x.instance) (creations H) (instances_counted width m H legal)) in
    let subs = falls-filter (λ x. x.number) (is_continued H) (subscriptions H)
    (falls-counted (λ x. x.number) (subscriptions H) (subscriptions_counted width m H legal)) in
    let ops = falls-filter (λ x. x.occ) (goes_on H) (operations H)
    (falls-counted (λ x. x.occ) (operations H) (operations_counted width m H legal)) in
    record {
      items = λ r among. items_ordered width m H r legal (subst (λ (ys : List InstanceRow). IsIn r ys)
          (ap (λ (r : Rows). r.instances) stands) among);
      instances = subst (λ (ys : List InstanceRow). Rises f ys) (sym (ap (λ (r : Rows). r.instances) stands))
          (rises-reverse f (map (instance_row H) (live_instances H)) (falls-map f (instance_row H) (live_instances H) lives));
      subscriptions = subst (λ (ys : List SubscriptionRow). Rises g ys) (sym (ap (λ (r : Rows). r.subscriptions) stands))
          (rises-reverse g (map (subscription_row H) (continued H)) (falls-map g (subscription_row H) (continued H) subs));
      going = subst (λ (ys : List Going). Rises h ys) (sym (ap (λ (r : Rows). r.going) stands))
          (rises-reverse h (map (going_of H) (filter (goes_on H) (operations H)))
          (falls-map h (going_of H) (filter (goes_on H) (operations H)) ops));
    }

-- rows that followed an event
pub applied : (width m : ℕ) (H : List Event) (e : Event) (old new : Rows) → length H < 18446744073709551615 → IsLegalWithin width m H
    → IsAllowedWithin width m H e.kind → StandsFor old H
    → new ≡ rows_after e.kind old → StandsFor new (e ∷ H)
applied width m H e old new short legal allowed stands is =
    is ∙ (ap (λ (rs : Rows). rows_after e.kind rs) stands ∙ sym (rows-step width m H e.moment e.kind short legal allowed))

-- what is found is the subscription of this number
pub subscription_found : (width m : ℕ) (H : List Event) (rs : Rows) (s : ℕ) (x : Option SubscriptionRow) → IsLegalWithin width m H
    → StandsFor rs H
    → (Rises (λ r. r.number) rs.subscriptions → x ≡ find (λ r. r.number == s) rs.subscriptions) → x ≡ subscription_at H s
unfolding is_continued
subscription_found width m H rs s x legal stands is_found =
    let g : Subscription → SubscriptionRow = subscription_row H in
    let falls = falls-filter (λ x. x.number) (is_continued H) (subscriptions H)
    (falls-counted (λ x. x.number) (subscriptions H) (subscriptions_counted width m H legal)) in
    let is : rs.subscriptions ≡ subscription_rows H = ap (λ (r : Rows). r.subscriptions) stands in
    let f : SubscriptionRow → ℕ = λ r. r.number in
    let mapped = falls-map f g (continued H) falls in
    is_found (subst (λ (ys : List SubscriptionRow). Rises f ys) (sym is) (rises-reverse f (map g (continued H)) mapped))
    ∙ (ap (λ (ys : List SubscriptionRow). find (λ r. r.number == s) ys) is
    ∙ (find-reverse f s (map g (continued H)) mapped
    ∙ (find-map f g s (continued H)
    ∙ (ap (option_map g) (find-filter (λ x. x.number) (is_continued H) s (subscriptions H) (not (is_unsubscribed H s))
    (λ x e. ap (λ (n : ℕ). not (is_unsubscribed H n)) e))
    ∙ if_there g (find (λ x. x.number == s) (subscriptions H)) (not (is_unsubscribed H s))))))

has_holding : (width m : ℕ) (H : List Event) (i : ℕ) (r : InstanceRow) (x : CreatedInstance) → IsLegalWithin width m H
    → creation H i ≡ Some x → instance_row H x ≡ r
    → (d : Vnfd) × (descriptor H i ≡ Some d) × (r.holding ≡ holding d H i)
has_holding width m H i r x legal made is =
    let named = named_of width m H x legal (found_in (λ x. x.instance == i) (creations H) x made) in
    let number : x.instance ≡ i = found_number (λ x. x.instance) (creations H) i x made in (
      named.0,
      ap (λ (c : Option CreatedInstance). option_and_then (λ c. descriptor_named H c.vnfd) c) made ∙ named.1,
      ap (λ (r : InstanceRow). r.holding) (sym is)
          ∙ (ap (λ (y : Option Vnfd). option_map_or (λ d. holding d H x.instance) y unheld) named.1 ∙ ap (holding named.0 H) number),
    )

-- the row of a live instance has the holding by its descriptor
pub rows_held : (width m : ℕ) (H : List Event) → IsLegalWithin width m H → (i : ℕ) (r : InstanceRow) → instance H i ≡ Some r
    → (d : Vnfd) × (descriptor H i ≡ Some d) × (r.holding ≡ holding d H i)
rows_held width m H legal i r e = by_test (is_live H i)
    (λ live.
    let found = some_value (creation H i) (and_left (is_some (creation H i)) (not (is_deleted H i)) live) in
    let row : Some (instance_row H found.0) ≡ Some r =
    sym (ap (option_map (instance_row H)) found.1)
    ∙ subst (λ (b : Bool). cond b (option_map (instance_row H) (creation H i)) None ≡ Some r) live e in
    let is : instance_row H found.0 ≡ r = cc in
    has_holding width m H i r found.0 legal found.1 is)
    (λ gone. let none : None ≡ Some r = subst (λ (b : Bool). cond b (option_map (instance_row H) (creation H i)) None ≡ Some r) gone e in
    cc)
