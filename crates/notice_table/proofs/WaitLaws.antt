-- What waits for each live subscription, event by event.
use Rattle.std.proofs.Common.{◌≡◌, ◌≤◌, ◌<◌, ◌+◌, ◌++◌, ◌==◌, ◌&&◌, ◌||◌, ◌∙◌, ◌↔◌, ℕ, List, [], ◌∷◌, suc, Bool, true, false, cond, not}
use Rattle.std.proofs.Common.{Option, None, Some, is_some, refl, ap, sym, subst, length, map, filter, find, reverse, drop, option_map}
use Rattle.std.proofs.Common.{arith, inl, inr, ◌⊎◌, nat_lt, lt-ltb, eqb-true, eq-eqb, nat_le, max}
use Rattle.std.specs.List.{cons_option}
use Rattle.std.specs.Option.{option_map_or}
use Rattle.std.specs.Prelude.{IsTrue, option_and_then}
use mathlib.Core.List.{reverse-cons}
use Rattle.lcm_events.specs.declared.events.Event.{Event}
use Rattle.lcm_events.specs.declared.events.EventKind.{EventKind}
use Rattle.lcm_events.specs.declared.events.EventKind.TheVariants.{Posted, Subscribed, Unsubscribed}
use Rattle.lcm_events.specs.declared.events.PostOutcome.{PostOutcome}
use Rattle.lcm_events.specs.declared.filters.Filter.{Filter}
use Rattle.lcm_events.specs.declared.states.Role.{Role}
use Rattle.lcm_model.specs.Allowed.{IsAllowedWithin, IsLegalWithin}
use Rattle.lcm_model.specs.Lives.{Subscription, is_subscribed, is_unsubscribed, subscription, subscriptions, subscriptions_made}
use Rattle.lcm_model.specs.Notices.{cursor, facts_of, is_delivered, is_noticed, matches, next_notice, notice_in, notices, posts}
use Rattle.lcm_model.specs.Notices as model
use Rattle.lcm_model.specs.Words.{IsIn, first, last, when}
use Rattle.lcm_laws.proofs.Histories.{event, legal_induction}
use Rattle.lcm_laws.proofs.Lists.{by_test}
use Rattle.lcm_laws.proofs.Members.{of_filter}
use Rattle.lcm_laws.proofs.NumberLaws.{found_within, subscriptions_counted}
use Rattle.instance_table.specs.Rows.{continued, is_continued, tries_past}
use Rattle.instance_table.specs.Steps.{Rises}
use Rattle.instance_table.proofs.DeliveryLaws.{cursor-other, cursor-posted, never_posted, tries-other, tries-posted}
use Rattle.instance_table.proofs.LiveLaws.{ended_made, false_by, fewer, find-filter, find-map, flip, if_there, one_more, without-not}
use Rattle.instance_table.proofs.Sorted.{Falls, Under, falls-counted, falls-filter, falls-map, find-reverse, rises-reverse}
use Rattle.subscription_filter.specs.Facts.{facts_in}
use Rattle.subscription_filter.specs.declared.facts.NoticeFacts.{NoticeFacts}
use Rattle.notice_table.specs.Queues.{Queue, StandsFor, first_waiting, queue, queues}
use Rattle.notice_table.specs.Steps.{after_post, changed, first_queue, heard, heard_by, posted, without}
use Rattle.notice_table.specs.Table.{IsNoticeOf, heard_of}
use Rattle.notice_table.proofs.Lists.{first_reverse, found_by_number, last_in, map_in, map_reverse, map_self, map_twice, none_above}
use Rattle.notice_table.proofs.Lists.{number_found, rises_same, under_in, under_more, without_last}

then_when : {A : Type 0} → (p : A → Bool) (n : ℕ) (x : Option A)
    → (option_and_then (λ y. when (p y) n) x ≡ None) ⊎ (option_and_then (λ y. when (p y) n) x ≡ Some n)
then_when p n None = inl refl
then_when p n (Some y) = by_test (p y) (λ yes. inr (ap (λ (b : Bool). when b n) yes)) (λ no. inl (ap (λ (b : Bool). when b n) no))

then_none : {A : Type 0} → (x : Option A) (n : ℕ) → option_and_then (λ (y : A). when false n) x ≡ None
then_none None n = refl
then_none (Some y) n = refl

-- an event's notice has the event's place
notice_place : (m s : ℕ) (H : List Event) (k : EventKind) → (notice_in m s H k ≡ None) ⊎ (notice_in m s H k ≡ Some (length H + 1))
notice_place m s H k = then_when (is_noticed m H k) (length H + 1) (subscription H s)

-- the places of notices fall, and none is beyond the history
abbrev AreInOrder : ℕ → List ℕ → Type 0
AreInOrder b ns = Falls (λ n. n) ns × Under (λ n. n) b ns

one_more_place : (b : ℕ) (x : Option ℕ) (ns : List ℕ) → AreInOrder b ns → (x ≡ None) ⊎ (x ≡ Some b) → AreInOrder (suc b) (cons_option x ns)
one_more_place b x ns h (inl none) = subst (λ (y : Option ℕ). AreInOrder (suc b) (cons_option y ns)) (sym none)
    (h.0, under_more b (suc b) ns h.1 (omega arith))
one_more_place b x ns h (inr some) = subst (λ (y : Option ℕ). AreInOrder (suc b) (cons_option y ns)) (sym some)
    ((h.1, h.0), (omega arith, under_more b (suc b) ns h.1 (omega arith)))

notices_ordered : (m : ℕ) (H : List Event) (s : ℕ) → AreInOrder (length H + 1) (notices m H s)
notices_ordered m [] s = (tt, tt)
notices_ordered m (e ∷ H) s =
    let more : suc (length H + 1) ≡ suc (length H) + 1 = omega arith in
    subst (λ (b : ℕ). AreInOrder b (notices m (e ∷ H) s)) more (one_more_place (length H + 1) (notice_in m s H e.kind) (notices m H s)
    (notices_ordered m H s) (notice_place m s H e.kind))

-- the next notice is within the history
next_within : (m : ℕ) (H : List Event) (s place : ℕ) → next_notice m H s ≡ Some place → place ≤ length H
next_within m H s place e =
    let there = (of_filter (nat_lt (cursor H s)) place (notices m H s) (last_in (filter (nat_lt (cursor H s)) (notices m H s)) place e)).0
    in
    let low = under_in (length H + 1) (notices m H s) place (notices_ordered m H s).1 there in
    omega (arith, low)

-- a new subscription's cursor is its place
cursor_new : (H : List Event) (time n s : ℕ) (role : Role) (callback : List ℕ) (f : Filter) → (n == s) ≡ true → posts H s ≡ []
    → cursor (event time (Subscribed n role callback f) ∷ H) s ≡ length H + 1
cursor_new H time n s role callback f same none =
    let most : max (length H + 1) 0 ≡ length H + 1 = omega arith in
    rw (same, none) most

-- a new subscription leaves the cursor of another
cursor_older : (H : List Event) (time n s : ℕ) (role : Role) (callback : List ℕ) (f : Filter) → (n == s) ≡ false
    → cursor (event time (Subscribed n role callback f) ∷ H) s ≡ cursor H s
cursor_older H time n s role callback f other = rw other refl

-- a new subscription leaves the count of another
tries_older : (H : List Event) (time n s : ℕ) (role : Role) (callback : List ℕ) (f : Filter) → (n == s) ≡ false
    → tries_past (event time (Subscribed n role callback f) ∷ H) s ≡ tries_past H s
tries_older H time n s role callback f other = rw other refl

-- the cursor is within the history
abbrev IsWithin : List Event → Type 0
IsWithin H = (s : ℕ) → cursor H s ≤ length H

either_within : (b : Bool) (x y n : ℕ) → x ≤ n → y ≤ n → cond b x y ≤ suc n
either_within true x y n h g = omega (arith, h)
either_within false x y n h g = omega (arith, g)

within_step : (width m : ℕ) (H : List Event) (time : ℕ) (k : EventKind) → IsLegalWithin width m H → IsAllowedWithin width m H k → IsWithin H
    → IsWithin (event time k ∷ H)
within_step width m H time (Subscribed n role callback f) legal allowed h s = by_test (n == s)
    (λ same.
    let is : n ≡ s = eqb-true n s same in
    let none : posts H s ≡ [] = never_posted width m H legal s (omega (arith, is, allowed.number)) in
    let e = cursor_new H time n s role callback f same none in
    omega (arith, e))
    (λ other. let e = cursor_older H time n s role callback f other in let low = h s in omega (arith, e, low))
within_step width m H time (Posted n place outcome) legal allowed h s = by_test (n == s)
    (λ same.
    let is : n ≡ s = eqb-true n s same in
    let next : next_notice m H s ≡ Some place = subst (λ (i : ℕ). next_notice m H i ≡ Some place) is allowed.next in
    subst (λ (c : ℕ). c ≤ suc (length H)) (sym (cursor-posted width m H time n place s outcome legal allowed same))
    (either_within (is_delivered outcome || nat_le 4 (tries_past H s)) place (cursor H s) (length H) (next_within m H s place next) (h s)))
    (λ other. let e = cursor-other H time n place s outcome other in let low = h s in omega (arith, e, low))
within_step width m H time k legal allowed h s = let low = h s in omega (arith, low)

pub cursor_within : (width m : ℕ) (H : List Event) → IsLegalWithin width m H → IsWithin H
cursor_within width m H legal = legal_induction width m IsWithin (λ s. omega arith)
    (λ H time k legal allowed h. within_step width m H time k legal allowed h) H legal

-- a subscription that wasn't ended is found by its number
continued_found : (width m : ℕ) (H : List Event) → IsLegalWithin width m H → (x : Subscription) → IsIn x (continued H)
    → subscription H x.number ≡ Some x
continued_found width m H legal x h = found_by_number (λ y. y.number) x (subscriptions H) (subscriptions_counted width m H legal)
    (of_filter (is_continued H) x (subscriptions H) h).0

-- its notice, where it is known
notice_is : (m : ℕ) (H : List Event) (k : EventKind) (x : Subscription) → subscription H x.number ≡ Some x
    → notice_in m x.number H k ≡ when (option_map_or (matches m x.filter) (facts_of H k) false) (length H + 1)
notice_is m H k x e = ap (λ (y : Option Subscription). option_and_then (λ sub. when (is_noticed m H k sub) (length H + 1)) y) e

-- a queue after the event at this place, with its notice
abbrev hears : ℕ → ℕ → Option model.NoticeFacts → Queue → Queue
hears m place n q = cond (option_map_or (matches m q.filter) n false) (record q { waiting = q.waiting ++ place ∷ [] }) q

waiting_when : (b : Bool) (c place : ℕ) (ns : List ℕ) → c < place
    → reverse (filter (nat_lt c) (cons_option (when b place) ns)) ≡ cond b (reverse (filter (nat_lt c) ns) ++ place ∷ [])
    (reverse (filter (nat_lt c) ns))
waiting_when true c place ns h = let yes : nat_lt c place ≡ true = lt-ltb c place h in rw yes (reverse-cons place (filter (nat_lt c) ns))
waiting_when false c place ns h = refl

queue_when : (b : Bool) (q : Queue) (place : ℕ) → record q { waiting = cond b (q.waiting ++ place ∷ []) q.waiting }
    ≡ cond b (record q { waiting = q.waiting ++ place ∷ [] }) q
queue_when true q place = refl
queue_when false q place = refl

-- queues that differ in how far notices were delivered alone
with_waiting : (q : Queue) (i j : ℕ) (a b : List ℕ) → i ≡ j → a ≡ b
    → record q { tries = i; waiting = a } ≡ record q { tries = j; waiting = b }
with_waiting q i j a b e f = ap (λ (n : ℕ). record q { tries = n; waiting = a }) e
    ∙ ap (λ (ns : List ℕ). record q { tries = j; waiting = ns }) f

-- what an event that leaves the cursor makes of a queue
queue_heard : (m : ℕ) (H : List Event) (time : ℕ) (k : EventKind) (x : Subscription) → subscription H x.number ≡ Some x
    → cursor H x.number ≤ length H
    → cursor (event time k ∷ H) x.number ≡ cursor H x.number → tries_past (event time k ∷ H) x.number ≡ tries_past H x.number
    → queue m (event time k ∷ H) x ≡ hears m (length H + 1) (facts_of H k) (queue m H x)
queue_heard m H time k x found low same_cursor same_tries =
    let b = option_map_or (matches m x.filter) (facts_of H k) false in
    let c = cursor H x.number in
    let ns = notices m H x.number in
    with_waiting (queue m H x) _ _ _ _ same_tries
    (ap (λ (n : ℕ). reverse (filter (nat_lt n) (notices m (event time k ∷ H) x.number))) same_cursor
    ∙ (ap (λ (y : Option ℕ). reverse (filter (nat_lt c) (cons_option y ns))) (notice_is m H k x found)
    ∙ waiting_when b c (length H + 1) ns (omega (arith, low))))
    ∙ queue_when b (queue m H x) (length H + 1)

hears_all : (m place : ℕ) (n : Option model.NoticeFacts) (qs : List Queue) → map (hears m place n) qs ≡ heard_by m place n qs
hears_all m place None qs = map_self qs
hears_all m place (Some n) qs = refl

-- queues of the same subscriptions, each changed
all_changed : (g h : Subscription → Queue) (f : Queue → Queue) (xs : List Subscription) → ((x : Subscription) → IsIn x xs → h x ≡ f (g x))
    → reverse (map h xs) ≡ map f (reverse (map g xs))
all_changed g h f xs e = ap reverse (map_in h (λ x. f (g x)) xs e ∙ map_twice g f xs) ∙ map_reverse f (map g xs)

posted_own : (b : Bool) (q : Queue) → record q { tries = cond b 0 (q.tries + 1); waiting = cond b (drop 1 q.waiting) q.waiting }
    ≡ cond b (record q { waiting = drop 1 q.waiting; tries = 0 }) (record q { tries = q.tries + 1 })
posted_own true q = refl
posted_own false q = refl

waiting_posted : (b : Bool) (c place : ℕ) (ns : List ℕ) → Falls (λ n. n) ns → last (filter (nat_lt c) ns) ≡ Some place
    → reverse (filter (nat_lt (cond b place c)) ns) ≡ cond b (drop 1 (reverse (filter (nat_lt c) ns))) (reverse (filter (nat_lt c) ns))
waiting_posted true c place ns falls e = without_last c place ns falls e
waiting_posted false c place ns falls e = refl

-- what a post makes of a queue
posted_queue : (width m : ℕ) (H : List Event) (time s place : ℕ) (outcome : PostOutcome) (x : Subscription) → IsLegalWithin width m H
    → IsAllowedWithin width m H (Posted s place outcome)
    → subscription H x.number ≡ Some x → queue m (event time (Posted s place outcome) ∷ H) x ≡ posted s outcome (queue m H x)
posted_queue width m H time s place outcome x legal allowed found = by_test (s == x.number)
    (λ same.
    let turned : (x.number == s) ≡ true = flip x.number s ∙ same in
    let is : s ≡ x.number = eqb-true s x.number same in
    let next : next_notice m H x.number ≡ Some place = subst (λ (i : ℕ). next_notice m H i ≡ Some place) is allowed.next in
    let b = is_delivered outcome || nat_le 4 (tries_past H x.number) in
    let c = cursor H x.number in
    let ns = notices m H x.number in
    with_waiting (queue m H x) _ _ _ _ (tries-posted width m H time s place x.number outcome legal allowed same)
    (ap (λ (n : ℕ). reverse (filter (nat_lt n) (notices m (event time (Posted s place outcome) ∷ H) x.number)))
    (cursor-posted width m H time s place x.number outcome legal allowed same)
    ∙ (ap (λ (y : Option ℕ). reverse (filter (nat_lt (cond b place c)) (cons_option y ns)))
    (then_none (subscription H x.number) (length H + 1))
    ∙ waiting_posted b c place ns (notices_ordered m H x.number).0 next))
    ∙ (posted_own b (queue m H x) ∙ ap (λ (t : Bool). cond t (after_post outcome (queue m H x)) (queue m H x)) (sym turned)))
    (λ other.
    let turned : (x.number == s) ≡ false = flip x.number s ∙ other in
    queue_heard m H time (Posted s place outcome) x found (cursor_within width m H legal x.number)
    (cursor-other H time s place x.number outcome other) (tries-other H time s place x.number outcome other)
    ∙ ap (λ (t : Bool). cond t (after_post outcome (queue m H x)) (queue m H x)) (sym turned))

-- what waits for a new subscription
new_queue : (width m : ℕ) (H : List Event) (time s : ℕ) (role : Role) (callback : List ℕ) (f : Filter) → IsLegalWithin width m H
    → s ≡ subscriptions_made H + 1
    → queue m (event time (Subscribed s role callback f) ∷ H) (record { number = s; role = role; callback = callback; filter = f })
    ≡ first_queue s f
new_queue width m H time s role callback f legal number =
    let e = event time (Subscribed s role callback f) in
    let own : (s == s) ≡ true = eq-eqb s s refl in
    let none : posts H s ≡ [] = never_posted width m H legal s (omega (arith, number)) in
    let no_tries : tries_past (e ∷ H) s ≡ 0 = rw none refl in
    with_waiting (first_queue s f) _ _ _ _ no_tries
    (ap (λ (n : ℕ). reverse (filter (nat_lt n) (notices m (e ∷ H) s))) (cursor_new H time s s role callback f own none)
    ∙ (ap (λ (y : Option ℕ). reverse (filter (nat_lt (length H + 1)) (cons_option y (notices m H s))))
    (then_none (subscription H s) (length H + 1))
    ∙ ap reverse (none_above (length H + 1) (length H + 1) (notices m H s) (notices_ordered m H s).1 (omega arith))))

-- a new subscription's queue is last
subscribed_step : (width m : ℕ) (H : List Event) (time s : ℕ) (role : Role) (callback : List ℕ) (f : Filter) → IsLegalWithin width m H
    → IsAllowedWithin width m H (Subscribed s role callback f) → queues m (event time (Subscribed s role callback f) ∷ H)
    ≡ queues m H ++ first_queue s f ∷ []
unfolding is_continued
subscribed_step width m H time s role callback f legal allowed =
    let after = event time (Subscribed s role callback f) ∷ H in
    let none : is_unsubscribed H s ≡ false = false_by (is_unsubscribed H s)
    (λ gone. let made = ended_made width m H legal s gone in omega (arith, made, allowed.number)) in
    let number = allowed.number in
    let older : map (queue m after) (continued H) ≡ map (queue m H) (continued H) =
    map_in (queue m after) (queue m H) (continued H) (λ x h.
    let found = continued_found width m H legal x h in
    let there : is_some (subscription H x.number) ≡ true = ap is_some found in
    let within = (found_within (λ y. y.number) (subscriptions H) x.number (subscriptions_counted width m H legal) there).1 in
    let other : (s == x.number) ≡ false = false_by (s == x.number)
    (λ same. let is : s ≡ x.number = eqb-true s x.number same in omega (arith, is, number, within)) in
    queue_heard m H time (Subscribed s role callback f) x found (cursor_within width m H legal x.number)
    (cursor_older H time s x.number role callback f other) (tries_older H time s x.number role callback f other)) in
    one_more (queue m after) (is_continued H) (record { number = s; role = role; callback = callback; filter = f }) (subscriptions H)
    (ap not none)
    ∙ (ap (λ (qs : List Queue). reverse qs ++ queue m after (record { number = s; role = role; callback = callback; filter = f }) ∷ [])
    older
    ∙ ap (λ (q : Queue). queues m H ++ q ∷ []) (new_queue width m H time s role callback f legal number))

-- an ended subscription's queue is gone
unsubscribed_step : (width m : ℕ) (H : List Event) (time s : ℕ) → IsLegalWithin width m H
    → queues m (event time (Unsubscribed s) ∷ H) ≡ without s (queues m H)
unfolding is_continued
unsubscribed_step width m H time s legal =
    let after = event time (Unsubscribed s) ∷ H in
    let same : map (queue m after) (continued after) ≡ map (queue m H) (continued after) =
    map_in (queue m after) (queue m H) (continued after) (λ x h.
    let there = (of_filter (is_continued after) x (subscriptions H) h).0 in
    let found = found_by_number (λ y. y.number) x (subscriptions H) (subscriptions_counted width m H legal) there in
    queue_heard m H time (Unsubscribed s) x found (cursor_within width m H legal x.number) refl refl) in
    ap reverse same
    ∙ fewer (queue m H) (λ q. not (q.number == s)) (is_continued H) (is_continued after) (subscriptions H)
    (λ x. without-not (s == x.number) (is_unsubscribed H x.number)
    ∙ ap (λ (b : Bool). not b && not (is_unsubscribed H x.number)) (flip s x.number))

-- what an event makes of the queues
pub queues_step : (width m : ℕ) (H : List Event) (time : ℕ) (k : EventKind) → IsLegalWithin width m H → IsAllowedWithin width m H k
    → queues m (event time k ∷ H) ≡ changed k (heard_by m (length H + 1) (facts_of H k) (queues m H))
unfolding is_continued
queues_step width m H time (Subscribed s role callback f) legal allowed = subscribed_step width m H time s role callback f legal allowed
queues_step width m H time (Unsubscribed s) legal allowed = unsubscribed_step width m H time s legal
queues_step width m H time (Posted s place outcome) legal allowed =
    all_changed (queue m H) (queue m (event time (Posted s place outcome) ∷ H)) (posted s outcome) (continued H)
    (λ x h. posted_queue width m H time s place outcome x legal allowed (continued_found width m H legal x h))
queues_step width m H time k legal allowed =
    all_changed (queue m H) (queue m (event time k ∷ H)) (hears m (length H + 1) (facts_of H k)) (continued H)
    (λ x h. queue_heard m H time k x (continued_found width m H legal x h) (cursor_within width m H legal x.number) refl refl)
    ∙ hears_all m (length H + 1) (facts_of H k) (queues m H)

-- queues stand in the order of their numbers
pub queues_rise : (width m : ℕ) (H : List Event) (qs : List Queue) → IsLegalWithin width m H → StandsFor m qs H → Rises (λ q. q.number) qs
queues_rise width m H qs legal stands =
    let f : Queue → ℕ = λ q. q.number in
    let falls = falls-filter (λ x. x.number) (is_continued H) (subscriptions H)
    (falls-counted (λ x. x.number) (subscriptions H) (subscriptions_counted width m H legal)) in
    subst (λ (xs : List Queue). Rises f xs) (sym stands) (rises-reverse f (map (queue m H) (continued H))
    (falls-map f (queue m H) (continued H) falls))

-- the notice that the event makes
notice_heard : (m place : ℕ) (H : List Event) (k : EventKind) (n : Option NoticeFacts) (qs : List Queue) → IsNoticeOf m H k n
    → heard_of place n qs ≡ heard_by m place (facts_of H k) qs
notice_heard m place H k None qs is = ap (λ (o : Option model.NoticeFacts). heard_by m place o qs) is.facts
notice_heard m place H k (Some n) qs is =
    ap (λ (i : ℕ). map (heard i place (facts_in n)) qs) is.manager ∙ ap (λ (o : Option model.NoticeFacts). heard_by m place o qs) is.facts

number_heard : (m place : ℕ) (n : model.NoticeFacts) (q : Queue) → (heard m place n q).number ≡ q.number
number_heard m place n q = by_test (matches m q.filter n) (λ yes. rw yes refl) (λ no. rw no refl)

-- queues that heard of an event stand in the order of their numbers
pub heard_rise : (place : ℕ) (n : Option NoticeFacts) (qs : List Queue) → Rises (λ q. q.number) qs
    → Rises (λ q. q.number) (heard_of place n qs)
heard_rise place None qs r = r
heard_rise place (Some n) qs r = rises_same (λ (q : Queue). q.number) (heard n.manager place (facts_in n)) qs
    (number_heard n.manager place (facts_in n)) r

-- queues that followed an event
pub applied : (width m : ℕ) (H : List Event) (e : Event) (place : ℕ) (n : Option NoticeFacts) (old new : List Queue)
    → IsLegalWithin width m H → IsAllowedWithin width m H e.kind
    → place ≡ length H + 1 → IsNoticeOf m H e.kind n → StandsFor m old H → new ≡ changed e.kind (heard_of place n old)
    → StandsFor m new (e ∷ H)
applied width m H e place n old new legal allowed at is stands after =
    after
    ∙ (ap (λ (qs : List Queue). changed e.kind qs) (notice_heard m place H e.kind n old is)
    ∙ (ap (λ (p : ℕ). changed e.kind (heard_by m p (facts_of H e.kind) old)) at
    ∙ (ap (λ (qs : List Queue). changed e.kind (heard_by m (length H + 1) (facts_of H e.kind) qs)) stands
    ∙ sym (queues_step width m H e.moment e.kind legal allowed))))

first_if_live : (m : ℕ) (H : List Event) (s : ℕ) (x : Option Subscription) (b : Bool) → ((y : Subscription) → x ≡ Some y → y.number ≡ s)
    → option_and_then (λ q. first q.waiting) (cond (is_some x && b) (option_map (queue m H) x) None)
    ≡ cond (is_some x && b) (next_notice m H s) None
first_if_live m H s None b f = refl
first_if_live m H s (Some y) false f = refl
first_if_live m H s (Some y) true f =
    let is : y.number ≡ s = f y refl in
    first_reverse (filter (nat_lt (cursor H y.number)) (notices m H y.number)) ∙ ap (λ (i : ℕ). next_notice m H i) is

-- what is found is the first notice that waits
pub first_found : (width m : ℕ) (H : List Event) (qs : List Queue) (s : ℕ) (x : Option ℕ) → IsLegalWithin width m H → StandsFor m qs H
    → (Rises (λ q. q.number) qs → x ≡ option_and_then (λ q. first q.waiting) (find (λ q. q.number == s) qs)) → x ≡ first_waiting m H s
unfolding is_continued
first_found width m H qs s x legal stands is_found =
    let g : Subscription → Queue = queue m H in
    let f : Queue → ℕ = λ q. q.number in
    let falls = falls-filter (λ x. x.number) (is_continued H) (subscriptions H)
    (falls-counted (λ x. x.number) (subscriptions H) (subscriptions_counted width m H legal)) in
    let mapped = falls-map f g (continued H) falls in
    let there : find (λ (q : Queue). q.number == s) qs ≡ cond (is_subscribed H s) (option_map g (subscription H s)) None =
    ap (λ (ys : List Queue). find (λ (q : Queue). q.number == s) ys) stands
    ∙ (find-reverse f s (map g (continued H)) mapped
    ∙ (find-map f g s (continued H)
    ∙ (ap (option_map g) (find-filter (λ x. x.number) (is_continued H) s (subscriptions H) (not (is_unsubscribed H s))
    (λ x e. ap (λ (n : ℕ). not (is_unsubscribed H n)) e))
    ∙ if_there g (find (λ x. x.number == s) (subscriptions H)) (not (is_unsubscribed H s))))) in
    is_found (queues_rise width m H qs legal stands)
    ∙ (ap (λ (y : Option Queue). option_and_then (λ q. first q.waiting) y) there
    ∙ first_if_live m H s (subscription H s) (not (is_unsubscribed H s)) (λ y e. number_found (λ z. z.number) s (subscriptions H) y e))

live_first : (b : Bool) (x : Option ℕ) (place : ℕ) → cond b x None ≡ Some place → (b ≡ true) × (x ≡ Some place)
live_first true x place e = (refl, e)
live_first false x place e = cc

-- whether a post may be recorded, by the first notice that waits
pub may_post_first : (width m : ℕ) (H : List Event) (s place : ℕ) (outcome : PostOutcome) (x : Option ℕ) (b : Bool)
    → x ≡ first_waiting m H s → IsTrue b ↔ (x ≡ Some place)
    → IsTrue b ↔ IsAllowedWithin width m H (Posted s place outcome)
may_post_first width m H s place outcome x b is judged = (
  λ yes. let both = live_first (is_subscribed H s) (next_notice m H s) place (sym is ∙ judged.0 yes) in
      record { live = both.0; next = both.1 },
  λ may. judged.1 (is ∙ (ap (λ (t : Bool). cond t (next_notice m H s) None) may.live ∙ may.next)),
)
