-- The deliveries so far, one more, and how a round ends.
use Rattle.std.proofs.Common.{◌≡◌, ◌≤◌, ◌<◌, ◌+◌, ◌++◌, ◌==◌, ◌∙◌, ℕ, zero}
use Rattle.std.proofs.Common.{suc, List, [], ◌∷◌, Bool, true, false, cond, Option, None, Some}
use Rattle.std.proofs.Common.{is_some, Ok, Err, refl, ap, sym, subst, length}
use Rattle.std.proofs.Common.{map, filter, reverse, take, drop, slice_get, arith, not}
use Rattle.std.proofs.Common.{nat_lt, inl, inr, eqb-true, ◌^◌, ◌-◌}
use mathlib.Core.List.{reverse-cons}
use Rattle.std.proofs.lemmas.List.{length-map, length-reverse}
use Rattle.std.proofs.lemmas.List.Elements.{filter-append}
use Rattle.std.specs.List.{cons_option}
use Rattle.std.specs.Prelude.{option_and_then}
use Rattle.executor.specs.Managed.{IsReady, Managed}
use Rattle.executor.specs.Work.{Idles, Joins, LeadsOn, Works, went}
use Rattle.instance_table.specs.Rows.{continued, is_continued, subscription_row}
use Rattle.instance_table.specs.Steps.{Over, Rises}
use Rattle.instance_table.specs.declared.rows.SubscriptionRow.{SubscriptionRow}
use Rattle.instance_table.proofs.DeliveryLaws.{cursor-other}
use Rattle.instance_table.proofs.Sorted.{falls-counted, falls-filter, falls-map, rises-reverse}
use Rattle.lcm_events.specs.declared.events.Event.{Event}
use Rattle.lcm_events.specs.declared.events.PostOutcome.{PostOutcome}
use Rattle.lcm_events.specs.declared.events.PostOutcome.TheVariants.{Delivered, NotTaken}
use Rattle.lcm_laws.proofs.Lists.{by_test}
use Rattle.lcm_laws.proofs.Members.{in_back, in_front, of_filter}
use Rattle.lcm_laws.proofs.NumberLaws.{subscriptions_counted}
use Rattle.lcm_model.specs.Allowed.{IsLegal}
use Rattle.lcm_model.specs.Lives.{Subscription, is_subscribed, subscription, subscriptions}
use Rattle.lcm_model.specs.Notices.{cursor, is_delivered, notices}
use Rattle.lcm_model.specs.Words.{IsIn, last, when}
use Rattle.lcm_model.specs.Work.{window}
use Rattle.notice_table.proofs.Lists.{map_reverse, map_twice}
use Rattle.notice_table.specs.Queues.{first_waiting}
use Rattle.notify_outbox.specs.Delivering.{Carries, Course, Delivers, IsCourse, course_work, delivery_of, held, idle, sent}
use Rattle.notify_outbox.specs.Dispatches.{Dispatch, once_dispatched, outcome_of, posted_event}
use Rattle.notify_outbox.specs.Lent.{Carrier, Lent, LentTell, point}
use Rattle.notify_outbox.specs.Rounds.{CountsDispatches, DeliversAll, DispatchesDo, EndsRound, RoundEnd, counted, live_numbers}
use Rattle.notify_outbox.specs.Rounds.{numbers_of, once_all_dispatched, stopped, taken, through, untaken, waits}
use Rattle.notify_outbox.specs.declared.faults.Delivery.{Delivery}
use Rattle.notify_outbox.specs.declared.faults.DeliveryFault.{DeliveryFault}
use Rattle.notify_outbox.specs.declared.faults.DeliveryFault.TheVariants as fault
use Rattle.notify_outbox.specs.declared.rounds.Deliveries.{Deliveries}
use Rattle.site_traits.specs.Counts.{one_more}

-- the numbers of rows are those of their subscriptions
numbers_are : (G : List Event) (xs : List Subscription)
    → map (λ r. r.number) (reverse (map (subscription_row G) xs)) ≡ reverse (map (λ x. x.number) xs)
numbers_are G xs =
    sym (map_reverse (λ (r : SubscriptionRow). r.number) (map (subscription_row G) xs))
    ∙ ap reverse (sym (map_twice (subscription_row G) (λ (r : SubscriptionRow). r.number) xs))

-- a post leaves which subscriptions are live
live_stays : (now : ℕ) (H : List Event) (p : Dispatch) → live_numbers (once_dispatched now H p) ≡ live_numbers H
unfolding is_continued
live_stays now H p = numbers_are (once_dispatched now H p) (continued H) ∙ sym (numbers_are H (continued H))

pub live_through : (now : ℕ) (H : List Event) (ps : List Dispatch) → live_numbers (once_all_dispatched now H ps) ≡ live_numbers H
live_through now H [] = refl
live_through now H (p ∷ before) = live_stays now (once_all_dispatched now H before) p ∙ live_through now H before

-- the numbers of live subscriptions rise
live_rises : (m : ℕ) (H : List Event) → IsLegal m H → Rises (λ n. n) (live_numbers H)
live_rises m H legal =
    let falls = falls-filter (λ (x : Subscription). x.number) (is_continued H) (subscriptions H)
    (falls-counted (λ (x : Subscription). x.number) (subscriptions H) (subscriptions_counted window m H legal)) in
    subst (λ (ns : List ℕ). Rises (λ n. n) ns) (sym (numbers_are H (continued H)))
    (rises-reverse (λ (n : ℕ). n) (map (λ (x : Subscription). x.number) (continued H))
    (falls-map (λ (n : ℕ). n) (λ (x : Subscription). x.number) (continued H) falls))

then_none : {A : Type 0} → (x : Option A) (n : ℕ) → option_and_then (λ (y : A). when false n) x ≡ None
then_none None n = refl
then_none (Some y) n = refl

-- a post makes no notice
notices_stay : (m now : ℕ) (H : List Event) (n place s : ℕ) (how : PostOutcome)
    → notices m (posted_event now n place how ∷ H) s ≡ notices m H s
notices_stay m now H n place s how =
    ap (λ (x : Option ℕ). cons_option x (notices m H s)) (then_none (subscription H s) (length H + 1))

-- so what waits for another subscription waits for it still
waits_other : (m now : ℕ) (H : List Event) (n place s : ℕ) (how : PostOutcome) → (n == s) ≡ false
    → first_waiting m (posted_event now n place how ∷ H) s ≡ first_waiting m H s
waits_other m now H n place s how other =
    ap (λ (x : Option ℕ). cond (is_subscribed H s) x None)
    (ap (λ (c : ℕ). last (filter (nat_lt c) (notices m (posted_event now n place how ∷ H) s))) (cursor-other H now n place s how other)
    ∙ ap (λ (ns : List ℕ). last (filter (nat_lt (cursor H s)) ns)) (notices_stay m now H n place s how))

waits_through : (m now : ℕ) (H : List Event) (s : ℕ) (ps : List Dispatch)
    → ((n : ℕ) → IsIn n (map (λ p. p.subscription) ps) → n < s) → first_waiting m (once_all_dispatched now H ps) s ≡ first_waiting m H s
waits_through m now H s [] below = refl
waits_through m now H s (p ∷ before) below =
    let less = below p.subscription (inl refl) in
    waits_other m now (once_all_dispatched now H before) p.subscription p.place s (outcome_of p.answer) (unequal p.subscription s less)
    ∙ waits_through m now H s before (λ n is. below n (inr is)) where
      unequal : (n s : ℕ) → n < s → (n == s) ≡ false
      unequal n s less = by_test (n == s) (λ same. let is = eqb-true n s same in absurd (omega (arith, less, is))) (λ other. other)

same_number : {a b : ℕ} → Some a ≡ Some b → a ≡ b
same_number h = cc

-- a list is parted at each place
parted_at : (ns : List ℕ) (k s : ℕ) → slice_get ns k ≡ Some s → ns ≡ take k ns ++ s ∷ drop (suc k) ns
parted_at [] k s e = cc
parted_at (n ∷ ns) zero s e = let same : n ≡ s = same_number e in ap (λ (i : ℕ). i ∷ ns) same
parted_at (n ∷ ns) (suc k) s e = ap (λ (is : List ℕ). n ∷ is) (parted_at ns k s e)

take_more : (ns : List ℕ) (k s : ℕ) → slice_get ns k ≡ Some s → take (suc k) ns ≡ take k ns ++ s ∷ []
take_more [] k s e = cc
take_more (n ∷ ns) zero s e = let same : n ≡ s = same_number e in ap (λ (i : ℕ). i ∷ []) same
take_more (n ∷ ns) (suc k) s e = ap (λ (is : List ℕ). n ∷ is) (take_more ns k s e)

take_whole : (ns : List ℕ) (k : ℕ) → length ns ≤ k → take k ns ≡ ns
take_whole [] zero h = refl
take_whole [] (suc k) h = refl
take_whole (n ∷ ns) zero h = absurd (omega (arith, h))
take_whole (n ∷ ns) (suc k) h = ap (λ (is : List ℕ). n ∷ is) (take_whole ns k (omega (arith, h)))

take_few : (ns : List ℕ) (k : ℕ) → length (take k ns) ≤ k
take_few [] zero = omega arith
take_few [] (suc k) = omega arith
take_few (n ∷ ns) zero = omega arith
take_few (n ∷ ns) (suc k) = let rest = take_few ns k in omega (arith, rest)

over_at : (n : ℕ) (ns : List ℕ) (k s : ℕ) → Over (λ i. i) n ns → slice_get ns k ≡ Some s → n < s
over_at n [] k s over e = cc
over_at n (i ∷ ns) zero s over e = let same : i ≡ s = same_number e in subst (λ (j : ℕ). n < j) same over.0
over_at n (i ∷ ns) (suc k) s over e = over_at n ns k s over.1 e

-- what stands before a place of a rising list is below what stands there
below_at : (ns : List ℕ) (k s : ℕ) → Rises (λ i. i) ns → slice_get ns k ≡ Some s → (n : ℕ) → IsIn n (take k ns) → n < s
below_at [] k s rises e n is = cc
below_at (i ∷ ns) zero s rises e n is = absurd is
below_at (i ∷ ns) (suc k) s rises e n (inl same) =
    let low = over_at i ns k s rises.0 e in subst (λ (j : ℕ). j < s) same low
below_at (i ∷ ns) (suc k) s rises e n (inr is) = below_at ns k s rises.1 e n is

in_reverse : (n : ℕ) (ns : List ℕ) → IsIn n ns → IsIn n (reverse ns)
in_reverse n [] is = is
in_reverse n (i ∷ ns) (inl same) = subst (IsIn n) (sym (reverse-cons i ns)) (in_back n (reverse ns) (i ∷ []) (inl same))
in_reverse n (i ∷ ns) (inr is) = subst (IsIn n) (sym (reverse-cons i ns)) (in_front n (reverse ns) (i ∷ []) (in_reverse n ns is))

-- dispatches for some of these numbers leave what waits for a higher one
still_waits : (m now : ℕ) (H : List Event) (s k : ℕ) (ps : List Dispatch) → IsLegal m H → slice_get (live_numbers H) k ≡ Some s
    → numbers_of ps ≡ filter (waits m H) (take k (live_numbers H))
    → first_waiting m (once_all_dispatched now H ps) s ≡ first_waiting m H s
still_waits m now H s k ps legal at order =
    waits_through m now H s ps
    (λ n is. below_at (live_numbers H) k s (live_rises m H legal) at n
    (of_filter (waits m H) n (take k (live_numbers H))
    (subst (IsIn n) order (in_reverse n (map (λ (p : Dispatch). p.subscription) ps) is))).0)

filter_end : (p : ℕ → Bool) (ns : List ℕ) (s : ℕ) (b : Bool) → p s ≡ b → filter p (ns ++ s ∷ []) ≡ filter p ns ++ cond b (s ∷ []) []
filter_end p ns s b is = filter-append p ns (s ∷ []) ∙ ap (λ (x : Bool). filter p ns ++ cond x (s ∷ []) []) is

nil_right : (ns : List ℕ) → ns ++ [] ≡ ns
nil_right [] = refl
nil_right (n ∷ ns) = ap (λ (is : List ℕ). n ∷ is) (nil_right ns)

few_filtered : (p : ℕ → Bool) (ns : List ℕ) → length (filter p ns) ≤ length ns
few_filtered p [] = omega arith
few_filtered p (n ∷ ns) =
    let rest = few_filtered p ns in
    by_test (p n) (λ yes. rw yes (omega (arith, rest))) (λ no. rw no (omega (arith, rest)))

few_dispatches : (p : ℕ → Bool) (ns : List ℕ) (k : ℕ) (ps : List Dispatch) → numbers_of ps ≡ filter p (take k ns) → length ps ≤ k
few_dispatches p ns k ps order =
    let one = few_filtered p (take k ns) in
    let two = take_few ns k in
    let three : length (numbers_of ps) ≡ length (filter p (take k ns)) = ap length order in
    let four : length (numbers_of ps) ≡ length (map (λ (q : Dispatch). q.subscription) ps) =
    length-reverse (map (λ (q : Dispatch). q.subscription) ps) in
    let five : length (map (λ (q : Dispatch). q.subscription) ps) ≡ length ps = length-map ps (λ (q : Dispatch). q.subscription) in
    omega (arith, one, two, three, four, five)

-- the deliveries so far: these dispatches were made, for all subscriptions before this place for which a notice waits, and
-- none ended in a fault
pub record SoFar (t : LentTell) (m n : Managed) (now k : ℕ) (made : Deliveries) (H : List Event) (w v : Lent) : Type 0 where
  pub dispatches : List Dispatch
  pub works : Works t.site m.ledger.manager H (went (once_all_dispatched now H dispatches)) n w.site v.site
  pub saved : n.ledger.saved ≡ m.ledger.saved
  pub dispatches_do : DispatchesDo t m.ledger.manager now H dispatches w.carrier v.carrier
  pub order : numbers_of dispatches ≡ filter (waits m.ledger.manager H) (take k (live_numbers H))
  pub counts : CountsDispatches made dispatches

abbrev pub RoundSoFar : LentTell → Managed → Managed → ℕ → ℕ → Deliveries → Lent → Lent → Type 0
RoundSoFar t m n now k made w v = (H : List Event) → IsReady t.site m H w.site → SoFar t m n now k made H w v

-- nothing was delivered yet
pub none_yet : (t : LentTell) (m : Managed) (now : ℕ) (w : Lent) → Idles t.site w.site
    → RoundSoFar t m m now 0 (record { delivered = 0; not_taken = 0 }) w w
none_yet t m now w idles = λ H ready. record {
  dispatches = [];
  works = idles m H ready;
  saved = refl;
  dispatches_do = refl;
  order = front_none (waits m.ledger.manager H) (live_numbers H);
  counts = record { delivered = refl; not_taken = refl };
} where
  front_none : (p : ℕ → Bool) (ns : List ℕ) → [] ≡ filter p (take 0 ns)
  front_none p [] = refl
  front_none p (n ∷ ns) = refl

-- the manager is ready for one more
pub ready_so_far : (t : LentTell) (m n : Managed) (now k : ℕ) (made : Deliveries) (w v : Lent) → RoundSoFar t m n now k made w v
    → LeadsOn t.site w.site v.site → (H : List Event) → IsReady t.site m H w.site
    → (ps : List Dispatch) × IsReady t.site n (once_all_dispatched now H ps) v.site
ready_so_far t m n now k made w v so_far leads H ready =
    let it = so_far H ready in
    (it.dispatches, leads m.ledger.manager H (went (once_all_dispatched now H it.dispatches)) n it.works refl)

few_kept : (p : Dispatch → Bool) (ps : List Dispatch) → length (filter p ps) ≤ length ps
few_kept p [] = omega arith
few_kept p (d ∷ ps) =
    let rest = few_kept p ps in
    by_test (p d) (λ yes. rw yes (omega (arith, rest))) (λ no. rw no (omega (arith, rest)))

one_further : (n : ℕ) → n < 2 ^ 64 - 1 → one_more n ≡ suc n
one_further n h = omega (arith, h)

-- those of these dispatches that were taken, and those that weren't
abbrev were_taken : List Dispatch → List Dispatch
were_taken ps = filter (λ (p : Dispatch). is_delivered (outcome_of p.answer)) ps

abbrev were_untaken : List Dispatch → List Dispatch
were_untaken ps = filter (λ (p : Dispatch). not (is_delivered (outcome_of p.answer))) ps

taken_as : (d : Dispatch) (ps : List Dispatch) (how : PostOutcome) → outcome_of d.answer ≡ how
    → taken (d ∷ ps) ≡ length (cond (is_delivered how) (d ∷ were_taken ps) (were_taken ps))
taken_as d ps how is = ap (λ (o : PostOutcome). length (cond (is_delivered o) (d ∷ were_taken ps) (were_taken ps))) is

untaken_as : (d : Dispatch) (ps : List Dispatch) (how : PostOutcome) → outcome_of d.answer ≡ how
    → untaken (d ∷ ps) ≡ length (cond (not (is_delivered how)) (d ∷ were_untaken ps) (were_untaken ps))
untaken_as d ps how is = ap (λ (o : PostOutcome). length (cond (not (is_delivered o)) (d ∷ were_untaken ps) (were_untaken ps))) is

-- one dispatch more counts by its outcome
counted_one : (made : Deliveries) (ps : List Dispatch) (d : Dispatch) (how : PostOutcome) → outcome_of d.answer ≡ how
    → length ps < 2 ^ 64 - 1 → CountsDispatches made ps → CountsDispatches (counted (delivery_of how) made) (d ∷ ps)
counted_one made ps d Delivered is few counts =
    let low = few_kept (λ (p : Dispatch). is_delivered (outcome_of p.answer)) ps in
    record {
      delivered = ap one_more counts.delivered ∙ (one_further (taken ps) (omega (arith, low, few)) ∙ sym (taken_as d ps Delivered is));
      not_taken = counts.not_taken ∙ sym (untaken_as d ps Delivered is);
    }
counted_one made ps d NotTaken is few counts =
    let low = few_kept (λ (p : Dispatch). not (is_delivered (outcome_of p.answer))) ps in
    record {
      delivered = counts.delivered ∙ sym (taken_as d ps NotTaken is);
      not_taken = ap one_more counts.not_taken ∙ (one_further (untaken ps) (omega (arith, low, few)) ∙ sym (untaken_as d ps NotTaken is));
    }

-- the subscriptions before the next place for which a notice waits, by whether one waits for the one at this place
front_more : (p : ℕ → Bool) (ns : List ℕ) (k s : ℕ) (b : Bool) → slice_get ns k ≡ Some s → p s ≡ b
    → filter p (take (k + 1) ns) ≡ filter p (take k ns) ++ cond b (s ∷ []) []
front_more p ns k s b at is =
    let next : k + 1 ≡ suc k = omega arith in
    ap (λ (i : ℕ). filter p (take i ns)) next ∙ (ap (filter p) (take_more ns k s at) ∙ filter_end p (take k ns) s b is)

-- one delivery more, by its course
by_course : (t : LentTell) (m n p : Managed) (now k s : ℕ) (made : Deliveries) (done : Delivery) (H : List Event) (w u v : Lent)
    → (it : SoFar t m n now k made H w u) → slice_get (live_numbers H) k ≡ Some s
    → first_waiting m.ledger.manager (once_all_dispatched now H it.dispatches) s ≡ first_waiting m.ledger.manager H s → k < 2 ^ 64 - 1
    → Joins t.site w.site u.site v.site → (c : Course)
    → Delivers t (point m.ledger.manager m.ledger.saved now (once_all_dispatched now H it.dispatches)) s c (Ok done) p u v
    → SoFar t m p now (k + 1) (counted done made) H w v
by_course t m n p now k s made done H w u v it at still few joins idle did =
    let i = m.ledger.manager in
    let G = once_all_dispatched now H it.dispatches in
    let none : waits i H s ≡ false = ap is_some (sym still ∙ did.course.0) in
    record {
      dispatches = it.dispatches;
      works = joins i H G (went G) n p it.works did.works;
      saved = did.saved;
      dispatches_do = subst (λ (x : Carrier). DispatchesDo t i now H it.dispatches w.carrier x) (sym did.carries) it.dispatches_do;
      order = it.order ∙ (sym (nil_right (filter (waits i H) (take k (live_numbers H))))
          ∙ sym (front_more (waits i H) (live_numbers H) k s false at none));
      counts = subst (λ (x : Delivery). CountsDispatches (counted x made) it.dispatches) (sym did.course.1) it.counts;
    }
by_course t m n p now k s made done H w u v it at still few joins (held place) did = absurd did.course
by_course t m n p now k s made done H w u v it at still few joins (sent d) did =
    let i = m.ledger.manager in
    let G = once_all_dispatched now H it.dispatches in
    let own : d.subscription ≡ s = did.course.0 in
    let next : first_waiting i G s ≡ Some d.place = subst (λ (x : ℕ). first_waiting i G x ≡ Some d.place) own did.carries.next in
    let some : waits i H s ≡ true = ap is_some (sym still ∙ next) in
    let less = few_dispatches (waits i H) (live_numbers H) k it.dispatches it.order in
    record {
      dispatches = d ∷ it.dispatches;
      works = joins i H G (went (once_dispatched now G d)) n p it.works did.works;
      saved = did.saved;
      dispatches_do = (u.carrier, it.dispatches_do, did.carries);
      order = reverse-cons d.subscription (map (λ (x : Dispatch). x.subscription) it.dispatches)
          ∙ (ap (λ (ns : List ℕ). ns ++ d.subscription ∷ []) it.order
          ∙ (ap (λ (x : ℕ). filter (waits i H) (take k (live_numbers H)) ++ x ∷ []) own
          ∙ sym (front_more (waits i H) (live_numbers H) k s true at some)));
      counts = subst (λ (x : Delivery). CountsDispatches (counted x made) (d ∷ it.dispatches)) (sym did.course.1)
          (counted_one made it.dispatches d (outcome_of d.answer) refl (omega (arith, less, few)) it.counts);
    }

-- the deliveries go on
pub one_delivery_more : (t : LentTell) (m n p : Managed) (now k s : ℕ) (made more : Deliveries) (done : Delivery) (w u v : Lent)
    → more ≡ counted done made → RoundSoFar t m n now k made w u → LeadsOn t.site w.site u.site → Joins t.site w.site u.site v.site
    → ((G : List Event) → IsReady t.site n G u.site → slice_get (live_numbers G) k ≡ Some s)
    → ((G : List Event) → IsReady t.site n G u.site → (c : Course) × Delivers t (point n.ledger.manager n.ledger.saved now G) s c
    (Ok done) p u v)
    → k < 2 ^ 64 - 1 → RoundSoFar t m p now (k + 1) more w v
one_delivery_more t m n p now k s made more done w u v is so_far leads joins next deliver few = λ H ready.
    let it = so_far H ready in
    let G = once_all_dispatched now H it.dispatches in
    let upon = leads m.ledger.manager H (went G) n it.works refl in
    let did = deliver G upon in
    let at : slice_get (live_numbers H) k ≡ Some s =
    subst (λ (ns : List ℕ). slice_get ns k ≡ Some s) (live_through now H it.dispatches) (next G upon) in
    subst (λ (x : Deliveries). SoFar t m p now (k + 1) x H w v) (sym is)
    (by_course t m n p now k s made done H w u v it at
    (still_waits m.ledger.manager now H s k it.dispatches ready.keeps.kept.legal at it.order) few joins did.0
    (subst (λ (i : ℕ). Delivers t (point i m.ledger.saved now G) s did.0 (Ok done) p u v) it.works.number
    (subst (λ (z : ℕ). Delivers t (point n.ledger.manager z now G) s did.0 (Ok done) p u v) it.saved did.1)))

-- all deliveries were made
pub went_through : (t : LentTell) (m n : Managed) (now k : ℕ) (made : Deliveries) (w v : Lent) → RoundSoFar t m n now k made w v
    → ((H : List Event) → IsReady t.site m H w.site → length (live_numbers H) ≤ k)
    → (H : List Event) → IsReady t.site m H w.site
    → (ps : List Dispatch) × (end : RoundEnd) × DeliversAll t (point m.ledger.manager m.ledger.saved now H) ps end n w v × EndsRound
    (Ok made) ps end
went_through t m n now k made w v so_far over H ready =
    let it = so_far H ready in (
      it.dispatches,
      through,
      record {
        works = it.works;
        saved = it.saved;
        between = v.carrier;
        dispatches_do = it.dispatches_do;
        end_does = refl;
        order = it.order ∙ ap (filter (waits m.ledger.manager H)) (take_whole (live_numbers H) k (over H ready));
      },
      it.counts,
    )

-- a delivery that ended in a fault was of a notice that waits
must_wait : (t : LentTell) (m : ℕ) (G : List Event) (s : ℕ) (c : Course) (why : DeliveryFault) (a b : Carrier)
    → IsCourse t m G s c (Err why) → Carries t m G c a b → is_some (first_waiting m G s) ≡ true
must_wait t m G s idle why a b course carries = absurd course
must_wait t m G s (held place) why a b course carries = ap is_some course.0
must_wait t m G s (sent d) fault.Disk a b course carries =
    ap is_some (subst (λ (x : ℕ). first_waiting m G x ≡ Some d.place) course carries.next)
must_wait t m G s (sent d) fault.Memory a b course carries = absurd course
must_wait t m G s (sent d) (fault.BadRecord n) a b course carries = absurd course
must_wait t m G s (sent d) (fault.Full end more) a b course carries = absurd course

-- a delivery ended in a fault
pub was_stopped : (t : LentTell) (m n p : Managed) (now k s : ℕ) (made : Deliveries) (why : DeliveryFault) (w u v : Lent)
    → RoundSoFar t m n now k made w u → LeadsOn t.site w.site u.site → Joins t.site w.site u.site v.site
    → ((G : List Event) → IsReady t.site n G u.site → slice_get (live_numbers G) k ≡ Some s)
    → ((G : List Event) → IsReady t.site n G u.site → (c : Course) × Delivers t (point n.ledger.manager n.ledger.saved now G) s c
    (Err why) p u v)
    → (H : List Event) → IsReady t.site m H w.site
    → (ps : List Dispatch) × (end : RoundEnd) × DeliversAll t (point m.ledger.manager m.ledger.saved now H) ps end p w v × EndsRound
    (Err why) ps end
was_stopped t m n p now k s made why w u v so_far leads joins next deliver H ready =
    let i = m.ledger.manager in
    let it = so_far H ready in
    let G = once_all_dispatched now H it.dispatches in
    let ns = live_numbers H in
    let upon = leads i H (went G) n it.works refl in
    let made_of = deliver G upon in
    let c : Course = made_of.0 in
    let z = m.ledger.saved in
    let did : Delivers t (point i z now G) s c (Err why) p u v =
    subst (λ (j : ℕ). Delivers t (point j z now G) s c (Err why) p u v) it.works.number
    (subst (λ (j : ℕ). Delivers t (point n.ledger.manager j now G) s c (Err why) p u v) it.saved made_of.1) in
    let at : slice_get ns k ≡ Some s =
    subst (λ (xs : List ℕ). slice_get xs k ≡ Some s) (live_through now H it.dispatches) (next G upon) in
    let still = still_waits i now H s k it.dispatches ready.keeps.kept.legal at it.order in
    let some : waits i H s ≡ true =
    subst (λ (x : Option ℕ). is_some x ≡ true) still (must_wait t i G s c why u.carrier v.carrier did.course did.carries) in
    let rest : List ℕ = filter (waits i H) (drop (suc k) ns) in (
      it.dispatches,
      stopped s c why,
      record {
        works = joins i H G (course_work now G c (Err why)) n p it.works did.works;
        saved = did.saved;
        between = u.carrier;
        dispatches_do = it.dispatches_do;
        end_does = (did.course, did.carries, did.room);
        order = (
          rest,
          ap (λ (xs : List ℕ). xs ++ s ∷ rest) it.order
              ∙ sym (ap (filter (waits i H)) (parted_at ns k s at)
              ∙ (filter-append (waits i H) (take k ns) (s ∷ drop (suc k) ns)
              ∙ ap (λ (x : Bool). filter (waits i H) (take k ns) ++ cond x (s ∷ rest) rest) some)),
        );
      },
      refl,
    )
