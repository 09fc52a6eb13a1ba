-- The notices of a subscription, one after another.
use Rattle.std.proofs.Common.{◌≡◌, ◌≤◌, ◌<◌, ◌+◌, ◌++◌, ◌==◌, ◌&&◌, ◌||◌, ◌∙◌, ◌⊎◌, ℕ, suc, List, [], ◌∷◌, Bool, true, false, cond, not}
use Rattle.std.proofs.Common.{Option, None, Some, is_some, refl, ap, sym, subst, length, map, filter, find, arith, inl, inr, nat_le}
use Rattle.std.proofs.Common.{nat_lt, eqb-true, eq-eqb, leb-true, le-leb, lt-ltb, ltb-true, ltb-false, ⊎_elim, length-append}
use Rattle.std.specs.List.{cons_option, list_any}
use Rattle.std.specs.Prelude.{option_and_then, unwrap_or}
use Rattle.executor.specs.Managed.{Managed}
use Rattle.executor.specs.Reading.{event_in}
use Rattle.executor.specs.Work.{HasSome, aimed}
use Rattle.instance_table.proofs.DeliveryLaws.{cursor-other, cursor-posted, tries-next}
use Rattle.instance_table.proofs.Sorted.{Falls, Under}
use Rattle.lcm_events.specs.declared.events.Event.{Event}
use Rattle.lcm_events.specs.declared.events.EventKind.{EventKind}
use Rattle.lcm_events.specs.declared.events.EventKind.TheVariants.{Posted, Subscribed}
use Rattle.lcm_events.specs.declared.events.PostOutcome.{PostOutcome}
use Rattle.lcm_events.specs.declared.filters.Filter.{Filter}
use Rattle.lcm_events.specs.declared.states.Role.{Role}
use Rattle.lcm_laws.proofs.Histories.{event, legal_induction}
use Rattle.lcm_laws.proofs.Lists.{by_test}
use Rattle.lcm_laws.proofs.Members.{in_filter, of_filter}
use Rattle.lcm_laws.proofs.NumberLaws.{found_within, subscriptions_counted}
use Rattle.lcm_model.specs.Allowed.{IsAllowedWithin, IsLegal}
use Rattle.lcm_model.specs.Lives.{Subscription, subscribed_in, subscription, subscriptions}
use Rattle.lcm_model.specs.Notices.{cursor, is_delivered, is_noticed, is_passed, next_notice, notice_in, notices, posted_in, posts}
use Rattle.lcm_model.specs.Notices.{subscribed_at, subscribed_in_place, tries}
use Rattle.lcm_model.specs.Words.{IsIn, first, greatest, last, told, when}
use Rattle.lcm_model.specs.Work.{window}
use Rattle.notice_table.proofs.Lists.{last_in, under_in, under_more}
use Rattle.notice_table.proofs.WaitLaws.{cursor_within}
use Rattle.notice_table.specs.Queues.{first_waiting}
use Rattle.notify_outbox.proofs.NoticeLemmas.{Parted, event_parted, events_stay, its_place, parted, parted_within, then_some, waits_next}
use Rattle.notify_outbox.specs.Delivering.{held, idle, sent}
use Rattle.notify_outbox.specs.Dispatches.{Dispatch}
use Rattle.notify_outbox.specs.Laws.{HasItsEvent, LeavesEvent, NoneIsPostedTooOften, NoneIsSkipped, NoticesGoInOrder}
use Rattle.notify_outbox.specs.Laws.{RoundsTellOfTheirBeginning, all_made}
use Rattle.notify_outbox.specs.Lent.{Carrier, Lent, LentTell, Point}
use Rattle.notify_outbox.specs.Rounds.{DeliversAll, DispatchesDo, EndDoes, RoundEnd, end_work, once_all_dispatched, stopped, through}
use Rattle.site_traits.specs.Moments.{weakened}
use Rattle.site_traits.specs.Site.{LeavesOnly}

-- posts: the place of each, and whether it was delivered
abbrev Sent : Type 0
Sent = List (ℕ × Bool)

-- the notice at a place is passed by these posts
abbrev passed : Sent → ℕ → Bool
passed ps q = list_any (λ p. (p.0 == q) && p.1) ps || nat_le 5 (length (filter (λ p. (p.0 == q) && not p.1) ps))

-- what is passed was posted
delivered_there : (q : ℕ) (ps : Sent) → list_any (λ p. (p.0 == q) && p.1) ps ≡ true → IsIn q (map (λ p. p.0) ps)
delivered_there q [] e = cc
delivered_there q (p ∷ ps) e = by_test (p.0 == q)
    (λ same. inl (eqb-true p.0 q same))
    (λ other. let rest : list_any (λ p. (p.0 == q) && p.1) ps ≡ true = rw other at e in inr (delivered_there q ps rest))

missed_there : (q : ℕ) (ps : Sent) → 0 < length (filter (λ p. (p.0 == q) && not p.1) ps) → IsIn q (map (λ p. p.0) ps)
missed_there q [] h = absurd (omega (arith, h))
missed_there q (p ∷ ps) h = by_test (p.0 == q)
    (λ same. inl (eqb-true p.0 q same))
    (λ other. let rest : 0 < length (filter (λ p. (p.0 == q) && not p.1) ps) = rw other at h in inr (missed_there q ps rest))

passed_there : (q : ℕ) (ps : Sent) → passed ps q ≡ true → IsIn q (map (λ p. p.0) ps)
passed_there q ps e = by_test (list_any (λ p. (p.0 == q) && p.1) ps)
    (λ delivered. delivered_there q ps delivered)
    (λ none.
    let many : nat_le 5 (length (filter (λ p. (p.0 == q) && not p.1) ps)) ≡ true = rw none at e in
    let five = leb-true 5 (length (filter (λ p. (p.0 == q) && not p.1) ps)) many in
    missed_there q ps (omega (arith, five)))

in_greatest : (f : ℕ → Bool) (q : ℕ) (ns : List ℕ) → IsIn q ns → f q ≡ true → q ≤ greatest (filter f ns)
in_greatest f q [] h e = absurd h
in_greatest f q (n ∷ ns) (inl same) e =
    let yes : f n ≡ true = subst (λ (k : ℕ). f k ≡ true) (sym same) e in
    rw yes (omega (arith, same))
in_greatest f q (n ∷ ns) (inr h) e =
    let low = in_greatest f q ns h e in
    by_test (f n) (λ yes. rw yes (omega (arith, low))) (λ no. rw no low)

-- what is passed isn't past the cursor
passed_low : (H : List Event) (s q : ℕ) → is_passed H s q ≡ true → q ≤ cursor H s
passed_low H s q e =
    let low = in_greatest (is_passed H s) q (map (λ p. p.0) (posts H s)) (passed_there q (posts H s) e) e in
    omega (arith, low)

-- the first notice that waits is one past the cursor
next_past : (m : ℕ) (H : List Event) (s place : ℕ) → next_notice m H s ≡ Some place → IsIn place (notices m H s) × (cursor H s < place)
next_past m H s place e =
    let there = of_filter (nat_lt (cursor H s)) place (notices m H s) (last_in (filter (nat_lt (cursor H s)) (notices m H s)) place e) in
    (there.0, ltb-true (cursor H s) place there.1)

pub unpassed : NoneIsPostedTooOften
unpassed m H s place waits =
    let past = (next_past m H s place (waits_next m H s place waits).1).1 in
    by_test (is_passed H s place)
    (λ yes. let low = passed_low H s place yes in absurd (omega (arith, low, past)))
    (λ no. no)

-- the places of notices fall, and none is beyond the history
abbrev AreInOrder : ℕ → List ℕ → Type 0
AreInOrder b ns = Falls (λ n. n) ns × Under (λ n. n) b ns

one_more_place : (b : ℕ) (x : Option ℕ) (ns : List ℕ) → AreInOrder b ns → ((p : ℕ) → x ≡ Some p → p ≡ b)
    → AreInOrder (suc b) (cons_option x ns)
one_more_place b None ns h is = (h.0, under_more b (suc b) ns h.1 (omega arith))
one_more_place b (Some p) ns h is =
    let same = is p refl in
    let up = under_more b (suc b) ns h.1 (omega arith) in
    ((subst (λ (k : ℕ). Under (λ n. n) k ns) (sym same) h.1, h.0), (omega (arith, same), up))

notices_ordered : (m : ℕ) (H : List Event) (s : ℕ) → AreInOrder (length H + 1) (notices m H s)
notices_ordered m [] s = (tt, tt)
notices_ordered m (e ∷ H) s =
    let more : suc (length H + 1) ≡ suc (length H) + 1 = omega arith in
    subst (λ (b : ℕ). AreInOrder b (notices m (e ∷ H) s)) more
    (one_more_place (length H + 1) (notice_in m s H e.kind) (notices m H s) (notices_ordered m H s)
    (λ p is. (its_place m s H e.kind p is).0))

notice_within : (m : ℕ) (H : List Event) (s q : ℕ) → IsIn q (notices m H s) → q ≤ length H
notice_within m H s q h =
    let low = under_in (length H + 1) (notices m H s) q (notices_ordered m H s).1 h in
    omega (arith, low)

some_last : (xs : List ℕ) (q : ℕ) → IsIn q xs → (y : ℕ) × (last xs ≡ Some y)
some_last [] q h = absurd h
some_last (x ∷ xs) q h = (unwrap_or (last xs) x, refl)

-- of numbers that fall the last that passes a test is the least that does
least_in : (f : ℕ → Bool) (ns : List ℕ) (place q : ℕ) → Falls (λ n. n) ns → last (filter f ns) ≡ Some place → IsIn q ns → f q ≡ true
    → place ≤ q
least_in f [] place q falls e h p = absurd h
least_in f (n ∷ ns) place q falls e (inr h) p =
    let it = some_last (filter f ns) q (in_filter f q ns h p) in
    let low = least_in f ns it.0 q falls.1 it.1 h p in
    let same : it.0 ≡ place = by_test (f n)
    (λ yes. let last_is : last (n ∷ filter f ns) ≡ Some place = rw yes at e in
    let is : Some (unwrap_or (last (filter f ns)) n) ≡ Some place = last_is in
    some_same (subst (λ (x : Option ℕ). Some (unwrap_or x n) ≡ Some place) it.1 is))
    (λ no. let last_is : last (filter f ns) ≡ Some place = rw no at e in some_same (sym it.1 ∙ last_is)) in
    omega (arith, low, same)
  where
    some_same : {a b : ℕ} → Some a ≡ Some b → a ≡ b
    some_same is = cc
least_in f (n ∷ ns) place q falls e (inl same) p =
    let there = (of_filter f place (n ∷ ns) (last_in (filter f (n ∷ ns)) place e)).0 in
    ⊎_elim
    (λ (own : n ≡ place). omega (arith, own, same))
    (λ (later : IsIn place ns). let low = under_in n ns place falls.0 later in omega (arith, low, same))
    there

-- the place of Subscribed, event by event
subscribed_place : (s : ℕ) (H : List Event) (k : EventKind) (p : ℕ) → subscribed_in_place s H k ≡ Some p → p ≡ length H + 1
subscribed_place s H (Subscribed n role callback f) p e =
    by_test (n == s) (λ yes. let is : Some (length H + 1) ≡ Some p = rw yes at e in cc)
    (λ no. let is : None ≡ Some p = rw no at e in cc)
subscribed_place s H k p e = cc

place_rises : (x : Option ℕ) (xs : List ℕ) (n : ℕ) → ((p : ℕ) → x ≡ Some p → p ≡ n + 1) → unwrap_or (first xs) 0 ≤ n
    → (unwrap_or (first xs) 0 ≤ unwrap_or (first (cons_option x xs)) 0) × (unwrap_or (first (cons_option x xs)) 0 ≤ suc n)
place_rises None xs n is low = (omega arith, omega (arith, low))
place_rises (Some p) xs n is low = let at = is p refl in (omega (arith, at, low), omega (arith, at))

subscribed_within : (s : ℕ) (H : List Event) → subscribed_at H s ≤ length H
subscribed_within s [] = omega arith
subscribed_within s (e ∷ H) =
    (place_rises (subscribed_in_place s H e.kind) (told (subscribed_in_place s) H) (length H) (subscribed_place s H e.kind)
    (subscribed_within s H)).1

subscribed_rises : (s : ℕ) (e : Event) (H : List Event) → subscribed_at H s ≤ subscribed_at (e ∷ H) s
subscribed_rises s e H =
    (place_rises (subscribed_in_place s H e.kind) (told (subscribed_in_place s) H) (length H) (subscribed_place s H e.kind)
    (subscribed_within s H)).0

-- what is passed stays passed
passed_more : (p : ℕ × Bool) (ps : Sent) (q : ℕ) → passed ps q ≡ true → passed (p ∷ ps) q ≡ true
passed_more p ps q e = by_test ((p.0 == q) && p.1)
    (λ own. rw own refl)
    (λ other. by_test (list_any (λ p. (p.0 == q) && p.1) ps)
    (λ delivered. rw (other, delivered) refl)
    (λ none.
    let many : nat_le 5 (length (filter (λ p. (p.0 == q) && not p.1) ps)) ≡ true = rw none at e in
    let five = leb-true 5 (length (filter (λ p. (p.0 == q) && not p.1) ps)) many in
    rw (other, none) (by_test ((p.0 == q) && not p.1)
    (λ missed. rw missed (le-leb 5 (suc (length (filter (λ p. (p.0 == q) && not p.1) ps))) (omega (arith, five))))
    (λ not. rw not many))))

passed_on : (x : Option (ℕ × Bool)) (ps : Sent) (q : ℕ) → passed ps q ≡ true → passed (cons_option x ps) q ≡ true
passed_on None ps q e = e
passed_on (Some p) ps q e = passed_more p ps q e

greatest_more : (f g : ℕ → Bool) (ns : List ℕ) → ((n : ℕ) → f n ≡ true → g n ≡ true) → greatest (filter f ns) ≤ greatest (filter g ns)
greatest_more f g [] on = omega arith
greatest_more f g (n ∷ ns) on =
    let rest = greatest_more f g ns on in
    by_test (f n)
    (λ yes. let too = on n yes in rw (yes, too) (omega (arith, rest)))
    (λ no. by_test (g n) (λ more. rw (no, more) (omega (arith, rest))) (λ none. rw (no, none) rest))

far_rises : (a b : ℕ) (x : Option (ℕ × Bool)) (ps : Sent) → a ≤ b
    → greatest (a ∷ filter (passed ps) (map (λ p. p.0) ps))
    ≤ greatest (b ∷ filter (passed (cons_option x ps)) (map (λ p. p.0) (cons_option x ps)))
far_rises a b None ps le = omega (arith, le)
far_rises a b (Some p) ps le =
    let low = greatest_more (passed ps) (passed (p ∷ ps)) (map (λ p. p.0) ps) (λ n e. passed_more p ps n e) in
    by_test (passed (p ∷ ps) p.0) (λ yes. rw yes (omega (arith, le, low))) (λ no. rw no (omega (arith, le, low)))

-- the cursor never falls
cursor_rises : (s : ℕ) (later H : List Event) → cursor H s ≤ cursor (later ++ H) s
cursor_rises s [] H = omega arith
cursor_rises s (e ∷ later) H =
    let low = cursor_rises s later H in
    let up = far_rises (subscribed_at (later ++ H) s) (subscribed_at (e ∷ (later ++ H)) s) (posted_in s e.kind) (posts (later ++ H) s)
    (subscribed_rises s e (later ++ H)) in
    omega (arith, low, up)

-- a notice of a later history is one of the earlier, or is behind it
notice_back : (m s : ℕ) (later H : List Event) (q : ℕ) → IsIn q (notices m (later ++ H) s) → IsIn q (notices m H s) ⊎ (length H < q)
notice_back m s [] H q h = inl h
notice_back m s (e ∷ later) H q h = by (notice_in m s (later ++ H) e.kind) refl (λ g. notice_back m s later H q g) h
  where
    by : (x : Option ℕ) → notice_in m s (later ++ H) e.kind ≡ x
        → (IsIn q (notices m (later ++ H) s) → IsIn q (notices m H s) ⊎ (length H < q))
        → IsIn q (cons_option x (notices m (later ++ H) s)) → IsIn q (notices m H s) ⊎ (length H < q)
    by None is on g = on g
    by (Some p) is on (inr g) = on g
    by (Some p) is on (inl same) =
        let at = (its_place m s (later ++ H) e.kind p is).0 in
        inr (omega (arith, at, same, length-append later H))

ordered : (m s : ℕ) (H later : List Event) (place next : ℕ) → first_waiting m H s ≡ Some place → first_waiting m (later ++ H) s ≡ Some next
    → place ≤ next
ordered m s H later place next before now =
    let is = (waits_next m H s place before).1 in
    let past = next_past m (later ++ H) s next (waits_next m (later ++ H) s next now).1 in
    let rises = cursor_rises s later H in
    let up = past.1 in
    ⊎_elim
    (λ (old : IsIn next (notices m H s)). least_in (nat_lt (cursor H s)) (notices m H s) place next (notices_ordered m H s).0 is old
    (lt-ltb (cursor H s) next (omega (arith, up, rises))))
    (λ (new : length H < next).
    let low = notice_within m H s place (next_past m H s place is).0 in
    omega (arith, low, new))
    (notice_back m s later H next past.0)

pub in_order : NoticesGoInOrder
in_order m H G s place next more before now =
    ordered m s H more.more place next before (subst (λ (K : List Event). first_waiting m K s ≡ Some next) more.is now)

-- whoever has a notice was subscribed
found_more : (s : ℕ) (x : Option Subscription) (xs : List Subscription) → is_some (find (λ y. y.number == s) xs) ≡ true
    → is_some (find (λ y. y.number == s) (cons_option x xs)) ≡ true
found_more s None xs e = e
found_more s (Some x) xs e = by_test (x.number == s) (λ yes. rw yes refl) (λ no. rw no e)

noticed_subscribed : (m s : ℕ) (H : List Event) (q : ℕ) → IsIn q (notices m H s) → is_some (subscription H s) ≡ true
noticed_subscribed m s [] q h = absurd h
noticed_subscribed m s (e ∷ H) q h =
    found_more s (subscribed_in e.kind) (subscriptions H)
    (by (notice_in m s H e.kind) refl (λ g. noticed_subscribed m s H q g) h)
  where
    by : (x : Option ℕ) → notice_in m s H e.kind ≡ x → (IsIn q (notices m H s) → is_some (subscription H s) ≡ true)
        → IsIn q (cons_option x (notices m H s)) → is_some (subscription H s) ≡ true
    by None is on g = on g
    by (Some p) is on (inr g) = on g
    by (Some p) is on (inl same) =
        ap is_some (then_some (λ (sub : Subscription). when (is_noticed m H e.kind sub) (length H + 1)) (subscription H s) p is).1

-- neither a subscription nor a post makes a notice
no_notice : {A : Type 0} → (x : Option A) (n : ℕ) (ns : List ℕ) → cons_option (option_and_then (λ (y : A). when false n) x) ns ≡ ns
no_notice None n ns = refl
no_notice (Some y) n ns = refl

-- all notices up to the cursor are passed
abbrev ArePassed : ℕ → List Event → Type 0
ArePassed m H = (s q : ℕ) → IsIn q (notices m H s) → q ≤ cursor H s → is_passed H s q ≡ true

-- an event that makes no post
passed_still : (m s : ℕ) (H : List Event) (k : EventKind) (q : ℕ) → cursor H s ≤ length H → ArePassed m H
    → IsIn q (cons_option (notice_in m s H k) (notices m H s)) → q ≤ cursor H s → is_passed H s q ≡ true
passed_still m s H k q within h there low = by (notice_in m s H k) refl there
  where
    by : (x : Option ℕ) → notice_in m s H k ≡ x → IsIn q (cons_option x (notices m H s)) → is_passed H s q ≡ true
    by None is g = h s q g low
    by (Some p) is (inr g) = h s q g low
    by (Some p) is (inl same) =
        let at = (its_place m s H k p is).0 in
        absurd (omega (arith, at, same, low, within))

posts_own : (H : List Event) (time n place s : ℕ) (outcome : PostOutcome) → (n == s) ≡ true
    → posts (event time (Posted n place outcome) ∷ H) s ≡ (place, is_delivered outcome) ∷ posts H s
posts_own H time n place s outcome same = rw same refl

posts_other : (H : List Event) (time n place s : ℕ) (outcome : PostOutcome) → (n == s) ≡ false
    → posts (event time (Posted n place outcome) ∷ H) s ≡ posts H s
posts_other H time n place s outcome other = rw other refl

-- the post by which a notice is passed
passed_now : (place : ℕ) (d : Bool) (ps : Sent) → (d || nat_le 4 (length (filter (λ p. (p.0 == place) && not p.1) ps))) ≡ true
    → passed ((place, d) ∷ ps) place ≡ true
passed_now place true ps e = let own : (place == place) ≡ true = eq-eqb place place refl in rw own refl
passed_now place false ps e =
    let own : (place == place) ≡ true = eq-eqb place place refl in
    let many = leb-true 4 (length (filter (λ p. (p.0 == place) && not p.1) ps)) e in
    let five : nat_le 5 (suc (length (filter (λ p. (p.0 == place) && not p.1) ps))) ≡ true =
    le-leb 5 (suc (length (filter (λ p. (p.0 == place) && not p.1) ps))) (omega (arith, many)) in
    by_test (list_any (λ p. (p.0 == place) && p.1) ps)
    (λ delivered. rw (own, delivered) refl)
    (λ none. rw (own, none) five)

-- up to the cursor behind a post
passed_posted : (m s place : ℕ) (d b : Bool) (H : List Event) (q : ℕ) → ArePassed m H → next_notice m H s ≡ Some place
    → (d || nat_le 4 (tries H s place)) ≡ b → IsIn q (notices m H s) → q ≤ cond b place (cursor H s)
    → passed ((place, d) ∷ posts H s) q ≡ true
passed_posted m s place d false H q h next is there low = passed_more (place, d) (posts H s) q (h s q there low)
passed_posted m s place d true H q h next is there low = by_test (nat_lt (cursor H s) q)
    (λ past.
    let least = least_in (nat_lt (cursor H s)) (notices m H s) place q (notices_ordered m H s).0 next there past in
    let same : place ≡ q = omega (arith, least, low) in
    subst (λ (k : ℕ). passed ((place, d) ∷ posts H s) k ≡ true) same (passed_now place d (posts H s) is))
    (λ before.
    let up = ltb-false (cursor H s) q before in
    passed_more (place, d) (posts H s) q (h s q there (omega (arith, up))))

cursor_older : (H : List Event) (time n s : ℕ) (role : Role) (callback : List ℕ) (f : Filter) → (n == s) ≡ false
    → cursor (event time (Subscribed n role callback f) ∷ H) s ≡ cursor H s
cursor_older H time n s role callback f other = rw other refl

passed_step : (m : ℕ) (H : List Event) (time : ℕ) (k : EventKind) → IsLegal m H → IsAllowedWithin window m H k → ArePassed m H
    → ArePassed m (event time k ∷ H)
passed_step m H time (Subscribed n role callback f) legal allowed h s q there low =
    let still : IsIn q (notices m H s) = subst (λ (ns : List ℕ). IsIn q ns)
    (no_notice (subscription H s) (length H + 1) (notices m H s)) there in
    by_test (n == s)
    (λ same.
    let is : n ≡ s = eqb-true n s same in
    let within = (found_within (λ x. x.number) (subscriptions H) s (subscriptions_counted window m H legal)
    (noticed_subscribed m s H q still)).1 in
    let number = allowed.number in
    absurd (omega (arith, is, number, within)))
    (λ other. h s q still (subst (λ (c : ℕ). q ≤ c) (cursor_older H time n s role callback f other) low))
passed_step m H time (Posted n place outcome) legal allowed h s q there low =
    let still : IsIn q (notices m H s) = subst (λ (ns : List ℕ). IsIn q ns)
    (no_notice (subscription H s) (length H + 1) (notices m H s)) there in
    by_test (n == s)
    (λ same.
    let is : n ≡ s = eqb-true n s same in
    let next : next_notice m H s ≡ Some place = subst (λ (i : ℕ). next_notice m H i ≡ Some place) is allowed.next in
    let tried = tries-next window m H legal s place next in
    let cursor_is = cursor-posted window m H time n place s outcome legal allowed same
    ∙ ap (λ (k : ℕ). cond (is_delivered outcome || nat_le 4 k) place (cursor H s)) tried in
    subst (λ (ps : Sent). passed ps q ≡ true) (sym (posts_own H time n place s outcome same))
    (passed_posted m s place (is_delivered outcome) (is_delivered outcome || nat_le 4 (tries H s place)) H q h next refl still
    (subst (λ (c : ℕ). q ≤ c) cursor_is low)))
    (λ other.
    subst (λ (ps : Sent). passed ps q ≡ true) (sym (posts_other H time n place s outcome other))
    (h s q still (subst (λ (c : ℕ). q ≤ c) (cursor-other H time n place s outcome other) low)))
passed_step m H time k legal allowed h s q there low = passed_still m s H k q (cursor_within window m H legal s) h there low

all_passed : (m : ℕ) (H : List Event) → IsLegal m H → ArePassed m H
all_passed m H legal = legal_induction window m (ArePassed m) (λ s q there low. absurd there)
    (λ H time k legal allowed h. passed_step m H time k legal allowed h) H legal

pub none_skipped : NoneIsSkipped
none_skipped m H s place earlier legal waits there before =
    let next = (waits_next m H s place waits).1 in
    by_test (nat_lt (cursor H s) earlier)
    (λ past.
    let low = least_in (nat_lt (cursor H s)) (notices m H s) place earlier (notices_ordered m H s).0 next there past in
    absurd (omega (arith, low, before)))
    (λ low. all_passed m H legal s earlier there (let up = ltb-false (cursor H s) earlier low in omega (arith, up)))

-- dispatches make no notice
notices_through : (m s now : ℕ) (H : List Event) (ps : List Dispatch) → notices m (once_all_dispatched now H ps) s ≡ notices m H s
notices_through m s now H [] = refl
notices_through m s now H (p ∷ before) =
    let G = once_all_dispatched now H before in
    no_notice (subscription G s) (length G + 1) (notices m G s) ∙ notices_through m s now H before

-- the event at which a history is parted is in each that goes on from it
parted_stays : (H : List Event) (place : ℕ) → (part : Parted H place) → HasItsEvent H place
parted_stays H place part =
    let within = parted_within H place part in
    record {
      event = part.event;
      stays = λ G extends. ap (λ (K : List Event). event_in K place) extends.is
          ∙ (events_stay extends.more H place within.0 within.1 ∙ event_parted H place part);
    }

pub from_beginning : RoundsTellOfTheirBeginning
from_beginning m now H ps s place waits =
    let G = once_all_dispatched now H ps in
    let there = (next_past m G s place (waits_next m G s place waits).1).0 in
    parted_stays H place (parted m s H place (subst (λ (ns : List ℕ). IsIn place ns) (notices_through m s now H ps) there))

-- so it is of each dispatch of a round
made_before : (t : LentTell) (m now : ℕ) (H : List Event) (ps : List Dispatch) (x : Dispatch) (a b : Carrier)
    → DispatchesDo t m now H ps a b → IsIn x ps → HasItsEvent H x.place
made_before t m now H [] x a b did there = absurd there
made_before t m now H (p ∷ before) x a b did (inr later) = made_before t m now H before x a did.0 did.1 later
made_before t m now H (p ∷ before) x a b did (inl same) =
    subst (λ (d : Dispatch). HasItsEvent H d.place) same (from_beginning m now H before p.subscription p.place did.2.next)

either_made : (t : LentTell) (m z now : ℕ) (H : List Event) (ps : List Dispatch) (end : RoundEnd) (x : Dispatch) (a b c : Carrier)
    → DispatchesDo t m now H ps a b → EndDoes t m z now (once_all_dispatched now H ps) end b c → IsIn x (all_made ps end)
    → HasItsEvent H x.place
either_made t m z now H ps through x a b c did does there = made_before t m now H ps x a b did there
either_made t m z now H ps (stopped s idle why) x a b c did does there = made_before t m now H ps x a b did there
either_made t m z now H ps (stopped s (held place) why) x a b c did does there = made_before t m now H ps x a b did there
either_made t m z now H ps (stopped s (sent p) why) x a b c did does (inr before) = made_before t m now H ps x a b did before
either_made t m z now H ps (stopped s (sent p) why) x a b c did does (inl same) =
    subst (λ (d : Dispatch). HasItsEvent H d.place) same (from_beginning m now H ps p.subscription p.place does.1.next)

-- and each stop leaves it since the deliveries began
pub stands_since : (t : LentTell) (p : Point) (ps : List Dispatch) (end : RoundEnd) (n : Managed) (w v : Lent)
    → DeliversAll t p ps end n w v → t.site → (x : Dispatch) → IsIn x (all_made ps end)
    → (e : Event) × LeavesOnly (LeavesEvent p.manager x.place e) w.site v.site
stands_since t p ps end n w v did told x there =
    let K = end_work p.moment (once_all_dispatched p.moment p.history ps) end in
    let has = either_made t p.manager p.saved p.moment p.history ps end x w.carrier did.between v.carrier did.dispatches_do did.end_does
    there in (
      has.event,
      weakened (LeavesEvent p.manager x.place has.event) (HasSome p.manager p.history (aimed K)) w.site v.site
          (did.works.site told).any_moment
          (λ q some. record { history = some.history; file = some.file; has = has.stays some.history some.from }),
    )
