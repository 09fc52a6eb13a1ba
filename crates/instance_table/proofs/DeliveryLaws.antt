-- How far the notices of a subscription were delivered, event by event.
use Rattle.std.proofs.Common.{◌≡◌, ◌≤◌, ◌<◌, ◌+◌, ◌==◌, ◌&&◌, ◌||◌, ◌∙◌, ℕ, List, [], ◌∷◌, suc, Bool, true, false, cond, not, Option, None}
use Rattle.std.proofs.Common.{Some, is_some, refl, ap, sym, subst, length, map, filter, arith, eqb-true, eq-eqb, nat_le, nat_lt, leb-true}
use Rattle.std.proofs.Common.{leb-false, le-leb, lt-ltb, ltb-true, ltb-false, le-ltb}
use Rattle.std.specs.List.{cons_option, list_any}
use Rattle.lcm_events.specs.declared.events.Event.{Event}
use Rattle.lcm_events.specs.declared.events.EventKind.{EventKind}
use Rattle.lcm_events.specs.declared.events.EventKind.TheVariants.{Posted, Subscribed}
use Rattle.lcm_events.specs.declared.events.PostOutcome.{PostOutcome}
use Rattle.lcm_events.specs.declared.filters.Filter.{Filter}
use Rattle.lcm_events.specs.declared.states.Role.{Role}
use Rattle.std.specs.Prelude.{unwrap_or}
use Rattle.lcm_model.specs.Allowed.{IsAllowedWithin, IsLegalWithin}
use Rattle.lcm_model.specs.Lives.{is_unsubscribed, subscription, subscriptions, subscriptions_made}
use Rattle.lcm_model.specs.Notices.{cursor, is_delivered, next_notice, notice_in, notices, posts, subscribed_at, tries}
use Rattle.lcm_model.specs.Words.{greatest, last}
use Rattle.lcm_laws.proofs.Histories.{event, legal_induction}
use Rattle.lcm_laws.proofs.Lists.{and_left, by_test}
use Rattle.lcm_laws.proofs.NumberLaws.{found_within, subscriptions_counted}
use Rattle.instance_table.specs.Rows.{tries_past}

-- posts: the place of each, and whether it was delivered
abbrev Posts : Type 0
Posts = List (ℕ × Bool)

-- how often the notice at a place was posted and not taken
abbrev missed : Posts → ℕ → ℕ
missed ps q = length (filter (λ p. (p.0 == q) && not p.1) ps)

-- the notice at a place is passed by these posts
abbrev passed : Posts → ℕ → Bool
passed ps q = list_any (λ p. (p.0 == q) && p.1) ps || nat_le 5 (missed ps q)

-- the places of posts
abbrev places : Posts → List ℕ
places ps = map (λ p. p.0) ps

-- the greatest place that is passed, or the place from which notices count
abbrev far : ℕ → Posts → ℕ
far at ps = greatest (at ∷ filter (passed ps) (places ps))

-- how many posts past a place weren't taken
abbrev missed_past : ℕ → Posts → ℕ
missed_past c ps = length (filter (λ p. nat_lt c p.0 && not p.1) ps)

-- the posts past a place are those at another
abbrev Agrees : ℕ → ℕ → Posts → Type 0
Agrees c place [] = Unit {0}
Agrees c place (p ∷ ps) = (nat_lt c p.0 ≡ (p.0 == place)) × Agrees c place ps

same_missed : (c place : ℕ) (ps : Posts) → Agrees c place ps → missed ps place ≡ missed_past c ps
same_missed c place [] a = refl
same_missed c place (p ∷ ps) a =
    let rest = same_missed c place ps a.1 in
    rw a.0 (by_test ((p.0 == place) && not p.1) (λ yes. rw yes (ap suc rest)) (λ no. rw no rest))

-- a place without a post
unposted : (q : ℕ) (ps : Posts) → list_any (λ p. p.0 == q) ps ≡ false → passed ps q ≡ false
unposted q ps e = rw (none_delivered q ps e, none_missed q ps e) refl where
  none_delivered : (q : ℕ) (ps : Posts) → list_any (λ p. p.0 == q) ps ≡ false → list_any (λ p. (p.0 == q) && p.1) ps ≡ false
  none_delivered q [] e = refl
  none_delivered q (p ∷ ps) e = by_test (p.0 == q)
      (λ same. let clash : true ≡ false = subst (λ (b : Bool). (b || list_any (λ p. p.0 == q) ps) ≡ false) same e in cc)
      (λ other. let rest : list_any (λ p. p.0 == q) ps ≡ false = subst (λ (b : Bool). (b || list_any (λ p. p.0 == q) ps) ≡ false) other e in
      rw other (none_delivered q ps rest))

  none_missed : (q : ℕ) (ps : Posts) → list_any (λ p. p.0 == q) ps ≡ false → missed ps q ≡ 0
  none_missed q [] e = refl
  none_missed q (p ∷ ps) e = by_test (p.0 == q)
      (λ same. let clash : true ≡ false = subst (λ (b : Bool). (b || list_any (λ p. p.0 == q) ps) ≡ false) same e in cc)
      (λ other. let rest : list_any (λ p. p.0 == q) ps ≡ false = subst (λ (b : Bool). (b || list_any (λ p. p.0 == q) ps) ≡ false) other e in
      rw other (none_missed q ps rest))

among_greatest : (f : ℕ → Bool) (q : ℕ) (ps : Posts) → f q ≡ true → list_any (λ p. p.0 == q) ps ≡ true → q ≤ greatest (filter f (places ps))
among_greatest f q [] e there = cc
among_greatest f q (p ∷ ps) e there = by_test (p.0 == q)
    (λ same.
    let is : p.0 ≡ q = eqb-true p.0 q same in
    let yes : f p.0 ≡ true = subst (λ (n : ℕ). f n ≡ true) (sym is) e in
    rw yes (omega (arith, is)))
    (λ other.
    let rest : list_any (λ p. p.0 == q) ps ≡ true = subst (λ (b : Bool). (b || list_any (λ p. p.0 == q) ps) ≡ true) other there in
    let low = among_greatest f q ps e rest in
    by_test (f p.0) (λ yes. rw yes (omega (arith, low))) (λ no. rw no low))

-- what is past the greatest place that is passed isn't passed
not_passed : (at q : ℕ) (ps : Posts) → far at ps < q → passed ps q ≡ false
not_passed at q ps h = by_test (list_any (λ p. p.0 == q) ps)
    (λ there. by_test (passed ps q)
    (λ yes. let low = among_greatest (passed ps) q ps yes there in absurd (omega (arith, low, h)))
    (λ no. no))
    (λ none. unposted q ps none)

-- a post at one place changes nothing at another
passed_other : (place q : ℕ) (d : Bool) (ps : Posts) → (place == q) ≡ false → passed ((place, d) ∷ ps) q ≡ passed ps q
passed_other place q d ps other = rw other refl

or_right : (a b : Bool) → (a || b) ≡ false → b ≡ false
or_right true b e = cc
or_right false b e = e

or_left : (a b : Bool) → (a || b) ≡ false → a ≡ false
or_left true b e = e
or_left false b e = refl

five : (n : ℕ) → nat_le 5 (suc n) ≡ nat_le 4 n
five n = by_test (nat_le 4 n)
    (λ high. let up = leb-true 4 n high in let more : nat_le 5 (suc n) ≡ true = le-leb 5 (suc n) (omega (arith, up)) in more ∙ sym high)
    (λ low.
    let down = leb-false 4 n low in
    by_test (nat_le 5 (suc n)) (λ high. let up = leb-true 5 (suc n) high in absurd (omega (arith, up, down))) (λ no. no ∙ sym low))

passed_own : (place : ℕ) (d : Bool) (ps : Posts) (n : ℕ) → passed ps place ≡ false → missed ps place ≡ n
    → passed ((place, d) ∷ ps) place ≡ (d || nat_le 4 n)
passed_own place true ps n e is = let own : (place == place) ≡ true = eq-eqb place place refl in rw own refl
passed_own place false ps n e is =
    let own : (place == place) ≡ true = eq-eqb place place refl in
    let none : list_any (λ p. (p.0 == place) && p.1) ps ≡ false = or_left (list_any (λ p. (p.0 == place) && p.1) ps)
    (nat_le 5 (missed ps place)) e in
    rw (own, none) (five (missed ps place) ∙ ap (nat_le 4) is)

same_filter : (f g : ℕ → Bool) (ns : List ℕ) → ((n : ℕ) → f n ≡ g n) → filter f ns ≡ filter g ns
same_filter f g [] e = refl
same_filter f g (n ∷ ns) e = by_test (g n)
    (λ yes. let too : f n ≡ true = e n ∙ yes in rw (yes, too) (ap (λ (ks : List ℕ). n ∷ ks) (same_filter f g ns e)))
    (λ no. let too : f n ≡ false = e n ∙ no in rw (no, too) (same_filter f g ns e))

up_to : (p c place : ℕ) → nat_lt c p ≡ (p == place) → c < place → p ≤ place
up_to p c place e h = by_test (p == place)
    (λ same. let is : p ≡ place = eqb-true p place same in omega (arith, is))
    (λ other. let low = ltb-false c p (e ∙ other) in omega (arith, low, h))

greatest_low : (f : ℕ → Bool) (c place : ℕ) (ps : Posts) → Agrees c place ps → c < place → greatest (filter f (places ps)) ≤ place
greatest_low f c place [] a h = omega arith
greatest_low f c place (p ∷ ps) a h =
    let rest = greatest_low f c place ps a.1 h in
    let here = up_to p.0 c place a.0 h in
    by_test (f p.0) (λ yes. rw yes (omega (arith, rest, here))) (λ no. rw no rest)

none_past : (c place : ℕ) (ps : Posts) → Agrees c place ps → c < place → missed_past place ps ≡ 0
none_past c place [] a h = refl
none_past c place (p ∷ ps) a h =
    let here = up_to p.0 c place a.0 h in
    let no : nat_lt place p.0 ≡ false = le-ltb place p.0 here in
    rw no (none_past c place ps a.1 h)

far_when : (at place : ℕ) (d : Bool) (ps : Posts) (b : Bool) → Agrees (far at ps) place ps → far at ps < place → passed ps place ≡ false
    → passed ((place, d) ∷ ps) place ≡ b
    → far at ((place, d) ∷ ps) ≡ cond b place (far at ps)
far_when at place d ps true a h before is =
    let low = greatest_low (passed ((place, d) ∷ ps)) (far at ps) place ps a h in
    rw is (omega (arith, low, h))
far_when at place d ps false a h before is =
    let same : (q : ℕ) → passed ((place, d) ∷ ps) q ≡ passed ps q = λ q. by_test (place == q)
    (λ own. let it : place ≡ q = eqb-true place q own in subst (λ (k : ℕ). passed ((place, d) ∷ ps) k ≡ passed ps k) it (is ∙ sym before))
    (λ other. passed_other place q d ps other) in
    rw is (ap (λ (ns : List ℕ). greatest (at ∷ ns)) (same_filter (passed ((place, d) ∷ ps)) (passed ps) (places ps) same))

missed_when : (at place : ℕ) (d : Bool) (ps : Posts) (b : Bool) → Agrees (far at ps) place ps → far at ps < place → (d || b) ≡ b
    → missed_past (cond b place (far at ps)) ((place, d) ∷ ps) ≡ cond b 0 (missed_past (far at ps) ps + 1)
missed_when at place d ps true a h e =
    let no : nat_lt place place ≡ false = le-ltb place place (omega arith) in
    rw no (none_past (far at ps) place ps a h)
missed_when at place true ps false a h e = cc
missed_when at place false ps false a h e =
    let up : nat_lt (far at ps) place ≡ true = lt-ltb (far at ps) place h in
    rw up (omega arith)

or_idem : (d c : Bool) → (d || (d || c)) ≡ (d || c)
or_idem true c = refl
or_idem false c = refl

-- the cursor after one more post at the place of the notice past it
far_more : (at place : ℕ) (d : Bool) (ps : Posts) → Agrees (far at ps) place ps → far at ps < place
    → far at ((place, d) ∷ ps) ≡ cond (d || nat_le 4 (missed_past (far at ps) ps)) place (far at ps)
far_more at place d ps a h =
    let before : passed ps place ≡ false = not_passed at place ps h in
    far_when at place d ps (d || nat_le 4 (missed_past (far at ps) ps)) a h before
    (passed_own place d ps (missed_past (far at ps) ps) before (same_missed (far at ps) place ps a))

-- how often the notice past the cursor wasn't taken, after one more such post
missed_more : (at place : ℕ) (d : Bool) (ps : Posts) → Agrees (far at ps) place ps → far at ps < place
    → missed_past (far at ((place, d) ∷ ps)) ((place, d) ∷ ps) ≡ cond (d || nat_le 4 (missed_past (far at ps) ps)) 0
    (missed_past (far at ps) ps + 1)
missed_more at place d ps a h =
    ap (λ (c : ℕ). missed_past c ((place, d) ∷ ps)) (far_more at place d ps a h)
    ∙ missed_when at place d ps (d || nat_le 4 (missed_past (far at ps) ps)) a h (or_idem d (nat_le 4 (missed_past (far at ps) ps)))

-- a post past a place is of the notice that comes next
abbrev Points : ℕ → Option ℕ → Posts → Type 0
Points c x [] = Unit {0}
Points c x (p ∷ ps) = (nat_lt c p.0 ≡ true → x ≡ Some p.0) × Points c x ps

some_same : {a b : ℕ} → Some a ≡ Some b → a ≡ b
some_same e = cc

agrees_of : (c place : ℕ) (ps : Posts) → Points c (Some place) ps → c < place → Agrees c place ps
agrees_of c place [] points h = tt
agrees_of c place (p ∷ ps) points h = (
  by_test (nat_lt c p.0)
      (λ past. let is : place ≡ p.0 = some_same (points.0 past) in past ∙ sym (eq-eqb p.0 place (sym is)))
      (λ low. by_test (p.0 == place)
      (λ same.
      let is : p.0 ≡ place = eqb-true p.0 place same in
      let le = ltb-false c p.0 low in
      absurd (omega (arith, is, le, h)))
      (λ other. low ∙ sym other)),
  agrees_of c place ps points.1 h,
)

points_next : (c : ℕ) (x y : Option ℕ) (ps : Posts) → ((q : ℕ) → x ≡ Some q → y ≡ Some q) → Points c x ps → Points c y ps
points_next c x y [] f points = tt
points_next c x y (p ∷ ps) f points = (λ past. f p.0 (points.0 past), points_next c x y ps f points.1)

-- no post is past a place
points_none : (c place : ℕ) (x : Option ℕ) (ps : Posts) → Agrees c place ps → c < place → Points place x ps
points_none c place x [] a h = tt
points_none c place x (p ∷ ps) a h = (
  λ past.
      let up = ltb-true place p.0 past in
      let here = up_to p.0 c place a.0 h in
      absurd (omega (arith, up, here)),
  points_none c place x ps a.1 h,
)

last_more : (f : ℕ → Bool) (x : Option ℕ) (ns : List ℕ) (y : ℕ) → last (filter f ns) ≡ Some y → last (filter f (cons_option x ns)) ≡ Some y
last_more f None ns y e = e
last_more f (Some n) ns y e = by_test (f n) (λ passes. rw passes (rw e refl)) (λ fails. rw fails e)

either_passes : (f : ℕ → Bool) (n y : ℕ) (z : Option ℕ) → Some (unwrap_or z n) ≡ Some y → f n ≡ true → (z ≡ Some y → f y ≡ true)
    → f y ≡ true
either_passes f n y None e passes rest = subst (λ (k : ℕ). f k ≡ true) (some_same e) passes
either_passes f n y (Some q) e passes rest = rest (ap Some (some_same e))

last_passes : (f : ℕ → Bool) (ns : List ℕ) (y : ℕ) → last (filter f ns) ≡ Some y → f y ≡ true
last_passes f [] y e = cc
last_passes f (n ∷ ns) y e = by_test (f n)
    (λ passes.
    either_passes f n y (last (filter f ns)) (subst (λ (b : Bool). last (cond b (n ∷ filter f ns) (filter f ns)) ≡ Some y) passes e) passes
    (λ more. last_passes f ns y more))
    (λ fails. last_passes f ns y (subst (λ (b : Bool). last (cond b (n ∷ filter f ns) (filter f ns)) ≡ Some y) fails e))

points_when : (at place : ℕ) (d : Bool) (ps : Posts) (ns : List ℕ) (b : Bool) → Points (far at ps) (Some place) ps → far at ps < place
    → last (filter (nat_lt (far at ps)) ns) ≡ Some place → Points (cond b place (far at ps))
    (last (filter (nat_lt (cond b place (far at ps))) ns)) ((place, d) ∷ ps)
points_when at place d ps ns true points h next = (
  λ past.
      let up = ltb-true place place past in
      absurd (omega (arith, up)),
  points_none (far at ps) place _ ps (agrees_of (far at ps) place ps points h) h,
)
points_when at place d ps ns false points h next = (λ past. next, points_next (far at ps) (Some place) _ ps (λ q e. next ∙ e) points)

points_more : (at place : ℕ) (d : Bool) (ps : Posts) (ns : List ℕ) → Points (far at ps) (Some place) ps → far at ps < place
    → last (filter (nat_lt (far at ps)) ns) ≡ Some place
    → Points (far at ((place, d) ∷ ps)) (last (filter (nat_lt (far at ((place, d) ∷ ps))) ns)) ((place, d) ∷ ps)
points_more at place d ps ns points h next =
    subst (λ (c : ℕ). Points c (last (filter (nat_lt c) ns)) ((place, d) ∷ ps))
    (sym (far_more at place d ps (agrees_of (far at ps) place ps points h) h))
    (points_when at place d ps ns (d || nat_le 4 (missed_past (far at ps) ps)) points h next)

-- a subscription that wasn't made has no post
abbrev Unposted : List Event → Type 0
Unposted H = (s : ℕ) → subscriptions_made H < s → posts H s ≡ []

unposted_step : (width m : ℕ) (H : List Event) (time : ℕ) (k : EventKind) → IsLegalWithin width m H → IsAllowedWithin width m H k
    → Unposted H → Unposted (event time k ∷ H)
unposted_step width m H time (Subscribed n role callback filter) legal allowed h s high = h s (omega (arith, high))
unposted_step width m H time (Posted n place outcome) legal allowed h s high = by_test (n == s)
    (λ same.
    let is : n ≡ s = eqb-true n s same in
    let there = and_left (is_some (subscription H n)) (not (is_unsubscribed H n)) allowed.live in
    let within = (found_within (λ x. x.number) (subscriptions H) n (subscriptions_counted width m H legal) there).1 in
    absurd (omega (arith, is, within, high)))
    (λ other. rw other (h s high))
unposted_step width m H time k legal allowed h s high = h s high

pub never_posted : (width m : ℕ) (H : List Event) → IsLegalWithin width m H → Unposted H
never_posted width m H legal = legal_induction width m Unposted (λ s high. refl)
    (λ H time k legal allowed h. unposted_step width m H time k legal allowed h) H legal

-- the posts past the cursor are of the notice that comes next
abbrev IsFollowed : ℕ → List Event → Type 0
IsFollowed m H = (s : ℕ) → Points (cursor H s) (next_notice m H s) (posts H s)

posts_own : (H : List Event) (time n place s : ℕ) (outcome : PostOutcome) → (n == s) ≡ true
    → posts (event time (Posted n place outcome) ∷ H) s ≡ (place, is_delivered outcome) ∷ posts H s
posts_own H time n place s outcome same = rw same refl

posts_other : (H : List Event) (time n place s : ℕ) (outcome : PostOutcome) → (n == s) ≡ false
    → posts (event time (Posted n place outcome) ∷ H) s ≡ posts H s
posts_other H time n place s outcome other = rw other refl

subscribed_other : (H : List Event) (time n s : ℕ) (role : Role) (callback : List ℕ) (f : Filter) → (n == s) ≡ false
    → subscribed_at (event time (Subscribed n role callback f) ∷ H) s ≡ subscribed_at H s
subscribed_other H time n s role callback f other = rw other refl

followed_step : (width m : ℕ) (H : List Event) (time : ℕ) (k : EventKind) → IsLegalWithin width m H → IsAllowedWithin width m H k
    → IsFollowed m H → IsFollowed m (event time k ∷ H)
followed_step width m H time (Subscribed n role callback f) legal allowed h s = by_test (n == s)
    (λ same.
    let is : n ≡ s = eqb-true n s same in
    let none : posts H s ≡ [] = never_posted width m H legal s (omega (arith, is, allowed.number)) in
    subst (λ (ps : Posts). Points (cursor (event time (Subscribed n role callback f) ∷ H) s)
    (next_notice m (event time (Subscribed n role callback f) ∷ H) s) ps) (sym none) tt)
    (λ other.
    subst (λ (at : ℕ). Points (far at (posts H s)) (last (filter (nat_lt (far at (posts H s)))
    (notices m (event time (Subscribed n role callback f) ∷ H) s))) (posts H s))
    (sym (subscribed_other H time n s role callback f other))
    (points_next (cursor H s) (next_notice m H s) _ (posts H s) (λ q e.
    last_more (nat_lt (cursor H s)) (notice_in m s H (Subscribed n role callback f)) (notices m H s) q e) (h s)))
followed_step width m H time (Posted n place outcome) legal allowed h s = by_test (n == s)
    (λ same.
    let is : n ≡ s = eqb-true n s same in
    let next : next_notice m H s ≡ Some place = subst (λ (i : ℕ). next_notice m H i ≡ Some place) is allowed.next in
    let up = ltb-true (cursor H s) place (last_passes (nat_lt (cursor H s)) (notices m H s) place next) in
    let points : Points (cursor H s) (Some place) (posts H s) = subst (λ (x : Option ℕ). Points (cursor H s) x (posts H s)) next (h s) in
    subst (λ (ps : Posts). Points (far (subscribed_at H s) ps) (last
    (filter (nat_lt (far (subscribed_at H s) ps)) (notices m (event time (Posted n place outcome) ∷ H) s))) ps)
    (sym (posts_own H time n place s outcome same))
    (points_more (subscribed_at H s) place (is_delivered outcome) (posts H s)
    (notices m (event time (Posted n place outcome) ∷ H) s) points up
    (last_more (nat_lt (cursor H s)) (notice_in m s H (Posted n place outcome)) (notices m H s) place next)))
    (λ other.
    subst (λ (ps : Posts). Points (far (subscribed_at H s) ps) (last
    (filter (nat_lt (far (subscribed_at H s) ps)) (notices m (event time (Posted n place outcome) ∷ H) s))) ps)
    (sym (posts_other H time n place s outcome other))
    (points_next (cursor H s) (next_notice m H s) _ (posts H s) (λ q e.
    last_more (nat_lt (cursor H s)) (notice_in m s H (Posted n place outcome)) (notices m H s) q e) (h s)))
followed_step width m H time k legal allowed h s =
    points_next (cursor H s) (next_notice m H s) _ (posts H s) (λ q e.
    last_more (nat_lt (cursor H s)) (notice_in m s H k) (notices m H s) q e) (h s)

followed : (width m : ℕ) (H : List Event) → IsLegalWithin width m H → IsFollowed m H
followed width m H legal = legal_induction width m (IsFollowed m) (λ s. tt)
    (λ H time k legal allowed h. followed_step width m H time k legal allowed h) H legal

-- what a post makes of the cursor of its subscription
pub cursor-posted : (width m : ℕ) (H : List Event) (time n place s : ℕ) (outcome : PostOutcome) → IsLegalWithin width m H
    → IsAllowedWithin width m H (Posted n place outcome) → (n == s) ≡ true
    → cursor (event time (Posted n place outcome) ∷ H) s ≡ cond (is_delivered outcome || nat_le 4 (tries_past H s)) place (cursor H s)
cursor-posted width m H time n place s outcome legal allowed same =
    let is : n ≡ s = eqb-true n s same in
    let next : next_notice m H s ≡ Some place = subst (λ (i : ℕ). next_notice m H i ≡ Some place) is allowed.next in
    let up = ltb-true (cursor H s) place (last_passes (nat_lt (cursor H s)) (notices m H s) place next) in
    let points : Points (cursor H s) (Some place) (posts H s) = subst (λ (x : Option ℕ). Points (cursor H s) x (posts H s)) next
    (followed width m H legal s) in
    ap (λ (ps : Posts). far (subscribed_at H s) ps) (posts_own H time n place s outcome same)
    ∙ far_more (subscribed_at H s) place (is_delivered outcome) (posts H s) (agrees_of (cursor H s) place (posts H s) points up) up

-- what a post makes of the count of its subscription
pub tries-posted : (width m : ℕ) (H : List Event) (time n place s : ℕ) (outcome : PostOutcome) → IsLegalWithin width m H
    → IsAllowedWithin width m H (Posted n place outcome) → (n == s) ≡ true
    → tries_past (event time (Posted n place outcome) ∷ H) s ≡ cond (is_delivered outcome || nat_le 4 (tries_past H s)) 0
    (tries_past H s + 1)
tries-posted width m H time n place s outcome legal allowed same =
    let is : n ≡ s = eqb-true n s same in
    let next : next_notice m H s ≡ Some place = subst (λ (i : ℕ). next_notice m H i ≡ Some place) is allowed.next in
    let up = ltb-true (cursor H s) place (last_passes (nat_lt (cursor H s)) (notices m H s) place next) in
    let points : Points (cursor H s) (Some place) (posts H s) = subst (λ (x : Option ℕ). Points (cursor H s) x (posts H s)) next
    (followed width m H legal s) in
    ap (λ (ps : Posts). missed_past (far (subscribed_at H s) ps) ps) (posts_own H time n place s outcome same)
    ∙ missed_more (subscribed_at H s) place (is_delivered outcome) (posts H s) (agrees_of (cursor H s) place (posts H s) points up) up

-- a post to another subscription leaves the cursor
pub cursor-other : (H : List Event) (time n place s : ℕ) (outcome : PostOutcome) → (n == s) ≡ false
    → cursor (event time (Posted n place outcome) ∷ H) s ≡ cursor H s
cursor-other H time n place s outcome other = ap (λ (ps : Posts). far (subscribed_at H s) ps) (posts_other H time n place s outcome other)

-- a post to another subscription leaves the count
pub tries-other : (H : List Event) (time n place s : ℕ) (outcome : PostOutcome) → (n == s) ≡ false
    → tries_past (event time (Posted n place outcome) ∷ H) s ≡ tries_past H s
tries-other H time n place s outcome other = ap (λ (ps : Posts). missed_past (far (subscribed_at H s) ps) ps)
    (posts_other H time n place s outcome other)

-- the tries past the cursor are those of the notice that comes next
pub tries-next : (width m : ℕ) (H : List Event) → IsLegalWithin width m H → (s place : ℕ) → next_notice m H s ≡ Some place
    → tries_past H s ≡ tries H s place
tries-next width m H legal s place next =
    let up = ltb-true (cursor H s) place (last_passes (nat_lt (cursor H s)) (notices m H s) place next) in
    let points : Points (cursor H s) (Some place) (posts H s) = subst (λ (x : Option ℕ). Points (cursor H s) x (posts H s)) next
    (followed width m H legal s) in
    sym (same_missed (cursor H s) place (posts H s) (agrees_of (cursor H s) place (posts H s) points up))
