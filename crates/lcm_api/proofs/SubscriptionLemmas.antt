-- The subscription of a role that an identifier names, and what a request to subscribe records.
use Rattle.std.proofs.Common.{◌≡◌, ◌≤◌, ◌<◌, ◌+◌, ◌==◌, ◌∙◌, ◌&&◌, ℕ, Bool, true, false, not, List, [], ◌∷◌, ◌++◌, length, map, reverse}
use Rattle.std.proofs.Common.{filter, find, Option, Some, None, is_some, option_map, option_and_then, ap, refl}
use Rattle.std.proofs.Common.{sym, subst, arith, eqb-true, All, inl, inr}
use Rattle.std.proofs.lemmas.Bool.{le-leb, leb-true, lt-leb}
use Rattle.std.proofs.lemmas.List.Elements.{All-cons, All-nil}
use Rattle.std.specs.List.{AllByRecursion}
use Rattle.std.specs.Prelude.{codes, if◌then◌else◌}
use Rattle.std.specs.Str.{bytes_eq}
use mathlib.Core.List.{reverse-cons}
use Rattle.event_codec.specs.Spell.{spelling, u64}
use Rattle.event_codec.specs.Typed.{TypedFilter}
use Rattle.event_codec.specs.Valid.{IsFilter}
use Rattle.executor.specs.Managed.{Managed}
use Rattle.instance_table.specs.Rows.{continued, is_continued, subscription_at, subscription_row, subscription_rows}
use Rattle.instance_table.specs.Table.{is_role_of}
use Rattle.instance_table.specs.declared.rows.SubscriptionRow.{SubscriptionRow}
use Rattle.instance_table.proofs.LiveLaws.{fewer}
use Rattle.instance_table.proofs.RowLaws.{of_reverse}
use Rattle.journal_records.specs.declared.limits.TheConstants.{MAX_RECORD}
use Rattle.json_bodies.specs.declared.subscribing.SubscriptionBody.{SubscriptionBody}
use Rattle.json_views.specs.Subscription.{subscription_id, subscription_value, subscriptions_text}
use Rattle.lcm_events.specs.Same.{same_role}
use Rattle.lcm_events.specs.declared.events.Event.{Event}
use Rattle.lcm_events.specs.declared.events.EventKind.TheVariants.{Subscribed}
use Rattle.lcm_events.specs.declared.filters.Filter.{Filter}
use Rattle.lcm_events.specs.declared.states.Role.{Role}
use Rattle.lcm_events.specs.declared.states.Role.TheVariants.{Element, Orchestrator}
use Rattle.lcm_laws.proofs.Lists.{and_left, and_right, by_test}
use Rattle.lcm_laws.proofs.Members.{of_filter, of_map}
use Rattle.lcm_laws.proofs.PlanHistory.{found_in}
use Rattle.lcm_laws.proofs.NumberLaws.{IsCounted, found_within, subscriptions_counted}
use Rattle.lcm_laws.proofs.SettledLaws.{find-own, found_number}
use Rattle.lcm_model.specs.Allowed.{IsAllowed, IsLegalWithin, MaySubscribe}
use Rattle.lcm_model.specs.Lives.{Subscription, is_live_of, is_subscribed, is_unsubscribed, live_subscriptions, subscribed_in, subscription}
use Rattle.lcm_model.specs.Lives.{subscriptions, subscriptions_made}
use Rattle.lcm_model.specs.Notices.{is_small_filter}
use Rattle.lcm_model.specs.Work.{window}
use Rattle.lcm_model.specs.Words.{IsIn}
use Rattle.lcm_model.specs.declared.limits.TheConstants.{MAX_SUBSCRIPTIONS}
use Rattle.lcm_replies.specs.Replies.{refusal}
use Rattle.lcm_replies.specs.declared.reply.Reply.{Reply}
use Rattle.serde_json.specs.Data.{Data, array}
use Rattle.serde_json.specs.View.{items_of}
use Rattle.serde_json.specs.Written.{compact_text}
use Rattle.subscription_asks.proofs.FilterLemmas.{few_mapped}
use Rattle.subscription_asks.specs.Records.{SubscribedEventsFitRecords}
use Rattle.subscription_asks.specs.Refusals.{content_refusal}
use Rattle.vnfm_base.specs.Ident.{IsIdentNumber}
use Rattle.vnfm_base.specs.declared.identifier.Kind.TheVariants as kinds
use Rattle.lcm_api.specs.Instances.{deleted}
use Rattle.lcm_api.specs.Planning.{told}
use Rattle.lcm_api.specs.Recording.{IsPlanned}
use Rattle.lcm_api.specs.Subscriptions.{end_subscribed, named_subscription, subscribe_as, subscribe_judged, subscribed, subscription_asked}
use Rattle.lcm_api.specs.Subscriptions.{unsubscription}
use Rattle.lcm_api.specs.declared.record.Planned.TheVariants.{Records}
use Rattle.lcm_api.proofs.IdentLemmas.{IsReading, agrees, differs, find_none, find_same}

-- an identifier can carry the number of each subscription
numbered : (width m : ℕ) (H : List Event) (x : Subscription) → IsLegalWithin width m H → length H < 4611686018427387903
    → IsIn x (subscriptions H) → IsIdentNumber x.number
numbered width m H x legal few among =
    let counted = subscriptions_counted width m H legal in
    let within = found_within (λ x. x.number) (subscriptions H) x.number counted
    (ap is_some (find-own (λ x. x.number) (subscriptions H) x counted among)) in
    let made = few_mapped (λ (e : Event). subscribed_in e.kind) H in
    (within.0, omega (arith, within.1, made, few))

-- and so that of each row
all_in : {A : Type 0} (P : A → Type 0) (xs : List A) → ((x : A) → IsIn x xs → P x) → All P xs
all_in P [] h = All-nil P
all_in P (x ∷ xs) h = All-cons P x xs (h x (inl refl)) (all_in P xs (λ y among. h y (inr among)))

pub rows_numbered : (width m : ℕ) (H : List Event) → IsLegalWithin width m H → length H < 4611686018427387903
    → All (λ row. IsIdentNumber row.number) (subscription_rows H)
rows_numbered width m H legal few = all_in (λ (row : SubscriptionRow). IsIdentNumber row.number) (subscription_rows H) (λ row among.
    let from = of_map (subscription_row H) row (continued H) (of_reverse row (map (subscription_row H) (continued H)) among) in
    let made = (of_filter (is_continued H) from.0 (subscriptions H) from.1).0 in
    subst (λ (r : SubscriptionRow). IsIdentNumber r.number) from.2 (numbered width m H from.0 legal few made))

pub row_numbered : (width m : ℕ) (H : List Event) (n : ℕ) (row : SubscriptionRow) → IsLegalWithin width m H
    → length H < 4611686018427387903 → Some row ≡ subscription_at H n → IsIdentNumber row.number
row_numbered width m H n row legal few at = by (is_subscribed H n) (subscription H n) refl at where
  by : (b : Bool) (o : Option Subscription) → subscription H n ≡ o → Some row ≡ (if b then option_map (subscription_row H) o else None)
      → IsIdentNumber row.number
  by true None is e = cc
  by true (Some x) is e =
      let same : row ≡ subscription_row H x = cc in
      let number : x.number ≡ n = found_number (λ x. x.number) (subscriptions H) n x is in
      let within = found_within (λ x. x.number) (subscriptions H) n (subscriptions_counted width m H legal) (ap is_some is) in
      let made = few_mapped (λ (e : Event). subscribed_in e.kind) H in
      subst (λ (r : SubscriptionRow). IsIdentNumber r.number) (sym same)
      (subst (λ (k : ℕ). IsIdentNumber k) (sym number) (within.0, omega (arith, within.1, made, few)))
  by false o is e = cc

-- the subscription of an identifier

-- a test over what is found
abbrev pub where_passes : {A : Type 0} → (A → Bool) → Option A → Option A
where_passes p None = None
where_passes p (Some x) = if p x then Some x else None

low_differ : {A : Type 0} (f : A → ℕ) (n : ℕ) (p : A → Bool) (xs : List A) → IsCounted f xs → length xs < n
    → find (λ x. f x == n) (filter p xs) ≡ None
low_differ f n p [] counted low = refl
low_differ f n p (x ∷ xs) counted low =
    let rest = low_differ f n p xs counted.1 (omega (arith, low)) in
    let other : (f x == n) ≡ false = by_test (f x == n)
    (λ same. let is = eqb-true (f x) n same in absurd (omega (arith, is, low, counted.0))) (λ other. other) in
    by_test (p x) (λ passes. rw (passes, other) rest) (λ fails. rw fails rest)

-- of counted entries the one of a number is found among those that pass where it passes
found_passing : {A : Type 0} (f : A → ℕ) (n : ℕ) (p : A → Bool) (xs : List A) → IsCounted f xs
    → find (λ x. f x == n) (filter p xs) ≡ where_passes p (find (λ x. f x == n) xs)
found_passing f n p [] counted = refl
found_passing f n p (x ∷ xs) counted = by_test (f x == n)
    (λ same.
    let is = eqb-true (f x) n same in
    let none = low_differ f n p xs counted.1 (omega (arith, is, counted.0)) in
    by_test (p x) (λ passes. rw (same, passes, same) refl) (λ fails. rw (same, fails) none))
    (λ other.
    let rest = found_passing f n p xs counted.1 in
    by_test (p x) (λ passes. rw (other, passes, other) rest) (λ fails. rw (other, fails) rest))

live_row : (H : List Event) (role : Role) (x : Subscription)
    → option_map (subscription_row H) (where_passes (is_live_of H role) (Some x))
    ≡ where_passes (is_role_of role) (if is_some (Some x) && not (is_unsubscribed H x.number) then Some (subscription_row H x) else None)
unfolding is_live_of
live_row H role x = by (same_role role x.role) refl (is_unsubscribed H x.number) where
  by : (mine : Bool) → same_role role x.role ≡ mine → (ended : Bool)
      → option_map (subscription_row H) (if same_role role x.role && not ended then Some x else None)
      ≡ where_passes (is_role_of role) (if true && not ended then Some (subscription_row H x) else None)
  by true is true = rw is refl
  by true is false = rw is refl
  by false is true = rw is refl
  by false is false = rw is refl

pub live_at : (width m : ℕ) (H : List Event) (role : Role) (n : ℕ) → IsLegalWithin width m H
    → option_map (subscription_row H) (find (λ x. x.number == n) (live_subscriptions H role))
    ≡ where_passes (is_role_of role) (subscription_at H n)
live_at width m H role n legal =
    ap (option_map (subscription_row H)) (found_passing (λ x. x.number) n (is_live_of H role) (subscriptions H)
    (subscriptions_counted width m H legal))
    ∙ by (subscription H n) refl where
      by : (o : Option Subscription) → subscription H n ≡ o
          → option_map (subscription_row H) (where_passes (is_live_of H role) (subscription H n))
          ≡ where_passes (is_role_of role) (subscription_at H n)
      by None is = rw is refl
      by (Some x) is = rw is (live_row H role x
          ∙ ap (λ (k : ℕ). where_passes (is_role_of role)
          (if is_some (Some x) && not (is_unsubscribed H k) then Some (subscription_row H x) else None))
          (found_number (λ x. x.number) (subscriptions H) n x is))

-- the subscription that has the identifier is that of the number that was read
abbrev AreNumbered : List Subscription → Type 0
AreNumbered = AllByRecursion (λ x. IsIdentNumber x.number)

are_numbered : (xs : List Subscription) → ((x : Subscription) → IsIn x xs → IsIdentNumber x.number) → AreNumbered xs
are_numbered [] each = tt
are_numbered (x ∷ xs) each = (each x (inl refl), are_numbered xs (λ y among. each y (inr among)))

named_by : (m : ℕ) (id : List ℕ) (xs : List Subscription) (found : Option ℕ) → IsReading kinds.Subscription m id found → AreNumbered xs
    → find (λ x. bytes_eq (subscription_id m x.number) id) xs ≡ option_and_then (λ n. find (λ x. x.number == n) xs) found
unfolding subscription_id
named_by m id xs None reading numbered = find_none _ xs (all xs numbered) where
  all : (xs : List Subscription) → AreNumbered xs → AllByRecursion (λ x. bytes_eq (subscription_id m x.number) id ≡ false) xs
  all [] h = tt
  all (x ∷ xs) h = (differs kinds.Subscription m x.number id reading h.0, all xs h.1)
named_by m id xs (Some n) reading numbered = find_same _ _ xs (all xs numbered) where
  all : (xs : List Subscription) → AreNumbered xs
      → AllByRecursion (λ x. bytes_eq (subscription_id m x.number) id ≡ (x.number == n)) xs
  all [] h = tt
  all (x ∷ xs) h = (agrees kinds.Subscription m n x.number id reading h.0, all xs h.1)

-- and its row is that of this number, where it is the role's
pub row_named : (width i m : ℕ) (H : List Event) (role : Role) (id : List ℕ) (found : Option ℕ) → IsLegalWithin width i H
    → length H < 4611686018427387903 → IsReading kinds.Subscription m id found
    → option_map (subscription_row H) (named_subscription m H role id)
    ≡ where_passes (is_role_of role) (option_and_then (subscription_at H) found)
row_named width i m H role id found legal few reading =
    ap (option_map (subscription_row H)) (named_by m id (live_subscriptions H role) found reading
    (are_numbered (live_subscriptions H role) (λ x among. numbered width i H x legal few
    (of_filter (is_live_of H role) x (subscriptions H) among).0)))
    ∙ by found where
      by : (o : Option ℕ)
          → option_map (subscription_row H) (option_and_then (λ n. find (λ x. x.number == n) (live_subscriptions H role)) o)
          ≡ where_passes (is_role_of role) (option_and_then (subscription_at H) o)
      by None = refl
      by (Some n) = live_at width i H role n legal

-- what the look-up gives: none where no number was read, or no subscription of it is live; else its row, where it is the role's
pub named_none : (width i m : ℕ) (H : List Event) (role : Role) (id : List ℕ) → IsLegalWithin width i H → length H < 4611686018427387903
    → IsReading kinds.Subscription m id None → None ≡ option_map (subscription_row H) (named_subscription m H role id)
named_none width i m H role id legal few reading = sym (row_named width i m H role id None legal few reading)

pub named_gone : (width i m : ℕ) (H : List Event) (role : Role) (id : List ℕ) (n : ℕ) → IsLegalWithin width i H
    → length H < 4611686018427387903 → IsReading kinds.Subscription m id (Some n) → None ≡ subscription_at H n
    → None ≡ option_map (subscription_row H) (named_subscription m H role id)
named_gone width i m H role id n legal few reading at =
    sym (row_named width i m H role id (Some n) legal few reading ∙ ap (where_passes (is_role_of role)) (sym at))

pub named_own : (width i m : ℕ) (H : List Event) (role : Role) (id : List ℕ) (n : ℕ) (row : SubscriptionRow) → IsLegalWithin width i H
    → length H < 4611686018427387903 → IsReading kinds.Subscription m id (Some n) → Some row ≡ subscription_at H n
    → same_role role row.role ≡ true → Some row ≡ option_map (subscription_row H) (named_subscription m H role id)
named_own width i m H role id n row legal few reading at own =
    sym (row_named width i m H role id (Some n) legal few reading
    ∙ (ap (where_passes (is_role_of role)) (sym at) ∙ ap (λ b. if b then Some row else None) own))

pub named_other : (width i m : ℕ) (H : List Event) (role : Role) (id : List ℕ) (n : ℕ) (row : SubscriptionRow) → IsLegalWithin width i H
    → length H < 4611686018427387903 → IsReading kinds.Subscription m id (Some n) → Some row ≡ subscription_at H n
    → same_role role row.role ≡ false → None ≡ option_map (subscription_row H) (named_subscription m H role id)
named_other width i m H role id n row legal few reading at other =
    sym (row_named width i m H role id (Some n) legal few reading
    ∙ (ap (where_passes (is_role_of role)) (sym at) ∙ ap (λ b. if b then Some row else None) other))

-- what is shown of a subscription, and how it ends, by its row
pub shown_by_row : {A : Type 0} (H : List Event) (o : Option Subscription) (row : SubscriptionRow) (f : ℕ → List ℕ → Filter → A)
    → Some row ≡ option_map (subscription_row H) o → (x : Subscription) × (o ≡ Some x) × (f x.number x.callback x.filter
    ≡ f row.number row.callback row.filter)
shown_by_row H None row f e = cc
shown_by_row H (Some x) row f e =
    let same : row ≡ subscription_row H x = cc in
    (x, refl, ap (λ (r : SubscriptionRow). f r.number r.callback r.filter) (sym same))

pub none_by_row : (H : List Event) (o : Option Subscription) → None ≡ option_map (subscription_row H) o → o ≡ None
none_by_row H None e = refl
none_by_row H (Some x) e = cc

-- what a request to end a subscription records

live_of_role : (H : List Event) (role : Role) (x : Subscription) → is_live_of H role x ≡ true → not (is_unsubscribed H x.number) ≡ true
unfolding is_live_of
live_of_role H role x live = and_right (same_role role x.role) (not (is_unsubscribed H x.number)) live

named_live : (width i m : ℕ) (H : List Event) (role : Role) (id : List ℕ) (x : Subscription) → IsLegalWithin width i H
    → named_subscription m H role id ≡ Some x → is_subscribed H x.number ≡ true
named_live width i m H role id x legal named =
    let among = of_filter (is_live_of H role) x (subscriptions H)
    (found_in (λ (y : Subscription). bytes_eq (subscription_id m y.number) id) (live_subscriptions H role) x named) in
    let found : subscription H x.number ≡ Some x =
    find-own (λ x. x.number) (subscriptions H) x (subscriptions_counted width i H legal) among.0 in
    rw found (live_of_role H role x among.1)

end_fits : (now n : ℕ) → length (spelling (unsubscription now n)) ≤ MAX_RECORD
unfolding spelling u64
end_fits now n = omega arith

-- a live subscription of the role is ended
pub ends : (width i : ℕ) (m : Managed) (H : List Event) (now : ℕ) (role : Role) (id : List ℕ) (last : Bool) (row : SubscriptionRow)
    (event : Event) (reply : Reply) → IsLegalWithin width i H
    → Some row ≡ option_map (subscription_row H) (named_subscription m.ledger.manager H role id)
    → event ≡ unsubscription now row.number → reply ≡ deleted last
    → IsPlanned (end_subscribed now last (named_subscription m.ledger.manager H role id)) m H (Records event reply)
ends width i m H now role id last row event reply legal is event_is reply_is =
    let of = shown_by_row H (named_subscription m.ledger.manager H role id) row (λ n callback f. n) is in
    let number : of.0.number ≡ row.number = of.2 in
    rw (event_is, reply_is) (
      ap (end_subscribed now last) of.1 ∙ ap (λ (n : ℕ). Records (unsubscription now n) (deleted last)) number,
      record {
        may = record {
          rules = λ typed. typed;
          allowed = subst (λ (n : ℕ). is_subscribed H n ≡ true) number
              (named_live width i m.ledger.manager H role id of.0 legal of.1);
          unsettled = refl;
        };
        fits = λ is. end_fits now row.number;
      },
    )

-- what a request to subscribe records

short : (n : ℕ) → n ≤ 64 → n < 65536
short n few = omega (arith, few)

-- a small filter keeps the format's rules, where its names are names
kept_filter : (f : Filter) → is_small_filter f ≡ true → TypedFilter f → IsFilter f
kept_filter f small typed =
    let five = and_left _ _ small in
    let four = and_left _ _ five in
    let three = and_left _ _ four in
    let two = and_left _ _ three in (
      (short (length f.vnfds) (leb-true (length f.vnfds) 64 (and_left _ _ two)), typed.0),
      (short (length f.instances) (leb-true (length f.instances) 64 (and_right _ _ two)), typed.1),
      (short (length f.names) (leb-true (length f.names) 64 (and_right _ _ three)), typed.2),
      (short (length f.notices) (leb-true (length f.notices) 64 (and_right _ _ four)), any f.notices),
      (short (length f.operations) (leb-true (length f.operations) 64 (and_right _ _ five)), any f.operations),
      (short (length f.states) (leb-true (length f.states) 64 (and_right _ _ small)), any f.states),
    ) where
      any : {A : Type 0} (xs : List A) → AllByRecursion (λ _. Unit {0}) xs
      any [] = tt
      any (x ∷ xs) = (tt, any xs)

-- as many subscriptions of the role are live as may be
pub refuses_more : (m : ℕ) (H : List Event) (now : ℕ) (role : Role) (body : SubscriptionBody) (last : Bool) (reply : Reply)
    → content_refusal body ≡ None → MAX_SUBSCRIPTIONS ≤ length (live_subscriptions H role)
    → reply ≡ refusal 507 (codes "too many subscriptions") last → subscribe_as m H now role body last ≡ told reply
refuses_more m H now role body last reply good crowded reply_is =
    ap (subscribe_judged m H now role body last) good
    ∙ (rw (le-leb MAX_SUBSCRIPTIONS (length (live_subscriptions H role)) crowded) (ap told (sym reply_is)))

-- one more subscription of the role is made
pub subscribes : SubscribedEventsFitRecords → (m : Managed) (H : List Event) (now : ℕ) (role : Role) (body : SubscriptionBody) (last : Bool)
    (reply : Reply) (event : Event) → is_small_filter body.asked.filter ≡ true → content_refusal body ≡ None
    → length (live_subscriptions H role) < MAX_SUBSCRIPTIONS → event ≡ subscription_asked H now role body
    → reply ≡ subscribed m.ledger.manager (subscriptions_made H + 1) body last
    → IsPlanned (subscribe_as m.ledger.manager H now role body last) m H (Records event reply)
subscribes fit m H now role body last reply event small good room event_is reply_is =
    let s = subscriptions_made H + 1 in
    let f = body.asked.filter in
    let may : MaySubscribe H s role f = record { number = refl; room = room; small = small } in
    let allowed : IsAllowed m.ledger.manager H (Subscribed s role body.callback f) = may in
    rw (event_is, reply_is) (
      ap (subscribe_judged m.ledger.manager H now role body last) good
          ∙ rw (lt-leb MAX_SUBSCRIPTIONS (length (live_subscriptions H role)) room) refl,
      record {
        may = record {
          rules = λ typed. (typed.0, (typed.1.0, typed.1.1, kept_filter f small typed.1.2));
          allowed = allowed;
          unsettled = refl;
        };
        fits = λ is.
            fit window m.ledger.manager H now s role body.callback f allowed
            (is.1.0, is.1.1, (is.1.2.0.1, is.1.2.1.1, is.1.2.2.1));
      },
    )

-- what a role's list says

reversed : {A B C : Type 0} (g : A → B) (h : B → C) (xs : List A) → map h (reverse (map g xs)) ≡ reverse (map (λ x. h (g x)) xs)
reversed g h [] = refl
reversed {A} {B} {C} g h (x ∷ xs) =
    ap (map h) (reverse-cons (g x) (map g xs))
    ∙ (appended (reverse (map g xs)) (g x)
    ∙ (ap (λ (ys : List C). ys ++ h (g x) ∷ []) (reversed g h xs) ∙ sym (reverse-cons (h (g x)) (map (λ y. h (g y)) xs)))) where
      appended : (ys : List B) (y : B) → map h (ys ++ y ∷ []) ≡ map h ys ++ h y ∷ []
      appended [] y = refl
      appended (z ∷ zs) y = ap (λ (rest : List C). h z ∷ rest) (appended zs y)

-- the view of a subscription, as it was made and by its row
abbrev pub made_value : ℕ → Subscription → Data
made_value m x = subscription_value m x.number x.callback x.filter

abbrev row_value : ℕ → SubscriptionRow → Data
row_value m row = subscription_value m row.number row.callback row.filter

is_own : (H : List Event) (role : Role) (x : Subscription) → is_live_of H role x
    ≡ (same_role (subscription_row H x).role role && is_continued H x)
unfolding is_live_of is_continued
is_own H role x = ap (λ b. b && not (is_unsubscribed H x.number)) (either role x.role) where
  either : (a b : Role) → same_role a b ≡ same_role b a
  either Orchestrator Orchestrator = refl
  either Orchestrator Element = refl
  either Element Orchestrator = refl
  either Element Element = refl

-- the text of a role's list is told by its live subscriptions
pub text_told : (m : ℕ) (H : List Event) (role : Role) → subscriptions_text m role (subscription_rows H)
    ≡ compact_text (array (items_of (reverse (map (made_value m) (live_subscriptions H role)))))
unfolding subscriptions_text
text_told m H role =
    let own : filter (λ (row : SubscriptionRow). same_role row.role role) (subscription_rows H)
    ≡ reverse (map (subscription_row H) (live_subscriptions H role)) =
    sym (fewer (subscription_row H) (λ row. same_role row.role role) (is_continued H) (is_live_of H role) (subscriptions H)
    (is_own H role)) in
    ap (λ (rows : List SubscriptionRow). compact_text (array (items_of (map (row_value m) rows)))) own
    ∙ ap (λ (ds : List Data). compact_text (array (items_of ds))) (reversed (subscription_row H) (row_value m) (live_subscriptions H role))
