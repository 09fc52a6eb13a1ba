-- The event of the first notice that waits, and what its notice is about.
use Rattle.std.proofs.Common.{◌≡◌, ◌≤◌, ◌<◌, ◌+◌, ◌-◌, ◌++◌, ◌∙◌, ℕ, zero}
use Rattle.std.proofs.Common.{suc, List, [], ◌∷◌, Bool, true, false, cond, Option, None, Some}
use Rattle.std.proofs.Common.{is_some, refl, ap, sym, subst, length, filter, reverse, slice_get, option_map, arith, nat_lt, inl, inr}
use Rattle.std.proofs.Common.{length-append}
use Rattle.std.proofs.lemmas.List.{length-reverse}
use Rattle.std.specs.List.{cons_option, filter_map}
use Rattle.std.specs.Option.{option_map_or}
use Rattle.std.specs.Prelude.{option_and_then}
use mathlib.Core.List.{reverse-cons}
use Rattle.executor.specs.Reading.{event_in}
use Rattle.instance_table.specs.Rows.{subscription_at, subscription_row}
use Rattle.instance_table.specs.declared.rows.SubscriptionRow.{SubscriptionRow}
use Rattle.lcm_events.specs.declared.events.Event.{Event}
use Rattle.lcm_events.specs.declared.events.EventKind.{EventKind}
use Rattle.lcm_events.specs.declared.events.EventKind.TheVariants.{Asked, Created, Deleted, Moved}
use Rattle.lcm_events.specs.declared.events.Operation.{Operation}
use Rattle.lcm_events.specs.declared.states.OpState.{OpState}
use Rattle.lcm_events.specs.declared.states.OpState.TheVariants.{Starting}
use Rattle.lcm_laws.proofs.Histories.{legal_before}
use Rattle.lcm_laws.proofs.Lists.{and_left}
use Rattle.lcm_laws.proofs.Members.{of_filter}
use Rattle.lcm_laws.proofs.NumberLaws.{found_within, instances_counted, operation-later, operation-next, operations_counted}
use Rattle.lcm_laws.proofs.NumberLaws.{subscriptions_counted}
use Rattle.lcm_laws.proofs.SettledLaws.{found_number}
use Rattle.lcm_model.specs.Allowed.{IsAllowedWithin, IsLegal}
use Rattle.lcm_model.specs.Lives.{Subscription, created_in, creation, creations, is_subscribed}
use Rattle.lcm_model.specs.Lives.{subscribed_in, subscription, subscriptions}
use Rattle.lcm_model.specs.Notices.{cursor, facts_of, is_noticed, matches, next_notice, notice_in, notices, occurrence_facts}
use Rattle.lcm_model.specs.Operations.{asked_in, kind_of, operation, operations}
use Rattle.lcm_model.specs.Words.{IsIn, when}
use Rattle.lcm_model.specs.Work.{window}
use Rattle.notice_table.proofs.Lists.{last_in}
use Rattle.notice_table.specs.Queues.{first_waiting}
use Rattle.notice_views.specs.Notice.{IsIdentified, notice_text}
use Rattle.notice_views.specs.declared.notices.Subject.{Subject}
use Rattle.notice_views.specs.declared.notices.Subject.TheVariants as about
use Rattle.notify_outbox.specs.Laws.{NoticesStay}
use Rattle.notify_outbox.specs.Dispatches.{body_at, callback, notice_of, occurrence_subject, subject_of}
use Rattle.occ_table.proofs.JudgeLaws.{found_row}
use Rattle.occ_table.specs.Rows.{occurrence, row}
use Rattle.occ_table.specs.declared.rows.OccRow.{OccRow}
use Rattle.vnfm_base.specs.Ident.{IsIdentNumber}

-- a history is parted at a place: the events before it, its event, which makes a notice, and the later ones
pub record Parted (H : List Event) (place : ℕ) : Type 0 where
  pub later : List Event
  pub event : Event
  pub before : List Event
  pub is : H ≡ later ++ event ∷ before
  pub at : place ≡ length before + 1
  pub told : is_some (facts_of before event.kind) ≡ true

pub then_some : {A B : Type 0} → (f : A → Option B) (x : Option A) (y : B) → option_and_then f x ≡ Some y
    → (a : A) × (x ≡ Some a) × (f a ≡ Some y)
then_some f None y e = cc
then_some f (Some a) y e = (a, refl, e)

then_there : {A B : Type 0} → (f : A → Option B) (x : Option A) → is_some (option_and_then f x) ≡ true
    → (a : A) × (x ≡ Some a) × (is_some (f a) ≡ true)
then_there f None e = cc
then_there f (Some a) e = (a, refl, e)

map_there : {A B : Type 0} → (f : A → B) (x : Option A) → is_some (option_map f x) ≡ true → is_some x ≡ true
map_there f None e = cc
map_there f (Some a) e = refl

when_is : (b : Bool) (n p : ℕ) → when b n ≡ Some p → (b ≡ true) × (n ≡ p)
when_is true n p e = (refl, cc)
when_is false n p e = cc

passes_there : {A : Type 0} → (p : A → Bool) (x : Option A) → option_map_or p x false ≡ true → is_some x ≡ true
passes_there p None e = cc
passes_there p (Some a) e = refl

-- an event whose notice has this place makes one, and has that place
pub its_place : (m s : ℕ) (H : List Event) (k : EventKind) (p : ℕ) → notice_in m s H k ≡ Some p
    → (p ≡ length H + 1) × (is_some (facts_of H k) ≡ true)
its_place m s H k p e =
    let found = then_some (λ (sub : Subscription). when (is_noticed m H k sub) (length H + 1)) (subscription H s) p e in
    let is = when_is (is_noticed m H k found.0) (length H + 1) p found.2 in
    (sym is.1, passes_there (matches m found.0.filter) (facts_of H k) is.0)

parted_more : (x : Event) (H : List Event) (place : ℕ) → Parted H place → Parted (x ∷ H) place
parted_more x H place is = record {
  later = x ∷ is.later;
  event = is.event;
  before = is.before;
  is = ap (λ (G : List Event). x ∷ G) is.is;
  at = is.at;
  told = is.told;
}

parted_step : (m s : ℕ) (e : Event) (H : List Event) (place : ℕ) (x : Option ℕ) → notice_in m s H e.kind ≡ x
    → (IsIn place (notices m H s) → Parted H place) → IsIn place (cons_option x (notices m H s)) → Parted (e ∷ H) place
parted_step m s e H place None is rest g = parted_more e H place (rest g)
parted_step m s e H place (Some p) is rest (inr g) = parted_more e H place (rest g)
parted_step m s e H place (Some p) is rest (inl same) =
    let its = its_place m s H e.kind p is in
    record { later = []; event = e; before = H; is = refl; at = sym same ∙ its.0; told = its.1 }

-- the history is parted at the place of each notice
pub parted : (m s : ℕ) (H : List Event) (place : ℕ) → IsIn place (notices m H s) → Parted H place
parted m s [] place h = absurd h
parted m s (e ∷ H) place h = parted_step m s e H place (notice_in m s H e.kind) refl (λ g. parted m s H place g) h

chosen : {A : Type 0} → (b : Bool) (x : Option A) (r : A) → cond b x None ≡ Some r → (b ≡ true) × (x ≡ Some r)
chosen true x r e = (refl, e)
chosen false x r e = cc

-- a subscription for which a notice waits is live, and that is its next one
pub waits_next : (m : ℕ) (H : List Event) (s place : ℕ) → first_waiting m H s ≡ Some place
    → (is_subscribed H s ≡ true) × (next_notice m H s ≡ Some place)
waits_next m H s place e = chosen (is_subscribed H s) (next_notice m H s) place e

-- the history is parted at the place of the first notice that waits
pub waits_parted : (m : ℕ) (H : List Event) (s place : ℕ) → first_waiting m H s ≡ Some place → Parted H place
waits_parted m H s place e =
    let past = filter (nat_lt (cursor H s)) (notices m H s) in
    parted m s H place (of_filter (nat_lt (cursor H s)) place (notices m H s) (last_in past place (waits_next m H s place e).1)).0

-- that place is one of the history
pub parted_within : (H : List Event) (place : ℕ) → Parted H place → (1 ≤ place) × (place ≤ length H)
parted_within H place is =
    let at = is.at in
    let long : length H ≡ length (is.later ++ is.event ∷ is.before) = ap length is.is in
    (omega (arith, at), omega (arith, at, long, length-append is.later (is.event ∷ is.before)))

get_front : (xs ys : List Event) (k : ℕ) → k < length xs → slice_get (xs ++ ys) k ≡ slice_get xs k
get_front [] ys k h = absurd (omega (arith, h))
get_front (x ∷ xs) ys zero h = refl
get_front (x ∷ xs) ys (suc k) h = get_front xs ys k (omega (arith, h))

get_behind : (xs ys : List Event) (y : Event) (k : ℕ) → k ≡ length xs → slice_get (xs ++ y ∷ ys) k ≡ Some y
get_behind [] ys y zero h = refl
get_behind [] ys y (suc k) h = absurd (omega (arith, h))
get_behind (x ∷ xs) ys y zero h = absurd (omega (arith, h))
get_behind (x ∷ xs) ys y (suc k) h = get_behind xs ys y k (omega (arith, h))

-- an event of a history is one of it with an event more
event_stays : (x : Event) (H : List Event) (n : ℕ) → 1 ≤ n → n ≤ length H → event_in (x ∷ H) n ≡ event_in H n
event_stays x H n some within =
    ap (λ (es : List Event). slice_get es (n - 1)) (reverse-cons x H)
    ∙ get_front (reverse H) (x ∷ []) (n - 1) (omega (arith, some, within, length-reverse H))

event_last : (e : Event) (H : List Event) (n : ℕ) → n ≡ length H + 1 → event_in (e ∷ H) n ≡ Some e
event_last e H n is =
    ap (λ (es : List Event). slice_get es (n - 1)) (reverse-cons e H)
    ∙ get_behind (reverse H) [] e (n - 1) (omega (arith, is, length-reverse H))

-- and of it with more events
event_behind : (later : List Event) (e : Event) (before : List Event) (n : ℕ) → n ≡ length before + 1
    → event_in (later ++ e ∷ before) n ≡ Some e
event_behind [] e before n is = event_last e before n is
event_behind (x ∷ later) e before n is =
    event_stays x (later ++ e ∷ before) n (omega (arith, is)) (omega (arith, is, length-append later (e ∷ before)))
    ∙ event_behind later e before n is

-- the event at which the history is parted stands at that place
pub event_parted : (H : List Event) (place : ℕ) → (is : Parted H place) → event_in H place ≡ Some is.event
event_parted H place is = ap (λ (G : List Event). event_in G place) is.is ∙ event_behind is.later is.event is.before place is.at

few_more : {B : Type 0} → (o : Option B) (ys : List B) (n : ℕ) → length ys ≤ n → length (cons_option o ys) ≤ suc n
few_more None ys n h = omega (arith, h)
few_more (Some y) ys n h = omega (arith, h)

few_mapped : {A B : Type 0} → (f : A → Option B) (xs : List A) → length (filter_map f xs) ≤ length xs
few_mapped f [] = omega arith
few_mapped f (x ∷ xs) = few_more (f x) (filter_map f xs) (length xs) (few_mapped f xs)

-- what a notice of an event is about, and identifiers can carry its numbers
pub record IsAbout (H : List Event) (k : EventKind) : Type 0 where
  pub subject : Subject
  pub is : subject_of H k ≡ Some subject
  pub identified : IsIdentified subject

-- the history has no more events than identifiers can number
abbrev pub IsFew : List Event → Type 0
IsFew H = length H < 268435456

instance_number : (m : ℕ) (G : List Event) (i : ℕ) → IsLegal m G → IsFew G → is_some (creation G i) ≡ true → IsIdentNumber i
instance_number m G i legal few there =
    let within = found_within (λ x. x.instance) (creations G) i (instances_counted window m G legal) there in
    let made = few_mapped (λ (e : Event). created_in e.kind) G in
    (within.0, omega (arith, within.1, made, few))

occurrence_number : (m : ℕ) (G : List Event) (o : ℕ) → IsLegal m G → IsFew G → is_some (operation G o) ≡ true → IsIdentNumber o
occurrence_number m G o legal few there =
    let within = found_within (λ a. a.occ) (operations G) o (operations_counted window m G legal) there in
    let made = few_mapped (λ (e : Event). asked_in e.kind) G in
    (within.0, omega (arith, within.1, made, few))

-- identifiers can carry the number of a live subscription
pub subscription_number : (m : ℕ) (H : List Event) (s : ℕ) → IsLegal m H → length H < 268435456 → is_subscribed H s ≡ true → IsIdentNumber s
subscription_number m H s legal few live =
    let there = and_left (is_some (subscription H s)) _ live in
    let within = found_within (λ x. x.number) (subscriptions H) s (subscriptions_counted window m H legal) there in
    let made = few_mapped (λ (e : Event). subscribed_in e.kind) H in
    (within.0, omega (arith, within.1, made, few))

-- an event that makes a notice is about something, also by a later history, which finds the operations that it found
about_of : (m : ℕ) (H before : List Event) (k : EventKind) → IsLegal m before → IsFew before → IsAllowedWithin window m before k
    → ((o : ℕ) (a : Operation) → operation before o ≡ Some a → operation H o ≡ Some a)
    → is_some (facts_of before k) ≡ true → IsAbout H k
about_of m H before (Created i vnfd name text) legal few allowed stays told =
    let made = few_mapped (λ (e : Event). created_in e.kind) before in
    let number = allowed.number in
    record { subject = about.Creation i; is = refl; identified = (omega (arith, number), omega (arith, number, made, few)) }
about_of m H before (Deleted i) legal few allowed stays told = record {
  subject = about.Deletion i;
  is = refl;
  identified = instance_number m before i legal few (map_there _ (creation before i) told);
}
about_of m H before (Asked a) legal few allowed stays told =
    let made = few_mapped (λ (e : Event). asked_in e.kind) before in
    let number = allowed.number in
    record {
      subject = occurrence_subject Starting a;
      is = refl;
      identified = (
        (omega (arith, number), omega (arith, number, made, few)),
        instance_number m before a.instance legal few (map_there _ (creation before a.instance) told),
      );
    }
about_of m H before (Moved o to) legal few allowed stays told =
    let mine = then_there (occurrence_facts before to) (operation before o) told in
    let a : Operation = mine.0 in
    let own : a.occ ≡ o = found_number (λ x. x.occ) (operations before) o a mine.1 in
    record {
      subject = occurrence_subject to a;
      is = ap (option_map (occurrence_subject to)) (stays o a mine.1);
      identified = (
        subst IsIdentNumber (sym own) (occurrence_number m before o legal few (ap is_some mine.1)),
        instance_number m before a.instance legal few (map_there _ (creation before a.instance) mine.2),
      );
    }
about_of m H before k legal few allowed stays told = cc

-- what the notice of the event at which a legal history is parted is about
pub parted_about : (m : ℕ) (H : List Event) (place : ℕ) → IsLegal m H → length H < 268435456 → (is : Parted H place)
    → IsAbout H is.event.kind
parted_about m H place legal few is =
    let G = is.later ++ is.event ∷ is.before in
    let here : IsLegal m G = subst (IsLegal m) is.is legal in
    let long : length H ≡ length G = ap length is.is in
    let short : IsFew is.before = omega (arith, few, long, length-append is.later (is.event ∷ is.before)) in
    let past = legal_before window m (is.event ∷ is.before) is.later here in
    about_of m H is.before is.event.kind past.1 short past.0
    (λ o a found. ap (λ (K : List Event). operation K o) is.is
    ∙ later_found is.later is.event is.before o a here past.1 past.0 found) is.told
  where
    later_found : (later : List Event) (e : Event) (before : List Event) (o : ℕ) (a : Operation) → IsLegal m (later ++ e ∷ before)
        → IsLegal m before → IsAllowedWithin window m before e.kind → operation before o ≡ Some a
        → operation (later ++ e ∷ before) o ≡ Some a
    later_found later e before o a legal past allowed found =
        operation-later window m (e ∷ before) later o a legal
        (operation-next window m before e.moment e.kind o a past allowed found)

-- the row of an occurrence says what its move is about
pub moved_is : (H : List Event) (o : ℕ) (r : OccRow) (to : OpState) → occurrence H o ≡ Some r
    → Some (about.Occurrence o r.instance (kind_of r.ask) to) ≡ subject_of H (Moved o to)
moved_is H o r to found =
    let mine = found_row H o r found in
    let a : Operation = mine.0 in
    sym (ap (option_map (occurrence_subject to)) mine.1
    ∙ (ap (λ (n : ℕ). Some (about.Occurrence n a.instance (kind_of a.ask) to)) mine.2
    ∙ ap (λ (x : OccRow). Some (about.Occurrence o x.instance (kind_of x.ask) to)) mine.3))

none_of : {A B : Type 0} → (f : A → B) (x : Option A) → option_map f x ≡ None → x ≡ None
none_of f None e = refl
none_of f (Some a) e = cc

-- and where there is none it is about nothing
pub moved_none : (H : List Event) (o : ℕ) (to : OpState) → occurrence H o ≡ None → None ≡ subject_of H (Moved o to)
moved_none H o to none = sym (ap (option_map (occurrence_subject to)) (none_of (row H) (operation H o) none))

-- the body of the notice of the event at a place is that of what it is about
pub body_is : (m : ℕ) (H : List Event) (s place : ℕ) (e : Event) (x : Subject) → event_in H place ≡ Some e → subject_of H e.kind ≡ Some x
    → body_at m H s place ≡ Some (notice_text (record { manager = m; subscription = s; place = place; moment = e.moment; subject = x }))
body_is m H s place e x there about =
    ap (λ (y : Option Event). option_map notice_text (option_and_then (notice_of m H s place) y)) there
    ∙ ap (λ (y : Option Subject). option_map notice_text
    (option_map (λ (z : Subject). record { manager = m; subscription = s; place = place; moment = e.moment; subject = z }) y)) about

some_same : {A : Type 0} → {a b : A} → Some a ≡ Some b → a ≡ b
some_same e = cc

-- the event that stands at the place of the first notice that waits is about something
pub about_read : (m : ℕ) (H : List Event) (s place : ℕ) (e : Event) → IsLegal m H → length H < 268435456
    → first_waiting m H s ≡ Some place → event_in H place ≡ Some e → IsAbout H e.kind
about_read m H s place e legal few waits there =
    let is = waits_parted m H s place waits in
    let same : is.event ≡ e = some_same (sym (event_parted H place is) ∙ there) in
    subst (λ (x : Event). IsAbout H x.kind) same (parted_about m H place legal few is)

-- so it isn't about nothing
pub never_about_nothing : (m : ℕ) (H : List Event) (s place : ℕ) (e : Event) (x : Option Subject) → IsLegal m H → length H < 268435456
    → first_waiting m H s ≡ Some place → event_in H place ≡ Some e → x ≡ subject_of H e.kind → x ≡ None → ⊥
never_about_nothing m H s place e x legal few waits there is none =
    let about = about_read m H s place e legal few waits there in
    let clash : None ≡ Some about.subject = sym none ∙ (is ∙ about.is) in
    cc

-- and identifiers can carry its numbers
pub is_about : (m : ℕ) (H : List Event) (s place : ℕ) (e : Event) (x : Subject) → IsLegal m H → length H < 268435456
    → first_waiting m H s ≡ Some place → event_in H place ≡ Some e → Some x ≡ subject_of H e.kind → IsIdentified x
is_about m H s place e x legal few waits there is =
    let about = about_read m H s place e legal few waits there in
    subst IsIdentified (sym (some_same (is ∙ about.is))) about.identified

-- identifiers can carry the place of the first notice that waits
pub place_number : (m : ℕ) (H : List Event) (s place : ℕ) → length H < 268435456 → first_waiting m H s ≡ Some place → IsIdentNumber place
place_number m H s place few waits =
    let within = parted_within H place (waits_parted m H s place waits) in
    (within.0, omega (arith, within.1, few))

mapped : {A B : Type 0} → (f : A → B) (x : Option A) (y : B) → option_map f x ≡ Some y → (a : A) × (x ≡ Some a) × (f a ≡ y)
mapped f None y e = cc
mapped f (Some a) y e = (a, refl, cc)

-- the row of a subscription has its callback
pub callback_of : (H : List Event) (s : ℕ) (r : SubscriptionRow) → Some r ≡ subscription_at H s → callback H s ≡ Some r.callback
callback_of H s r found =
    let live = chosen (is_subscribed H s) (option_map (subscription_row H) (subscription H s)) r (sym found) in
    let mine = mapped (subscription_row H) (subscription H s) r live.1 in
    ap (option_map (λ (x : Subscription). x.callback)) mine.1 ∙ ap (λ (x : SubscriptionRow). Some x.callback) mine.2

pub events_stay : (more H : List Event) (n : ℕ) → 1 ≤ n → n ≤ length H → event_in (more ++ H) n ≡ event_in H n
events_stay [] H n some within = refl
events_stay (x ∷ more) H n some within =
    event_stays x (more ++ H) n some (omega (arith, within, length-append more H)) ∙ events_stay more H n some within

-- the event of a notice that waits is in each history that goes on from the one in which it waits
pub notice_stays : NoticesStay
notice_stays m H G s place waits extends =
    let is = waits_parted m H s place waits in
    let within = parted_within H place is in
    let there = event_parted H place is in
    (is.event, there, ap (λ (K : List Event). event_in K place) extends.is ∙ (events_stay extends.more H place within.0 within.1 ∙ there))
