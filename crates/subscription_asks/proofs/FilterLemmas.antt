-- The lists of a filter that is read are small.
use Rattle.std.proofs.Common.{◌≡◌, ◌≤◌, ℕ, List, [], ◌∷◌, Bool, true, false, Option, Some, None, Result, Ok, Err, IfOk, IfSome}
use Rattle.std.proofs.Common.{arith, length, refl}
use Rattle.std.proofs.lemmas.Bool.{le-leb, leb-true}
use Rattle.std.specs.List.{filter_map, list_all}
use Rattle.std.specs.Prelude.{codes, if◌then◌else◌, is_some, nat_le, option_and_then, unwrap_or}
use Rattle.json_bodies.specs.Body.{and_then, by_form, document, line_in, member_of, name_in, needed, needed_value, object_read}
use Rattle.json_bodies.specs.Body.{optional_read}
use Rattle.json_bodies.specs.Forms.{at_most, each_in, list_in, notice_in, operation_type_in, state_in}
use Rattle.json_bodies.specs.Forms as forms
use Rattle.json_bodies.specs.Subscribing.{about_in, all_instances, filter_in, inside_object, instances_in, no_filter, object_or_wrong}
use Rattle.json_bodies.specs.Subscribing.{subscription_in, subscription_of, values_in}
use Rattle.json_bodies.specs.declared.body.BodyFault.{BodyFault}
use Rattle.json_bodies.specs.declared.subscribing.AskedFilter.{AskedFilter}
use Rattle.json_bodies.specs.declared.subscribing.AskedInstances.{AskedInstances}
use Rattle.json_bodies.specs.declared.subscribing.SubscriptionBody.{SubscriptionBody}
use Rattle.lcm_model.specs.Notices.{is_small_filter}
use Rattle.serde_json.specs.Data.{Data}

-- what is read of two readings in a row has what the second one's has
both : {A B : Type 0} (Q : A → Type 0) (P : B → Type 0) (first : Result A BodyFault) (next : A → Result B BodyFault) → IfOk first Q
    → ((a : A) → Q a → IfOk (next a) P) → IfOk (and_then first next) P
both Q P (Ok a) next here behind = behind a here
both Q P (Err why) next here behind = tt

-- what is read of an optional value has what the value has, or is absent
inside : {A : Type 0} (P : A → Type 0) (read : List ℕ → Data → Result A BodyFault) (name : List ℕ) (o : Option Data)
    → ((d : Data) → IfOk (read name d) P) → IfOk (optional_read read name o) (λ x. IfSome x P)
inside P read name None each = tt
inside P read name (Some d) each = both P (λ x. IfSome x P) (read name d) (λ a. Ok (Some a)) (each d) (λ a is. is)

-- what is made of some entries of a list are no more than the entries
pub few_mapped : {A B : Type 0} (form : A → Option B) (xs : List A) → length (filter_map form xs) ≤ length xs
few_mapped form [] = omega arith
few_mapped {B = B} form (x ∷ xs) = of (form x) refl (few_mapped form xs) where
  of : (o : Option B) → form x ≡ o → length (filter_map form xs) ≤ length xs → length (filter_map form (x ∷ xs)) ≤ length (x ∷ xs)
  of None e short = rw e (omega arith)
  of (Some y) e short = rw e (omega arith)

abbrev IsFew : {A : Type 0} → List A → Type 0
IsFew xs = length xs ≤ 64

each_few : {A : Type 0} (form : Data → Option A) (ds : List Data) → length ds ≤ 64 → IfSome (each_in form ds) IsFew
each_few form ds few = by (list_all (λ d. is_some (form d)) ds) where
  by : (b : Bool) → IfSome (if b then Some (filter_map form ds) else None) IsFew
  by true = let fewer = few_mapped form ds in omega (arith, few, fewer)
  by false = tt

counted_few : {A : Type 0} (form : Data → Option A) (ds : List Data) → IfSome (option_and_then (each_in form) (at_most 64 ds)) IsFew
counted_few form ds = by (nat_le (length ds) 64) refl where
  by : (b : Bool) → nat_le (length ds) 64 ≡ b
      → IfSome (option_and_then (each_in form) (if b then Some ds else None)) IsFew
  by true is = each_few form ds (leb-true (length ds) 64 is)
  by false is = tt

listed_few : {A : Type 0} (form : Data → Option A) (o : Option (List Data))
    → IfSome (option_and_then (each_in form) (option_and_then (at_most 64) o)) IsFew
listed_few form None = tt
listed_few form (Some ds) = counted_few form ds

value_few : {A : Type 0} (name : List ℕ) (said : Option (List A)) → IfSome said IsFew → IfOk (needed_value name said) IsFew
value_few name None is = tt
value_few name (Some xs) is = is

or_none_few : {A : Type 0} (o : Option (List A)) → IfSome o IsFew → IsFew (unwrap_or o [])
or_none_few None is = omega arith
or_none_few (Some xs) is = is

-- a list of a filter has at most 64 values
values_few : {A : Type 0} (form : Data → Option A) (name : List ℕ) (d : Data) → IfOk (values_in form name d) IsFew
values_few form name d =
    both (λ x. IfSome x IsFew) IsFew _ _
    (inside IsFew (by_form (list_in 64 form)) name (member_of name d)
    (λ value. value_few name (list_in 64 form value) (listed_few form (forms.values_in value))))
    (λ o is. or_none_few o is)

-- the lists of names of a filter are few
pub record AreFewNames (about : AskedInstances) : Type 0 where
  pub vnfds : length about.vnfds ≤ 64
  pub instances : length about.instances ≤ 64
  pub names : length about.names ≤ 64

none_asked : AreFewNames all_instances
none_asked = record { vnfds = omega arith; instances = omega arith; names = omega arith }

instances_few : (d : Data) → IfOk (instances_in d) AreFewNames
instances_few d =
    both IsFew AreFewNames _ _ (values_few name_in (codes "vnfdIds") d) (λ vnfds few.
    both IsFew AreFewNames _ _ (values_few name_in (codes "vnfInstanceIds") d) (λ instances some.
    both IsFew AreFewNames _ _ (values_few name_in (codes "vnfInstanceNames") d) (λ names more.
    record { vnfds = few; instances = some; names = more })))

within_object : {A : Type 0} (P : A → Type 0) (members : Data → Result A BodyFault) (name : List ℕ) (d : Data) → IfOk (members d) P
    → IfOk (inside_object members name d) P
within_object P members name d is =
    both (λ _. Unit {0}) P (object_or_wrong name d) (λ _. members d) (any (object_or_wrong name d)) (λ _ _. is) where
      any : (r : Result (Unit {0}) BodyFault) → IfOk r (λ _. Unit {0})
      any (Ok done) = tt
      any (Err why) = tt

about_few : (d : Data) → IfOk (about_in d) AreFewNames
about_few d =
    both (λ x. IfSome x AreFewNames) AreFewNames _ _
    (inside AreFewNames (inside_object instances_in) (codes "vnfInstanceSubscriptionFilter")
    (member_of (codes "vnfInstanceSubscriptionFilter") d)
    (λ value. within_object AreFewNames instances_in (codes "vnfInstanceSubscriptionFilter") value (instances_few value)))
    (λ o is. or_all o is) where
      or_all : (o : Option AskedInstances) → IfSome o AreFewNames → AreFewNames (unwrap_or o all_instances)
      or_all None is = none_asked
      or_all (Some about) is = is

abbrev IsSmall : AskedFilter → Type 0
IsSmall asked = is_small_filter asked.filter ≡ true

is_le : (n : ℕ) → n ≤ 64 → nat_le n 64 ≡ true
is_le n few = le-leb n 64 few

filter_few : (d : Data) → IfOk (filter_in d) IsSmall
filter_few d =
    both AreFewNames IsSmall _ _ (about_few d) (λ about few.
    both IsFew IsSmall _ _ (values_few notice_in (codes "notificationTypes") d) (λ notices some.
    both IsFew IsSmall _ _ (values_few operation_type_in (codes "operationTypes") d) (λ operations more.
    both IsFew IsSmall _ _ (values_few state_in (codes "operationStates") d) (λ states last.
    rw (
      is_le (length about.vnfds) few.vnfds,
      is_le (length about.instances) few.instances,
      is_le (length about.names) few.names,
      is_le (length notices) some,
      is_le (length operations) more,
      is_le (length states) last,
    ) refl))))

asked_small : (o : Option AskedFilter) → IfSome o IsSmall → IsSmall (unwrap_or o no_filter)
asked_small None is = refl
asked_small (Some asked) is = is

in_small : (d : Data) → IfOk (subscription_in d) (λ body. IsSmall body.asked)
in_small d =
    both (λ _. Unit {0}) (λ (body : SubscriptionBody). IsSmall body.asked) (needed line_in (codes "callbackUri") d) _
    (any (needed line_in (codes "callbackUri") d)) (λ callback _.
    both (λ x. IfSome x IsSmall) (λ (body : SubscriptionBody). IsSmall body.asked) _ _
    (inside IsSmall (inside_object filter_in) (codes "filter") (member_of (codes "filter") d)
    (λ value. within_object IsSmall filter_in (codes "filter") value (filter_few value)))
    (λ asked is. asked_small asked is)) where
      any : (r : Result (List ℕ) BodyFault) → IfOk r (λ _. Unit {0})
      any (Ok line) = tt
      any (Err why) = tt

-- the filter of a request to subscribe is small
pub body_small : (bytes : List ℕ) → IfOk (subscription_of bytes) (λ body. is_small_filter body.asked.filter ≡ true)
body_small bytes = by (document bytes) where
  by : (o : Option Data) → IfOk (object_read subscription_in o) (λ body. is_small_filter body.asked.filter ≡ true)
  by None = tt
  by (Some d) = in_small d
