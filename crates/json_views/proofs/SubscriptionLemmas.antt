-- The members of the view of a subscription, and that it has no float.
use Rattle.std.proofs.Common.{◌≡◌, ◌∷◌, List, None, String, Option, Some, [], ap, false, filter, length, refl, true, ℕ}
use Rattle.std.specs.declared.alloc.Global.{Global}
use Rattle.std.specs.Prelude.{codes, if◌then◌else◌, ◌==◌, Bool}
use Rattle.serde_json.specs.Data.{Data, Members, member, no_members, object, string}
use Rattle.serde_json.specs.View.{members_view, view}
use Rattle.serde_json.specs.Written.{has_float, members_have_float}
use Rattle.serde_json.proofs.Views.{view-Object}
use Rattle.serde_json.specs.declared.value.Value.{Object, Value}
use Rattle.std.proofs.Common.{BTreeMap, IsTrue, ◌↔◌}
use Rattle.instance_table.specs.declared.rows.SubscriptionRow.{SubscriptionRow}
use Rattle.json_bodies.specs.Words.{notice_word, operation_type_word, state_word}
use Rattle.json_members.specs.Members.{put_where}
use Rattle.json_views.specs.Subscription.{about_members, filter_members, object_where, subscription_value, subscriptions_value, texts_where}
use Rattle.json_views.specs.Views.{array_of, member_where}
use Rattle.json_views.proofs.ListLemmas.{filter-all}
use Rattle.json_views.proofs.ViewLemmas.{IsPlain, array_plain, where_plain}
use Rattle.lcm_events.specs.Same.{same_role}
use Rattle.lcm_events.specs.declared.filters.Filter.{Filter}
use Rattle.lcm_events.specs.declared.states.Role.{Role}

-- each value of a list is shown
pub texts_all : {A : Type 0} (text : A → List ℕ) (xs : List A)
    → (if length xs == 0 then None else Some (array_of (λ x. string (text x)) (filter (λ x. true) xs))) ≡ texts_where text xs
texts_all text xs = ap (λ ys. if length xs == 0 then None else Some (array_of (λ x. string (text x)) ys)) (filter-all xs)

-- members that are there, put one after another, are those of the view
pub about_made : (a b c : Option Data)
    → put_where (codes "vnfdIds") c (put_where (codes "vnfInstanceNames") b (put_where (codes "vnfInstanceIds") a no_members))
    ≡ member_where (codes "vnfInstanceIds") a (member_where (codes "vnfInstanceNames") b (member_where (codes "vnfdIds") c no_members))
about_made None None None = refl
about_made None None (Some z) = refl
about_made None (Some y) None = refl
about_made None (Some y) (Some z) = refl
about_made (Some x) None None = refl
about_made (Some x) None (Some z) = refl
about_made (Some x) (Some y) None = refl
about_made (Some x) (Some y) (Some z) = refl

pub filter_made : (a b c d : Option Data)
    → put_where (codes "vnfInstanceSubscriptionFilter") d (put_where (codes "operationTypes") c (put_where (codes "operationStates") b
    (put_where (codes "notificationTypes") a no_members)))
    ≡ member_where (codes "notificationTypes") a (member_where (codes "operationStates") b (member_where (codes "operationTypes") c
    (member_where (codes "vnfInstanceSubscriptionFilter") d no_members)))
filter_made None None None None = refl
filter_made None None None (Some w) = refl
filter_made None None (Some z) None = refl
filter_made None None (Some z) (Some w) = refl
filter_made None (Some y) None None = refl
filter_made None (Some y) None (Some w) = refl
filter_made None (Some y) (Some z) None = refl
filter_made None (Some y) (Some z) (Some w) = refl
filter_made (Some x) None None None = refl
filter_made (Some x) None None (Some w) = refl
filter_made (Some x) None (Some z) None = refl
filter_made (Some x) None (Some z) (Some w) = refl
filter_made (Some x) (Some y) None None = refl
filter_made (Some x) (Some y) None (Some w) = refl
filter_made (Some x) (Some y) (Some z) None = refl
filter_made (Some x) (Some y) (Some z) (Some w) = refl

pub about_all : (f : Filter)
    → put_where (codes "vnfdIds") (if length f.vnfds == 0 then None else Some (array_of string (filter (λ x. true) f.vnfds)))
    (put_where (codes "vnfInstanceNames") (if length f.names == 0 then None else Some (array_of string (filter (λ x. true) f.names)))
    (put_where (codes "vnfInstanceIds") (if length f.instances == 0 then None else Some (array_of string (filter (λ x. true) f.instances)))
    no_members)) ≡ about_members f
about_all f = rw (texts_all (λ text. text) f.vnfds, texts_all (λ text. text) f.names, texts_all (λ text. text) f.instances)
    (about_made _ _ _)

pub filter_all : (f : Filter) (about : Option Data) → about ≡ object_where (about_members f)
    → put_where (codes "vnfInstanceSubscriptionFilter") about
    (put_where (codes "operationTypes")
    (if length f.operations == 0 then None else Some (array_of (λ x. string (operation_type_word x)) (filter (λ x. true) f.operations)))
    (put_where (codes "operationStates")
    (if length f.states == 0 then None else Some (array_of (λ x. string (state_word x)) (filter (λ x. true) f.states)))
    (put_where (codes "notificationTypes")
    (if length f.notices == 0 then None else Some (array_of (λ x. string (notice_word x)) (filter (λ x. true) f.notices)))
    no_members))) ≡ filter_members f
filter_all f about is = rw (texts_all operation_type_word f.operations, texts_all state_word f.states, texts_all notice_word f.notices, is)
    (filter_made _ _ _ _)

-- an object that has members is shown
members_shown : (ms : List (String Global × Value)) → (length ms ≡ 0 → ⊥) → Some (object (members_view ms)) ≡ object_where (members_view ms)
members_shown [] none = absurd (none refl)
members_shown (m ∷ ms) none = refl

pub some_shown : (m : BTreeMap (String Global) Value) (empty : Bool) → (IsTrue empty ↔ (length m.entries ≡ 0)) → empty ≡ false
    → Some (view (Object m)) ≡ object_where (members_view m.entries)
some_shown m empty is isnt = rw (view-Object m) (members_shown m.entries (λ none. (let yes : empty ≡ true = is.1 none in cc)))

-- a list of texts has no float, and so it is with what is made of such
texts_plain : {A : Type 0} (text : A → List ℕ) (xs : List A) → IsPlain (texts_where text xs)
texts_plain text xs = by (length xs == 0) where
  by : (b : Bool) → IsPlain (if b then None else Some (array_of (λ x. string (text x)) xs))
  by true = tt
  by false = array_plain (λ x. string (text x)) (λ x. refl) xs

object_plain : (ms : Members) → members_have_float ms ≡ false → IsPlain (object_where ms)
object_plain no_members plain = tt
object_plain (member name d rest) plain = plain

about_plain : (f : Filter) → members_have_float (about_members f) ≡ false
about_plain f =
    where_plain (codes "vnfInstanceIds") (texts_where (λ text. text) f.instances) _ (texts_plain (λ text. text) f.instances)
    (where_plain (codes "vnfInstanceNames") (texts_where (λ text. text) f.names) _ (texts_plain (λ text. text) f.names)
    (where_plain (codes "vnfdIds") (texts_where (λ text. text) f.vnfds) _ (texts_plain (λ text. text) f.vnfds) refl))

filter_plain : (f : Filter) → members_have_float (filter_members f) ≡ false
filter_plain f =
    where_plain (codes "notificationTypes") (texts_where notice_word f.notices) _ (texts_plain notice_word f.notices)
    (where_plain (codes "operationStates") (texts_where state_word f.states) _ (texts_plain state_word f.states)
    (where_plain (codes "operationTypes") (texts_where operation_type_word f.operations) _ (texts_plain operation_type_word f.operations)
    (where_plain (codes "vnfInstanceSubscriptionFilter") (object_where (about_members f)) _ (object_plain (about_members f) (about_plain f))
    refl)))

pub subscription_plain : (manager n : ℕ) (callback : List ℕ) (f : Filter) → has_float (subscription_value manager n callback f) ≡ false
subscription_plain manager n callback f =
    where_plain (codes "filter") (object_where (filter_members f)) _ (object_plain (filter_members f) (filter_plain f)) refl
