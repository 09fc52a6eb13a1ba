-- What is found by steps, each of which gives one thing at most.
use Rattle.std.proofs.Common.{◌≡◌, ◌∙◌, ℕ, List, ◌++◌, length, take, drop, arith, Option, Some, None, Result, Ok, Err}
use Rattle.std.proofs.Common.{sym, ap, subst, inl, inr}
use Rattle.std.specs.Prelude.{codes, unwrap_or}
use Rattle.std.specs.Result.{result_unwrap_or}
use Rattle.std.specs.Str.Pattern.{FindsText, HasMatch}
use Rattle.std.proofs.Math.Seq.{drop-append_seam}
use Rattle.std.proofs.lemmas.List.{length-append, take-append-drop}
use Rattle.url.specs.Parser.{parse_url}
use Rattle.url.specs.Parts.{Parts}
use Rattle.http_peers.specs.Targets.{AreGrantsAt, AreGrantsOf, Finds, IsCallbackTarget, IsGrantTarget, IsLocatedTarget}
use Rattle.http_peers.specs.Targets.{IsTargetOf, NamesScheme, TellsOf}
use Rattle.http_peers.specs.declared.targets.Target.{Target}
use Rattle.http_peers.specs.declared.targets.TargetFault.{TargetFault}
use Rattle.http_peers.specs.declared.targets.TargetFault.TheVariants as fault

-- a result has one value
pub same_ok : {T E : Type 0} (r : Result T E) (a b : T) → r ≡ Ok a → r ≡ Ok b → a ≡ b
same_ok r a b is_a is_b = ap (λ x. result_unwrap_or x a) (sym is_a ∙ is_b)

-- an option has one value
pub same_some : {T : Type 0} (o : Option T) (a b : T) → o ≡ Some a → o ≡ Some b → a ≡ b
same_some o a b is_a is_b = ap (λ x. unwrap_or x a) (sym is_a ∙ is_b)

-- where there is none of the one, there is none of the other, of which it is a part
pub none_of : {A B : Type 0} (one : A → Type 0) (other : B → Type 0) (why : TargetFault) → ((b : B) → other b → (a : A) × one a)
    → Finds one (Err why) → Finds other (Err why)
none_of one other fault.NoTarget part none = λ b is. let a = part b is in none a.0 a.1
none_of one other fault.Memory part none = none

-- the same of a result that says so
pub none_by : {A B : Type 0} (one : A → Type 0) (other : B → Type 0) (r : Result B TargetFault) (why : TargetFault) → r ≡ Err why
    → ((b : B) → other b → (a : A) × one a) → Finds one (Err why) → Finds other r
none_by one other r why is part none = subst (Finds other) (sym is) (none_of one other why part none)

-- what is found by a second step from what the first one found
pub found_by : {A B : Type 0} (first : A → Type 0) (second : A → B → Type 0) (a : A) (r : Result B TargetFault)
    → ((b : A) → first b → b ≡ a) → first a → Finds (second a) r → Finds (λ b. (x : A) × first x × second x b) r
found_by first second a (Ok b) only is found = (a, is, found)
found_by first second a (Err why) only is none =
    none_of (second a) (λ b. (x : _) × first x × second x b) why
    (λ b are. (b, subst (λ x. second x b) (only are.0 are.1) are.2)) none

-- a text tells of one URL
pub tells_one : (text : List ℕ) (a b : Parts) → TellsOf text a → TellsOf text b → b ≡ a
tells_one text a b (inl is_a) (inl is_b) = same_ok _ b a is_b.1 is_a.1
tells_one text a b (inl is_a) (inr is_b) = absurd (is_b.0 is_a.0)
tells_one text a b (inr is_a) (inl is_b) = absurd (is_a.0 is_b.0)
tells_one text a b (inr is_a) (inr is_b) = same_ok _ b a is_b.1 is_a.1

-- a text in which `://` was found names its scheme
pub names_scheme : (text : List ℕ) → HasMatch (FindsText (codes "://")) text → NamesScheme text
names_scheme text found =
    (take found.0 text, drop found.1 text, sym (take-append-drop found.0 text) ∙ ap (λ x. take found.0 text ++ x) found.2.1.split)

-- one in which it wasn't doesn't
pub lacks_scheme : (text : List ℕ) → FindsText (codes "://") text None → NamesScheme text → ⊥
lacks_scheme text lacks names =
    lacks (length names.0)
    (omega (arith, ap length names.2, length-append names.0 (codes "://" ++ names.1)))
    names.1 (ap (drop (length names.0)) names.2 ∙ drop-append_seam names.0 (codes "://" ++ names.1))

-- what such a text tells of is the URL that it is
pub parts_named : (text : List ℕ) (url : Parts) → NamesScheme text → TellsOf text url → (a : Parts) × (parse_url None text ≡ Ok a)
parts_named text url names (inl is) = (url, is.1)
parts_named text url names (inr is) = absurd (is.0 names)

pub parts_unnamed : (text : List ℕ) (url : Parts) → (NamesScheme text → ⊥) → TellsOf text url
    → (a : Parts) × (parse_url None (codes "http://" ++ text) ≡ Ok a)
parts_unnamed text url lacks (inl is) = absurd (lacks is.0)
parts_unnamed text url lacks (inr is) = (url, is.1)

-- what a text that names its scheme tells of
pub named_found : (text : List ℕ) (r : Result Parts TargetFault) → NamesScheme text → Finds (λ url. parse_url None text ≡ Ok url) r
    → Finds (TellsOf text) r
named_found text (Ok url) names found = inl (names, found)
named_found text (Err why) names none =
    none_of (λ url. parse_url None text ≡ Ok url) (TellsOf text) why (λ url. parts_named text url names) none

-- and one that doesn't
pub unnamed_found : (text : List ℕ) (r : Result Parts TargetFault) → (NamesScheme text → ⊥)
    → Finds (λ url. parse_url None (codes "http://" ++ text) ≡ Ok url) r → Finds (TellsOf text) r
unnamed_found text (Ok url) lacks found = inr (lacks, found)
unnamed_found text (Err why) lacks none =
    none_of (λ url. parse_url None (codes "http://" ++ text) ≡ Ok url) (TellsOf text) why (λ url. parts_unnamed text url lacks) none

-- the target of a callback, by that of its URL
pub callback_found : (uri : List ℕ) (url : Parts) (r : Result Target TargetFault) → TellsOf uri url → Finds (IsTargetOf url) r
    → Finds (IsCallbackTarget uri) r
callback_found uri url r is found = found_by (TellsOf uri) IsTargetOf url r (λ b. tells_one uri url b is) is found

-- the target of the grants
pub grant_found : (at : Option Parts) (url : Parts) (r : Result Target TargetFault) → at ≡ Some url → Finds (IsTargetOf url) r
    → Finds (IsGrantTarget at None) r
grant_found at url r is found = found_by (λ x. at ≡ Some x) IsTargetOf url r (λ b is_b. same_some at b url is_b is) is found

-- the target of a location beside them
pub located_found : (at : Option Parts) (url : Parts) (location : List ℕ) (r : Result Target TargetFault) → at ≡ Some url
    → Finds (IsLocatedTarget url location) r → Finds (IsGrantTarget at (Some location)) r
located_found at url location r is found = subst (λ a. Finds (IsGrantTarget a (Some location)) r) (sym is) found

-- the URL of an address has one URL of grants
pub grants_of_one : (told a b : Parts) → AreGrantsOf told a → AreGrantsOf told b → a ≡ b
grants_of_one told a b (inl are) (inl those) = same_ok _ a b are.2 those.2
grants_of_one told a b (inl are) (inr those) = absurd (those.0 (are.0, are.1))
grants_of_one told a b (inr are) (inl those) = absurd (are.0 (those.0, those.1))
grants_of_one told a b (inr are) (inr those) = are.1 ∙ sym those.1

-- the grants at an address, whose URL this is
pub grants_by : (address : List ℕ) (told grants : Parts) → TellsOf address told → AreGrantsAt address grants → AreGrantsOf told grants
grants_by address told grants tells are = subst (λ x. AreGrantsOf x grants) (tells_one address told are.0 tells are.1) are.2

-- the grants at an address are one
pub grants_one : (address : List ℕ) (told a b : Parts) → TellsOf address told → AreGrantsOf told a → AreGrantsAt address b → b ≡ a
grants_one address told a b tells are those = grants_of_one told b a (grants_by address told b tells those) are
