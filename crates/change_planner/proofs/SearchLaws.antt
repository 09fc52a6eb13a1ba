-- A search among rising numbers finds what is among them.
use Rattle.std.proofs.Common.{◌≡◌, ◌≤◌, ◌<◌, ◌+◌, ℕ, zero, suc, List, [], ◌∷◌, true, Some, refl, sym, subst, length, get_or, map, filter}
use Rattle.std.proofs.Common.{◌==◌, ◌||◌, ◌∙◌, Bool, ap, arith, inl, inr, ltb, ltb-true, ltb-false, slice_get}
use Rattle.std.proofs.lemmas.Bool.{leb-true}
use Rattle.std.proofs.lemmas.List.Sorted.{IsNonDecreasingBy-from_default, list_any-IsPermutation, searched}
use Rattle.std.proofs.Math.Path.{fun_ext}
use Rattle.std.specs.List.{list_all}
use Rattle.std.specs.List.Sorted.{IsBinarySearchResult, IsNonDecreasing, IsPermutation}
use Rattle.std.specs.Ordering.{nat_cmp}
use Rattle.std.specs.Prelude.{Err, Ok, Result, is_ok}
use Rattle.lcm_events.specs.Descriptors.{is_rising}
use Rattle.lcm_laws.proofs.CoverLaws.{all_in}
use Rattle.lcm_laws.proofs.Lists.{and_left, and_right, by_test}
use Rattle.lcm_laws.proofs.Members.{Less, Rises, among_in, get_in, in_among, rising_rises}
use Rattle.lcm_events.specs.declared.asks.Vnfc.{Vnfc}
use Rattle.lcm_model.specs.Plans.{is_named}
use Rattle.lcm_model.specs.Words.{IsIn, is_among}
use Rattle.change_planner.specs.Rolls.{are_rising, is_small}
use Rattle.change_planner.specs.declared.rolls.Roll.{Roll}

at_in : (ns : List ℕ) (i : ℕ) → i < length ns → IsIn (get_or ns i 0) ns
at_in [] i h = absurd (omega (arith, h))
at_in (n ∷ ns) zero h = inl refl
at_in (n ∷ ns) (suc i) h = inr (at_in ns i (omega (arith, h)))

in_at : (ns : List ℕ) (x : ℕ) → IsIn x ns → (i : ℕ) × (i < length ns) × (get_or ns i 0 ≡ x)
in_at [] x h = absurd h
in_at (n ∷ ns) x (inl e) = (0, omega arith, e)
in_at (n ∷ ns) x (inr h) = let rest = in_at ns x h in let k = rest.1 in (suc rest.0, omega (arith, k), rest.2)

rises_by : (ns : List ℕ) → Rises Less ns → (i j : ℕ) → i ≤ j → j < length ns → get_or ns i 0 ≤ get_or ns j 0
rises_by [] h i j le less = absurd (omega (arith, less))
rises_by (n ∷ ns) h zero zero le less = omega arith
rises_by (n ∷ ns) h zero (suc j) le less = let more = h.0 (get_or ns j 0) (at_in ns j (omega (arith, less))) in omega (arith, more)
rises_by (n ∷ ns) h (suc i) zero le less = absurd (omega (arith, le))
rises_by (n ∷ ns) h (suc i) (suc j) le less = rises_by ns h.1 i j (omega (arith, le)) (omega (arith, less))

pub searched_among : (ns : List ℕ) (x : ℕ) (r : Result ℕ ℕ) → IsNonDecreasing ns → IsBinarySearchResult (λ y. nat_cmp y x) ns r
    → is_ok r ≡ is_among ns x
searched_among ns x (Ok i) sorted found =
    let at = searched ns x (Ok i) found (λ i j le less. sorted i j 0 le less) in
    sym (in_among ns x (subst (λ (n : ℕ). IsIn n ns) at.1 (at_in ns i at.0)))
searched_among ns x (Err i) sorted found =
    let at = searched ns x (Err i) found (λ i j le less. sorted i j 0 le less) in
    by_test (is_among ns x)
    (λ among.
    let place = in_at ns x (among_in ns x among) in
    let within = place.1 in
    let is = place.2 in
    by_test (ltb place.0 i)
    (λ before. let low = at.1 place.0 (ltb-true place.0 i before) in absurd (omega (arith, low, is)))
    (λ behind. let high = at.2 place.0 (ltb-false place.0 i behind) within in absurd (omega (arith, high, is))))
    (λ apart. sym apart)

pub rising_sorted : (ns : List ℕ) → is_rising ltb ns ≡ true → IsNonDecreasing ns
rising_sorted ns rising = IsNonDecreasingBy-from_default (λ n. n) ns 0 (rises_by ns (rising_rises ns rising))

pub rising_at : (rolls : List Roll) (v : ℕ) (r : Roll) → are_rising rolls ≡ true → slice_get rolls v ≡ Some r
    → is_rising ltb r.staying ≡ true
rising_at rolls v r all at = all_in (λ r. is_rising ltb r.staying) r rolls all (get_in r rolls v at)

-- the serials of a VDU that are named
pub named_among : (named : List Vnfc) (v s : ℕ) → is_among (map (λ x. x.serial) (filter (λ x. x.vdu == v) named)) s ≡ is_named named v s
named_among [] v s = refl
named_among (x ∷ named) v s = by_test (x.vdu == v)
    (λ own. rw own (ap (λ b. (x.serial == s) || b) (named_among named v s)))
    (λ other. rw other (named_among named v s))

-- and the same once they are sorted
pub named_sorted : (named : List Vnfc) (v : ℕ) (ns ms : List ℕ) → ns ≡ map (λ x. x.serial) (filter (λ x. x.vdu == v) named)
    → IsPermutation ns ms
    → (s : ℕ) → is_among ms s ≡ is_named named v s
named_sorted named v ns ms own shuffled s =
    sym (list_any-IsPermutation (λ m. m == s) ns ms shuffled) ∙ (ap (λ ks. is_among ks s) own ∙ named_among named v s)

-- tests that agree let the same through
pub filter_like : (p q : ℕ → Bool) (ns : List ℕ) → ((n : ℕ) → p n ≡ q n) → filter p ns ≡ filter q ns
filter_like p q ns f = ap (λ r. filter r ns) (fun_ext f)

pub small_at : (rolls : List Roll) (v : ℕ) (r : Roll) → list_all is_small rolls ≡ true → slice_get rolls v ≡ Some r
    → r.top + r.missing < 4294967296
small_at rolls v r all at =
    let small = all_in is_small r rolls all (get_in r rolls v at) in
    let top = ltb-true r.top 2147483648 (and_left _ _ small) in
    let missing = leb-true r.missing 1048625535 (and_right (ltb r.top 2147483648) _ small) in
    omega (arith, top, missing)

pub missing_at : (rolls : List Roll) (v : ℕ) (r : Roll) → list_all is_small rolls ≡ true → slice_get rolls v ≡ Some r
    → r.missing ≤ 1048625535
missing_at rolls v r all at = leb-true r.missing 1048625535 (and_right (ltb r.top 2147483648) _
    (all_in is_small r rolls all (get_in r rolls v at)))
