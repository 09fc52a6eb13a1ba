-- How long the spelling of a subscription is.
use Rattle.std.proofs.Common.{◌≡◌, ◌≤◌, ◌+◌, ◌*◌, ℕ, List, [], ◌∷◌, ◌++◌, refl, length, flat_map, arith, true}
use Rattle.std.specs.List.{AllByRecursion}
use Rattle.std.proofs.Math.Nat.{suc-mul}
use Rattle.std.proofs.lemmas.Bool.{leb-true}
use Rattle.std.proofs.lemmas.List.{length-append}
use Rattle.event_codec.specs.Numbers as number
use Rattle.event_codec.specs.Spell as spell
use Rattle.event_codec.specs.Spell.{spelling, u16, u64}
use Rattle.event_codec.specs.Typed.{TypedFilter, TypedKind}
use Rattle.lcm_events.specs.declared.events.Event.{Event}
use Rattle.lcm_events.specs.declared.events.EventKind.TheVariants.{Subscribed}
use Rattle.lcm_events.specs.declared.filters.Filter.{Filter}
use Rattle.lcm_events.specs.declared.states.Role.{Role}
use Rattle.lcm_laws.proofs.Lists.{and_left, and_right}
use Rattle.lcm_model.specs.Allowed.{IsAllowedWithin}
use Rattle.lcm_model.specs.Notices.{is_small_filter}
use Rattle.vnfm_base.specs.Text.{IsName}

length-u16 : (n : ℕ) → length (spell.u16 n) ≡ 2
unfolding u16
length-u16 n = refl

length-u64 : (n : ℕ) → length (spell.u64 n) ≡ 8
unfolding u64
length-u64 n = refl

-- a list whose entries have so many bytes at most
most_listed : {A : Type 0} → (spells : A → List ℕ) (Fits : A → Type 0) (m : ℕ) → ((x : A) → Fits x → length (spells x) ≤ m)
    → (xs : List A) → AllByRecursion Fits xs → length (flat_map spells xs) ≤ length xs * m
most_listed spells Fits m most [] h = omega arith
most_listed spells Fits m most (x ∷ xs) h =
    let here = most x h.0 in
    let rest = most_listed spells Fits m most xs h.1 in
    omega (arith, length-append (spells x) (flat_map spells xs), here, rest, suc-mul (length xs) m)

-- one of 64 names at most
most_names : (names : List (List ℕ)) → AllByRecursion IsName names → length names ≤ 64 → length (spell.many spell.name names)
    ≤ 16386
most_names names are few =
    let bytes = most_listed spell.name IsName 256 (λ x is. omega (arith, is.short)) names are in
    omega (arith, length-append (spell.u16 (length names)) (flat_map spell.name names), length-u16 (length names), bytes, few)

-- one of 64 words at most, each of one byte
words_length : {A : Type 0} → (code : A → ℕ) (xs : List A) → length (flat_map (λ x. spell.u8 (code x)) xs) ≡ length xs
words_length code [] = refl
words_length code (x ∷ xs) = omega (arith, words_length code xs)

most_words : {A : Type 0} → (code : A → ℕ) (xs : List A) → length xs ≤ 64 → length (spell.many (λ x. spell.u8 (code x)) xs) ≤ 66
most_words code xs few = omega (
  arith,
  length-append (spell.u16 (length xs)) (flat_map (λ x. spell.u8 (code x)) xs),
  length-u16 (length xs),
  words_length code xs,
  few,
)

-- a small filter
most_filter : (f : Filter) → is_small_filter f ≡ true → TypedFilter f → length (spell.filter f) ≤ 49356
most_filter f small typed =
    let five = and_left _ _ small in
    let four = and_left _ _ five in
    let three = and_left _ _ four in
    let two = and_left _ _ three in
    let vnfds = most_names f.vnfds typed.0 (leb-true (length f.vnfds) 64 (and_left _ _ two)) in
    let instances = most_names f.instances typed.1 (leb-true (length f.instances) 64 (and_right _ _ two)) in
    let names = most_names f.names typed.2 (leb-true (length f.names) 64 (and_right _ _ three)) in
    let notices = most_words number.notice_kind f.notices (leb-true (length f.notices) 64 (and_right _ _ four)) in
    let operations = most_words number.operation_type f.operations (leb-true (length f.operations) 64 (and_right _ _ five)) in
    let states = most_words number.op_state f.states (leb-true (length f.states) 64 (and_right _ _ small)) in
    omega (arith, length-append {A = ℕ}, vnfds, instances, names, notices, operations, states)

-- the fields of a subscription
length-fields : (s : ℕ) (role : Role) (callback : List ℕ) (f : Filter) → length (spell.fields (Subscribed s role callback f))
    ≡ 8 + (1 + ((2 + length callback) + length (spell.filter f)))
length-fields s role callback f = omega (
  arith,
  length-append (spell.u64 s) (spell.u8 (number.role role) ++ (spell.line callback ++ spell.filter f)),
  length-append (spell.line callback) (spell.filter f),
  length-append (spell.u16 (length callback)) callback,
  length-u64 s,
  length-u16 (length callback),
)

-- the event of a subscription that may be made
pub subscribed_fits : (width m : ℕ) (H : List Event) (time s : ℕ) (role : Role) (callback : List ℕ) (f : Filter)
    → IsAllowedWithin width m H (Subscribed s role callback f) → TypedKind (Subscribed s role callback f)
    → length (spelling (record { moment = time; kind = Subscribed s role callback f })) ≤ 65536
unfolding spelling
subscribed_fits width m H time s role callback f allowed typed =
    let short : length callback ≤ 2048 = typed.1.short in
    let filter = most_filter f allowed.small typed.2 in
    omega (
      arith,
      length-append (spell.u64 time) (spell.fields (Subscribed s role callback f)),
      length-u64 time,
      length-fields s role callback f,
      short,
      filter,
    )
