-- The events that acts record fit a record of the journal, whatever was answered.
use Rattle.std.proofs.Common.{◌≡◌, ◌≤◌, ◌+◌, ◌*◌, ◌++◌, ◌==◌, ℕ, Bool, true, false, cond, List, [], ◌∷◌, Option, None, Some, refl, subst}
use Rattle.std.proofs.Common.{length, find, flat_map, inl, inr, arith, Result, Err}
use Rattle.std.proofs.Math.Nat.{suc-mul}
use Rattle.std.proofs.lemmas.List.{length-append}
use Rattle.std.specs.List.{AllByRecursion}
use Rattle.std.specs.Option.{option_map_or}
use Rattle.vnfm_base.specs.Text.{IsLine, IsName}
use Rattle.lcm_events.specs.declared.events.Event.{Event}
use Rattle.lcm_events.specs.declared.events.EventKind.{EventKind}
use Rattle.lcm_events.specs.declared.events.EventKind.TheVariants.{CallFailed, Denied, Granted, GrantTried, Intent, Moved, Settled}
use Rattle.lcm_events.specs.declared.events.GrantTry.{GrantTry}
use Rattle.lcm_events.specs.declared.events.GrantTry.TheVariants.{Later, NotCovering, Trouble}
use Rattle.lcm_events.specs.declared.places.Place.{Place}
use Rattle.event_codec.specs.Spell as spell
use Rattle.event_codec.specs.Spell.{spelling, u16, u32, u64}
use Rattle.event_codec.specs.Numbers as number
use Rattle.event_codec.specs.Valid.{IsEvent, IsGrantTry, IsOutcome, IsPlace}
use Rattle.lcm_events.specs.declared.attempts.Outcome.{Outcome}
use Rattle.lcm_events.specs.declared.attempts.Outcome.TheVariants as outcomes
use Rattle.lcm_events.specs.declared.attempts.Tag.{Tag}
use Rattle.lcm_events.specs.declared.events.Operation.{Operation}
use Rattle.lcm_events.specs.declared.states.OpState.{OpState}
use Rattle.lcm_laws.specs.Planning.{PlansAreSmall}
use Rattle.lcm_model.specs.Allowed.{IsAllowed, IsLegal}
use Rattle.lcm_model.specs.Operations.{changes, operation, operations}
use Rattle.lcm_model.specs.Words.{IsIn}
use Rattle.lcm_model.specs.Work.{window}
use Rattle.executor.specs.Room.{TellsRoom}
use Rattle.executor.specs.declared.manager.WorkFault.{WorkFault}
use Rattle.executor.specs.declared.manager.WorkFault.TheVariants as fault
use Rattle.journal_records.specs.declared.limits.TheConstants.{MAX_FILE, MAX_RECORD}
use Rattle.occ_work.specs.Attempting.{is_of_attempt}
use Rattle.occ_work.specs.Exchanges.{is_of_act}

length-u16 : (n : ℕ) → length (spell.u16 n) ≡ 2
unfolding u16
length-u16 n = refl

length-u32 : (n : ℕ) → length (spell.u32 n) ≡ 4
unfolding u32
length-u32 n = refl

length-u64 : (n : ℕ) → length (spell.u64 n) ≡ 8
unfolding u64
length-u64 n = refl

most_name : (text : List ℕ) → IsName text → length (spell.name text) ≤ 256
most_name text h = let k : length text ≤ 255 = h.short in omega arith

most_line : (text : List ℕ) → IsLine text → length (spell.line text) ≤ 2050
most_line text h = let k : length text ≤ 2048 = h.short in omega
    (arith, length-append (spell.u16 (length text)) text, length-u16 (length text))

most_place : (p : Place) → IsPlace p → length (spell.place p) ≤ 512
most_place p h = let a = most_name p.vim h.0 in let b = most_name p.zone h.1 in
    omega (arith, length-append (spell.name p.vim) (spell.name p.zone), a, b)

most_places : (ps : List Place) → AllByRecursion IsPlace ps → length (flat_map spell.place ps) ≤ length ps * 512
most_places [] h = omega arith
most_places (p ∷ ps) h =
    let here = most_place p h.0 in
    let rest = most_places ps h.1 in
    omega (arith, length-append (spell.place p) (flat_map spell.place ps), here, rest, suc-mul (length ps) 512)

length-spots : (xs : List ℕ) → length (flat_map spell.u8 xs) ≡ length xs
length-spots [] = refl
length-spots (x ∷ xs) = let rest = length-spots xs in omega (arith, length-append (spell.u8 x) (flat_map spell.u8 xs), rest)

length-few : (ps : List Place) → length (spell.few spell.place ps) ≡ 1 + length (flat_map spell.place ps)
length-few ps = omega arith

length-many : (xs : List ℕ) → length (spell.many spell.u8 xs) ≡ 2 + length xs
length-many xs = omega (arith, length-append (spell.u16 (length xs)) (flat_map spell.u8 xs), length-u16 (length xs), length-spots xs)

-- a grant of at most 32 places for at most 5,000 changes
pub granted_fits : (time o : ℕ) (grant : List ℕ) (places : List Place) (spots : List ℕ) → IsName grant → AllByRecursion IsPlace places
    → length places ≤ 32 → length spots ≤ 5000
    → length (spelling (record { moment = time; kind = Granted o grant places spots })) ≤ MAX_RECORD
unfolding spelling
granted_fits time o grant places spots name all few small =
    let a = most_name grant name in
    let b = most_places places all in
    let lists : List ℕ = spell.few spell.place places ++ spell.many spell.u8 spots in
    let given : List ℕ = spell.name grant ++ lists in
    omega (
      arith,
      length-append (spell.u64 time) (spell.u64 o ++ given),
      length-append (spell.u64 o) given,
      length-append (spell.name grant) lists,
      length-append (spell.few spell.place places) (spell.many spell.u8 spots),
      length-few places,
      length-many spots,
      length-u64 time,
      length-u64 o,
      a,
      b,
      few,
      small,
    )

-- a try that told a location
pub tried_fits : (time o : ℕ) (at : List ℕ) → IsLine at → length (spelling (record { moment = time; kind = GrantTried o (Later at) }))
    ≤ MAX_RECORD
unfolding spelling
tried_fits time o at line =
    let a = most_line at line in
    omega (
      arith,
      length-append (spell.u64 time) (spell.u64 o ++ (0 ∷ spell.line at)),
      length-append (spell.u64 o) (0 ∷ spell.line at),
      length-u64 time,
      length-u64 o,
      a,
    )

found_by : {A : Type 0} → (p : A → Bool) (y x : A) (xs : List A) (b : Bool) → (find p xs ≡ Some x → IsIn x xs) → p y ≡ b
    → find p (y ∷ xs) ≡ Some x → IsIn x (y ∷ xs)
found_by {A} p y x xs true rest passes e =
    let is : Some y ≡ Some x = subst (λ (b : Bool). cond b (Some y) (find p xs) ≡ Some x) passes e in inl cc
found_by {A} p y x xs false rest fails e = inr (rest (subst (λ (b : Bool). cond b (Some y) (find p xs) ≡ Some x) fails e))

found_in : {A : Type 0} → (p : A → Bool) (xs : List A) (x : A) → find p xs ≡ Some x → IsIn x xs
found_in p [] x e = cc
found_in p (y ∷ xs) x e = found_by p y x xs (p y) (λ f. found_in p xs x f) refl e

-- an operation of a legal history changes at most 5,000 resources
few_changes : PlansAreSmall → (m : ℕ) (H : List Event) (o : ℕ) (found : Option Operation) → IsLegal m H → operation H o ≡ found
    → length (option_map_or (λ a. a.changes) found []) ≤ 5000
few_changes small m H o None legal is = omega arith
few_changes small m H o (Some a) legal is = small window m H legal a (found_in (λ a. a.occ == o) (operations H) a is)

tries_fit : (time o : ℕ) (answer : GrantTry) → IsGrantTry answer
    → length (spelling (record { moment = time; kind = GrantTried o answer })) ≤ MAX_RECORD
unfolding spelling
tries_fit time o (Later at) line = tried_fits time o at line
tries_fit time o Trouble line = omega (
  arith,
  length-append (spell.u64 time) (spell.u64 o ++ (1 ∷ [])),
  length-append (spell.u64 o) (1 ∷ []),
  length-u64 time,
  length-u64 o,
)
tries_fit time o NotCovering line = omega (
  arith,
  length-append (spell.u64 time) (spell.u64 o ++ (2 ∷ [])),
  length-append (spell.u64 o) (2 ∷ []),
  length-u64 time,
  length-u64 o,
)

denied_fits : (time o : ℕ) → length (spelling (record { moment = time; kind = Denied o })) ≤ MAX_RECORD
unfolding spelling
denied_fits time o = omega (arith, length-append (spell.u64 time) (spell.u64 o), length-u64 time, length-u64 o)

moved_fits : (time o : ℕ) (to : OpState) → length (spelling (record { moment = time; kind = Moved o to })) ≤ MAX_RECORD
unfolding spelling
moved_fits time o to =
    let last : List ℕ = spell.u8 (number.op_state to) in
    omega (arith, length-append (spell.u64 time) (spell.u64 o ++ last), length-append (spell.u64 o) last, length-u64 time, length-u64 o)

-- what an act records fits a record
pub acts_fit : PlansAreSmall → (m : ℕ) (H : List Event) (time : ℕ) (kind : EventKind) → IsLegal m H → IsAllowed m H kind
    → IsEvent (record { moment = time; kind = kind }) → is_of_act kind ≡ true
    → length (spelling (record { moment = time; kind = kind })) ≤ MAX_RECORD
acts_fit small m H time (GrantTried o answer) legal allowed event is = tries_fit time o answer event.1.1
acts_fit small m H time (Granted o grant places spots) legal allowed event is =
    let few = few_changes small m H o (operation H o) legal refl in
    let one : length spots ≡ length (changes H o) = allowed.placed.one_a_change in
    granted_fits time o grant places spots event.1.1 event.1.2.1 allowed.placed.few (omega (arith, few, one))
acts_fit small m H time (Denied o) legal allowed event is = denied_fits time o
acts_fit small m H time (Moved o to) legal allowed event is = moved_fits time o to
acts_fit small m H time _ legal allowed event is = absurd (cc is)

most_tag : (t : Tag) → length (spell.tag t) ≡ 15
most_tag t =
    let last : List ℕ = spell.u8 (number.way t.way) in
    omega (
      arith,
      length-append (spell.u64 t.occ) (spell.u16 t.change ++ (spell.u32 t.attempt ++ last)),
      length-append (spell.u16 t.change) (spell.u32 t.attempt ++ last),
      length-append (spell.u32 t.attempt) last,
      length-u64 t.occ,
      length-u16 t.change,
      length-u32 t.attempt,
    )

most_outcome : (how : Outcome) → IsOutcome how → length (spell.outcome how) ≤ 257
most_outcome (outcomes.Done resource) is = let a = most_name resource is in omega (arith, a)
most_outcome (outcomes.Broken code) is = omega (arith, length-u32 code)
most_outcome outcomes.Aborted is = omega arith
most_outcome outcomes.NotBegun is = omega arith

-- what is recorded of an attempt fits a record
pub attempts_fit : (time : ℕ) (kind : EventKind) → IsEvent (record { moment = time; kind = kind }) → is_of_attempt kind ≡ true
    → length (spelling (record { moment = time; kind = kind })) ≤ MAX_RECORD
unfolding spelling
attempts_fit time (Intent t) event is = omega (arith, length-append (spell.u64 time) (spell.tag t), length-u64 time, most_tag t)
attempts_fit time (CallFailed t) event is = omega (arith, length-append (spell.u64 time) (spell.tag t), length-u64 time, most_tag t)
attempts_fit time (Settled t how) event is =
    let a = most_outcome how event.1.1 in
    omega (
      arith,
      length-append (spell.u64 time) (spell.tag t ++ spell.outcome how),
      length-append (spell.tag t) (spell.outcome how),
      length-u64 time,
      most_tag t,
      a,
    )
attempts_fit time _ event is = absurd (cc is)

-- an event that fits isn't too long
pub not_too_long : (z : ℕ) (H : List Event) (e : Event) (why : WorkFault) (n : ℕ) → length (spelling e) ≤ MAX_RECORD
    → TellsRoom MAX_FILE z H e (Err why) → why ≡ fault.TooLong n → ⊥
not_too_long z H e why n fits tells is =
    let told : TellsRoom MAX_FILE z H e (Err (fault.TooLong n)) = subst (λ (f : WorkFault). TellsRoom MAX_FILE z H e (Err f)) is tells in
    let long = told.long in
    omega (arith, long, fits)

-- the same of an answer
pub never_long : (z : ℕ) (H : List Event) (e : Event) (result : Result (Unit {0}) WorkFault) (n : ℕ) → length (spelling e) ≤ MAX_RECORD
    → TellsRoom MAX_FILE z H e result
    → result ≡ Err (fault.TooLong n) → ⊥
never_long z H e result n fits tells is = not_too_long z H e (fault.TooLong n) n fits
    (subst (λ (r : Result (Unit {0}) WorkFault). TellsRoom MAX_FILE z H e r) is tells) refl

-- the same of the fault of an answer
pub fault_of : {T : Type 0} (x y : WorkFault) → ◌≡◌ {A = Result T WorkFault} (Err x) (Err y) → x ≡ y
fault_of x y is = cc
