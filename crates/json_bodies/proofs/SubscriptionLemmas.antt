-- What is judged before memory is taken decides what is read then.
use Rattle.std.proofs.Common.{◌≡◌, Err, None, Ok, Option, Result, Some, ap, refl}
use Rattle.std.specs.Prelude.{IsErrAnd, IsOk, codes}
use Rattle.serde_json.specs.Data.{Data}
use Rattle.json_bodies.specs.Body.{Gives, and_then, line_in, member_of, needed, optional_read}
use Rattle.json_bodies.specs.Subscribing.{filter_in, inside_object, subscription_in}
use Rattle.json_bodies.specs.Tables.{fault_in}
use Rattle.json_bodies.specs.declared.body.BodyFault.{BodyFault}
use Rattle.json_bodies.specs.declared.body.BodyFault.TheVariants.{Lacks, Malformed, Memory, Wrong}
use Rattle.json_bodies.proofs.ByteLemmas.{IsOfBytes}

-- behind a reading without a fault another one decides
pub passed : {A B : Type 0} (first : Result A BodyFault) (next : A → Result B BodyFault) (o : Option BodyFault) → None ≡ fault_in first
    → ((a : A) → o ≡ fault_in (next a)) → o ≡ fault_in (and_then first next)
passed (Ok a) next o none behind = behind a
passed (Err fault) next o none behind = cc

-- a reading with a fault decides
pub failed : {A B : Type 0} (first : Result A BodyFault) (next : A → Result B BodyFault) (fault : BodyFault) → Some fault ≡ fault_in first
    → Some fault ≡ fault_in (and_then first next)
failed (Ok a) next fault is = cc
failed (Err other) next fault is = is

-- a fault that was found is what is told
pub fault_gives : {A : Type 0} (expected : Result A BodyFault) (fault : BodyFault) → Some fault ≡ fault_in expected
    → Gives (Err fault) expected
fault_gives (Ok a) fault is = cc
fault_gives (Err other) Malformed is = let same : other ≡ Malformed = cc in ap (λ f. Err f) same
fault_gives (Err other) (Lacks name) is = let same : other ≡ Lacks name = cc in ap (λ f. Err f) same
fault_gives (Err other) (Wrong name) is = let same : other ≡ Wrong name = cc in ap (λ f. Err f) same
fault_gives (Err other) Memory is = tt

-- where no fault was found, something is said
pub no_fault : {A : Type 0} (expected : Result A BodyFault) → None ≡ fault_in expected → IsOk expected
no_fault (Ok a) is = refl
no_fault (Err fault) is = cc

-- no fault of bytes is want of memory
pub not_memory : {A : Type 0} (expected : Result A BodyFault) → Some Memory ≡ fault_in expected → IsOfBytes expected → ⊥
not_memory (Ok a) is of_bytes = cc
not_memory (Err Malformed) is of_bytes = cc
not_memory (Err (Lacks name)) is of_bytes = cc
not_memory (Err (Wrong name)) is of_bytes = cc
not_memory (Err Memory) is of_bytes = of_bytes

-- what is told of one reading in a row is told of both
pub gives_then : {A B : Type 0} (fault : BodyFault) (first : Result A BodyFault) (next : A → Result B BodyFault) → Gives (Err fault) first
    → Gives (Err fault) (and_then first next)
gives_then Malformed first next is = ap (λ r. and_then r next) is
gives_then (Lacks name) first next is = ap (λ r. and_then r next) is
gives_then (Wrong name) first next is = ap (λ r. and_then r next) is
gives_then Memory first next is = tt

-- behind a reading without a fault
pub gives_behind : {A B : Type 0} (read : Result B BodyFault) (first : Result A BodyFault) (next : A → Result B BodyFault)
    → None ≡ fault_in first → ((a : A) → Gives read (next a)) → Gives read (and_then first next)
gives_behind read (Ok a) next none behind = behind a
gives_behind read (Err fault) next none behind = cc

pub ok_behind : {A B : Type 0} (first : Result A BodyFault) (next : A → Result B BodyFault) → IsOk first → ((a : A) → IsOk (next a))
    → IsOk (and_then first next)
ok_behind (Ok a) next is behind = behind a
ok_behind (Err fault) next is behind = cc

-- what is said of a filter that is there says what the member says
pub filter_there : (d filter : Data) → member_of (codes "filter") d ≡ Some filter → IsOk (inside_object filter_in (codes "filter") filter)
    → IsOk (optional_read (inside_object filter_in) (codes "filter") (member_of (codes "filter") d))
filter_there d filter is said = rw is
    (ok_behind (inside_object filter_in (codes "filter") filter) (λ asked. Ok (Some asked)) said (λ asked. refl))

-- what a call that gave up answered
pub gave_up : {A : Type 0} (result : Result A BodyFault) (fault : BodyFault) → IsErrAnd result (λ f. f ≡ fault) → result ≡ Err fault
gave_up (Ok a) fault is = absurd is
gave_up (Err other) fault is = ap (λ f. Err f) is

-- the fault that was told
pub told_memory : {A : Type 0} (fault other : BodyFault) → (◌≡◌ {A = Result A BodyFault} (Err fault) (Err other)) → Some other ≡ Some fault
told_memory fault other is = cc

-- a fault told of one thing is one told of another
pub moved_fault : {A B : Type 0} (fault other : BodyFault) → (◌≡◌ {A = Result A BodyFault} (Err fault) (Err other))
    → (◌≡◌ {A = Result B BodyFault} (Err fault) (Err other))
moved_fault {B = B} fault other is = let same : fault ≡ other = cc in ap (λ f. Err f) same

-- a subscription is refused for what is wrong with its filter, where its callback is good
pub filter_refused : (d filter : Data) (fault : BodyFault) → None ≡ fault_in (needed line_in (codes "callbackUri") d)
    → member_of (codes "filter") d ≡ Some filter → Gives (Err fault) (inside_object filter_in (codes "filter") filter)
    → Gives (Err fault) (subscription_in d)
filter_refused d filter fault good is gives =
    gives_behind (Err fault) (needed line_in (codes "callbackUri") d) _ good (λ callback.
    rw is (gives_then fault (and_then (inside_object filter_in (codes "filter") filter) (λ asked. Ok (Some asked))) _
    (gives_then fault (inside_object filter_in (codes "filter") filter) _ gives)))

-- a subscription is taken where its callback and its filter are good
pub subscription_taken : (d : Data) → IsOk (needed line_in (codes "callbackUri") d)
    → IsOk (optional_read (inside_object filter_in) (codes "filter") (member_of (codes "filter") d)) → IsOk (subscription_in d)
subscription_taken d callback filter =
    ok_behind (needed line_in (codes "callbackUri") d) _ callback (λ line.
    ok_behind (optional_read (inside_object filter_in) (codes "filter") (member_of (codes "filter") d)) _ filter (λ asked. refl))

-- no filter is no fault
pub no_filter_there : (d : Data) → member_of (codes "filter") d ≡ None
    → IsOk (optional_read (inside_object filter_in) (codes "filter") (member_of (codes "filter") d))
no_filter_there d is = rw is refl

pub said_is_ok : {A : Type 0} (read : Result A BodyFault) (a : A) → read ≡ Ok a → IsOk read
said_is_ok read a is = rw is refl
