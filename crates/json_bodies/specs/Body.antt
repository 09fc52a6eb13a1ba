-- What a request body says. A body is a JSON object; a member that is null is as if absent, and members that aren't
-- asked for are passed over (SOL 003 5.5.2; RFC 8259).
use Rattle.std.specs.Prelude.{◌≡◌, ℕ, List, [], ◌∷◌, length, nat_le, codes, if◌then◌else◌, Option, Some, None}
use Rattle.std.specs.Prelude.{option_and_then, Result, Ok, Err, is_some}
use Rattle.std.specs.Str.{is_utf8}
use Rattle.lcm_events.specs.declared.states.CancelMode.{CancelMode}
use Rattle.lcm_events.specs.declared.states.CancelMode.TheVariants.{Forceful, Graceful}
use Rattle.serde_json.specs.Data.{Data}
use Rattle.serde_json.specs.Find.{get, as_str, as_object, as_null}
use Rattle.serde_json.specs.Read.{read}
use Rattle.vnfm_base.specs.Text.{is_short_text}
use Rattle.json_bodies.specs.declared.body.BodyFault.{BodyFault}
use Rattle.json_bodies.specs.declared.body.BodyFault.TheVariants.{Malformed, Lacks, Wrong, Memory}
use Rattle.json_bodies.specs.declared.body.CreateBody.{CreateBody}
use Rattle.json_bodies.specs.declared.tasks.InstantiateBody.{InstantiateBody}
use Rattle.json_bodies.specs.Words.{cancel_word, of_word}

-- the value is there, where an object is asked for (RFC 8259 4)
abbrev pub only_object : Data → Option Data
only_object d = if is_some (as_object d) then Some d else None

-- the JSON object that the bytes are, where they are one (RFC 8259)
abbrev pub document : List ℕ → Option Data
document bytes = if is_utf8 bytes then option_and_then only_object (read bytes) else None

-- the value, unless it is null (own rule)
abbrev pub not_null : Data → Option Data
not_null d = if is_some (as_null d) then None else Some d

-- the member of this name, absent where it is null (own rule)
abbrev pub member_of : List ℕ → Data → Option Data
member_of name d = option_and_then not_null (get name d)

-- the text, where it is a name (own rule)
abbrev pub name_text : List ℕ → Option (List ℕ)
name_text text = if is_short_text 255 text then Some text else None

-- the text, where it is a name that isn't empty (own rule)
abbrev pub some_name_text : List ℕ → Option (List ℕ)
some_name_text text = if nat_le 1 (length text) then name_text text else None

-- the text, where it is a line (own rule)
abbrev pub line_text : List ℕ → Option (List ℕ)
line_text text = if is_short_text 2048 text then Some text else None

-- the way to cancel that the text is the word of (SOL 003 5.5.4, CancelModeType)
abbrev pub cancel_mode_text : List ℕ → Option CancelMode
cancel_mode_text text = of_word cancel_word (Graceful ∷ Forceful ∷ []) text

-- the forms of a value: what it says, where it has the form (own rule)
abbrev pub name_in : Data → Option (List ℕ)
name_in d = option_and_then name_text (as_str d)

abbrev pub some_name_in : Data → Option (List ℕ)
some_name_in d = option_and_then some_name_text (as_str d)

abbrev pub line_in : Data → Option (List ℕ)
line_in d = option_and_then line_text (as_str d)

abbrev pub cancel_mode_in : Data → Option CancelMode
cancel_mode_in d = option_and_then cancel_mode_text (as_str d)

-- what a value says by a form, or that the member of this name is wrong, where it has another (own rule)
abbrev pub needed_value : {A : Type 0} → List ℕ → Option A → Result A BodyFault
needed_value name None = Err (Wrong name)
needed_value name (Some a) = Ok a

abbrev pub by_form : {A : Type 0} → (Data → Option A) → List ℕ → Data → Result A BodyFault
by_form form name d = needed_value name (form d)

-- a member that is needed: it is missing, or what its value says by its form (own rule)
abbrev pub needed_member : {A : Type 0} → (Data → Option A) → List ℕ → Option Data → Result A BodyFault
needed_member form name None = Err (Lacks name)
needed_member form name (Some d) = needed_value name (form d)

abbrev pub needed : {A : Type 0} → (Data → Option A) → List ℕ → Data → Result A BodyFault
needed form name d = needed_member form name (member_of name d)

-- the first of two readings that fails, or what both give
abbrev pub and_then : {A B : Type 0} → Result A BodyFault → (A → Result B BodyFault) → Result B BodyFault
and_then (Ok a) next = next a
and_then (Err fault) next = Err fault

-- a member that may be absent, by what is read of its value (own rule)
abbrev pub optional_read : {A : Type 0} → (List ℕ → Data → Result A BodyFault) → List ℕ → Option Data
    → Result (Option A) BodyFault
optional_read inside name None = Ok None
optional_read inside name (Some d) = and_then (inside name d) (λ a. Ok (Some a))

-- a member that may be absent: what its value says by its form (own rule)
abbrev pub optional : {A : Type 0} → (Data → Option A) → List ℕ → Data → Result (Option A) BodyFault
optional form name d = optional_read (by_form form) name (member_of name d)

-- a create request's body: the first member that is missing or wrong, in this order, or what it says (SOL 003 5.5.2.3
-- CreateVnfRequest)
abbrev pub create_in : Data → Result CreateBody BodyFault
create_in d =
    and_then (needed some_name_in (codes "vnfdId") d) (λ vnfd.
    and_then (optional name_in (codes "vnfInstanceName") d) (λ name.
    and_then (optional line_in (codes "vnfInstanceDescription") d) (λ text.
    Ok (record { vnfd = vnfd; name = name; text = text }))))

-- what is read of the JSON object that the bytes are, where they are one (own rule)
abbrev pub object_read : {A : Type 0} → (Data → Result A BodyFault) → Option Data → Result A BodyFault
object_read body None = Err Malformed
object_read body (Some d) = body d

abbrev pub create_read : Option Data → Result CreateBody BodyFault
create_read d = object_read create_in d

abbrev pub create_of : List ℕ → Result CreateBody BodyFault
create_of bytes = create_read (document bytes)

-- an instantiate request's body: the first member that is missing or wrong, in this order, or what it says (SOL 003
-- 5.5.2.4 InstantiateVnfRequest)
abbrev pub instantiate_in : Data → Result InstantiateBody BodyFault
instantiate_in d =
    and_then (needed some_name_in (codes "flavourId") d) (λ flavour.
    and_then (optional name_in (codes "instantiationLevelId") d) (λ level.
    Ok (record { flavour = flavour; level = level })))

abbrev pub instantiate_of : List ℕ → Result InstantiateBody BodyFault
instantiate_of bytes = object_read instantiate_in (document bytes)

-- a cancel request's body: its one member, where it isn't missing or wrong (SOL 003 5.5.2.14 CancelMode)
abbrev pub cancel_in : Data → Result CancelMode BodyFault
cancel_in d = needed cancel_mode_in (codes "cancelMode") d

abbrev pub cancel_of : List ℕ → Result CancelMode BodyFault
cancel_of bytes = object_read cancel_in (document bytes)

-- the answer is what is expected, unless there was no memory for it
abbrev pub Gives : {A : Type 0} → Result A BodyFault → Result A BodyFault → Type 0
Gives (Ok a) expected = expected ≡ Ok a
Gives (Err Malformed) expected = expected ≡ Err Malformed
Gives (Err (Lacks name)) expected = expected ≡ Err (Lacks name)
Gives (Err (Wrong name)) expected = expected ≡ Err (Wrong name)
Gives (Err Memory) expected = Unit {0}

-- the fault is one of reading the bytes as a whole
abbrev pub IsMalformedOrMemory : BodyFault → Type 0
IsMalformedOrMemory Malformed = Unit {0}
IsMalformedOrMemory (Lacks name) = ⊥
IsMalformedOrMemory (Wrong name) = ⊥
IsMalformedOrMemory Memory = Unit {0}
