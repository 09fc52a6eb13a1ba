-- Checks, of which the first that fails is answered (own rule).
use Rattle.std.specs.Prelude.{◌≡◌, List, [], ◌∷◌, Option, Some, None, Result, Ok, Err}
use Rattle.std.specs.Option.{option_or}
use Rattle.vnfd_document.specs.declared.fault.VnfdFault.{VnfdFault}
use Rattle.vnfd_document.specs.declared.fault.VnfdFault.TheVariants.{NotJson, Lacks, Wrong, Unknown, TooMany, OutOfStep}
use Rattle.vnfd_document.specs.declared.fault.VnfdFault.TheVariants.{Memory}

-- the first fault of some checks, made in this order
abbrev pub first_fault : List (Option VnfdFault) → Option VnfdFault
first_fault [] = None
first_fault (check ∷ checks) = option_or check (first_fault checks)

-- the fault of the first of these that fails the check
abbrev pub first_failing : {A : Type 0} → (A → Option VnfdFault) → List A → Option VnfdFault
first_failing check [] = None
first_failing check (x ∷ xs) = option_or (check x) (first_failing check xs)

-- the answer has this fault and no other, unless there was no memory for it
abbrev pub IsFault : VnfdFault → Option VnfdFault → Type 0
IsFault NotJson expected = expected ≡ Some NotJson
IsFault (Lacks name) expected = expected ≡ Some (Lacks name)
IsFault (Wrong name) expected = expected ≡ Some (Wrong name)
IsFault (Unknown name) expected = expected ≡ Some (Unknown name)
IsFault (TooMany name) expected = expected ≡ Some (TooMany name)
IsFault (OutOfStep level vdu) expected = expected ≡ Some (OutOfStep level vdu)
IsFault Memory expected = Unit {0}

-- a check passes exactly where it has no fault, and refuses with its fault, unless there was no memory for it
abbrev pub Refuses : {A : Type 0} → Result A VnfdFault → Option VnfdFault → Type 0
Refuses (Ok x) expected = expected ≡ None
Refuses (Err fault) expected = IsFault fault expected

-- the fault of a reading, where it has one
abbrev pub fault_of : {A : Type 0} → Result A VnfdFault → Option VnfdFault
fault_of (Ok x) = None
fault_of (Err fault) = Some fault

-- the reading is what is expected, unless there was no memory for it
abbrev pub Gives : {A : Type 0} → Result A VnfdFault → Result A VnfdFault → Type 0
Gives (Ok x) expected = expected ≡ Ok x
Gives (Err fault) expected = IsFault fault (fault_of expected)
