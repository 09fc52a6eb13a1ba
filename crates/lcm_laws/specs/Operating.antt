-- The operations of an instance follow one another, and none is forgotten (SOL 003 5.4.4 to 5.4.10).
use Rattle.std.specs.Prelude.{List, Some, is_some, length, true, ℕ, ◌++◌, ◌↔◌, ◌≡◌, ◌≤◌}
use Rattle.lcm_events.specs.declared.events.Event.{Event}
use Rattle.lcm_events.specs.declared.events.Operation.{Operation}
use Rattle.lcm_model.specs.Allowed.{IsLegalWithin}
use Rattle.lcm_model.specs.Operations.{occurrences_made, ongoing, operation}

-- in a legal history an instance has at most one operation that goes on (SOL 003 5.4.4 to 5.4.10)
abbrev pub OneOperationGoesOn : Type 0
OneOperationGoesOn = (width m : ℕ) (H : List Event) → IsLegalWithin width m H → (i : ℕ) → length (ongoing H i) ≤ 1

-- an operation once asked for is found for ever, whatever comes later (own rule)
abbrev pub OperationsStayFound : Type 0
OperationsStayFound =
    (width m : ℕ) (H later : List Event) (o : ℕ) (a : Operation) → IsLegalWithin width m (later ++ H)
    → operation H o ≡ Some a → operation (later ++ H) o ≡ Some a

-- in a legal history an operation is found exactly under the numbers from 1 to how many were asked for (own rule)
abbrev pub OperationsAreFound : Type 0
OperationsAreFound =
    (width m : ℕ) (H : List Event) → IsLegalWithin width m H → (o : ℕ)
    → (is_some (operation H o) ≡ true) ↔ (1 ≤ o) × (o ≤ occurrences_made H)
