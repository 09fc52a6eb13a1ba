-- Members that are needed, and members that may be absent (own rule).
use Rattle.std.specs.Prelude.{ℕ, List, Option, Some, None, is_some, if◌then◌else◌}
use Rattle.serde_json.specs.Data.{Data}
use Rattle.vnfd_document.specs.declared.fault.VnfdFault.{VnfdFault}
use Rattle.vnfd_document.specs.declared.fault.VnfdFault.TheVariants.{Lacks, Wrong}

-- a member that is needed is there, in this form: else it is missing, or has another form
abbrev pub needed : {A : Type 0} → List ℕ → (Data → Option A) → Option Data → Option VnfdFault
needed name form None = Some (Lacks name)
needed name form (Some d) = if is_some (form d) then None else Some (Wrong name)

-- a member that may be absent has this form where it is there
abbrev pub optional : {A : Type 0} → List ℕ → (Data → Option A) → Option Data → Option VnfdFault
optional name form None = None
optional name form (Some d) = if is_some (form d) then None else Some (Wrong name)
