-- The text of each reason why a descriptor is refused (own rule).
use Rattle.std.specs.Prelude.{ℕ, List, ◌++◌, codes}
use Rattle.vnfd_document.specs.declared.fault.VnfdFault.{VnfdFault}
use Rattle.vnfd_document.specs.declared.fault.VnfdFault.TheVariants.{NotJson, Lacks, Wrong, Unknown, TooMany, OutOfStep}
use Rattle.vnfd_document.specs.declared.fault.VnfdFault.TheVariants.{Memory}

-- the text of a refusal (own rule)
abbrev pub fault_text : VnfdFault → List ℕ
fault_text NotJson = codes "not JSON"
fault_text (Lacks name) = codes "missing " ++ name
fault_text (Wrong name) = codes "bad " ++ name
fault_text (Unknown name) = codes "unknown " ++ name
fault_text (TooMany name) = codes "too many " ++ name
fault_text (OutOfStep level vdu) = codes "out of step " ++ (level ++ (codes " " ++ vdu))
fault_text Memory = codes "no memory"
