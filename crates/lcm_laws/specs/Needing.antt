-- What work needs stands, and what stands is on what stands (SOL 001, Vdu.Compute, VduCp).
use Rattle.std.specs.Prelude.{List, Some, option_and_then, slice_get, true, ℕ, ◌↔◌, ◌≡◌, ◌⊎◌}
use Rattle.lcm_events.specs.declared.attempts.Tag.{Tag}
use Rattle.lcm_events.specs.declared.changes.Change.{Change}
use Rattle.lcm_events.specs.declared.changes.Def.{Def}
use Rattle.lcm_events.specs.declared.changes.DefKind.{DefKind}
use Rattle.lcm_events.specs.declared.changes.DefKind.TheVariants.{Compute, Port, Storage}
use Rattle.lcm_events.specs.declared.changes.Verb.{Verb}
use Rattle.lcm_events.specs.declared.changes.Verb.TheVariants.{Create}
use Rattle.lcm_events.specs.declared.descriptor.Vnfd.{Vnfd}
use Rattle.lcm_events.specs.declared.events.Event.{Event}
use Rattle.lcm_events.specs.declared.events.EventKind.TheVariants.{Intent}
use Rattle.lcm_events.specs.declared.events.Operation.{Operation}
use Rattle.lcm_model.specs.Allowed.{IsAllowedWithin, IsLegalWithin}
use Rattle.lcm_model.specs.Holding.{stands}
use Rattle.lcm_model.specs.Lives.{descriptor}
use Rattle.lcm_model.specs.Needs.{needs}
use Rattle.lcm_model.specs.Operations.{operation, verb_done}
use Rattle.lcm_model.specs.Plans.{change}
use Rattle.lcm_model.specs.Vnfcs.{all_defs, link_def, links}
use Rattle.lcm_model.specs.Words.{IsIn}
use Rattle.lcm_laws.specs.Planning.{FitsWhatStands}

-- a definition of this kind of the same machine (own rule)
pub record IsPartBeside (d : Vnfd) (part : DefKind) (x y : Def) : Type 0 where
  pub kind : y.kind ≡ part
  pub among : IsIn y (all_defs d x.vdu x.serial)

-- the definition of the link of a port (SOL 001, VduCp)
abbrev pub IsLinkOf : Vnfd → Def → Def → Type 0
IsLinkOf d x y = (n : ℕ) × (option_and_then (λ p. p.link) (slice_get d.ports x.item) ≡ Some n) × (y ≡ link_def n)

-- a compute is made on each storage of its machine, a port on the compute of its machine and on its link, and nothing
-- else on anything (SOL 001, Vdu.Compute, VduCp)
abbrev pub IsMadeOn : Vnfd → Def → Def → Type 0
IsMadeOn d x y = ((x.kind ≡ Compute) × IsPartBeside d Storage x y)
    ⊎ ((x.kind ≡ Port) × (IsPartBeside d Compute x y ⊎ IsLinkOf d x y))

-- work on a definition needs it to stand, or, where it makes it, what it is made on (own rule)
abbrev pub IsNeeded : Vnfd → Verb → Def → Def → Type 0
IsNeeded d Create x y = IsMadeOn d x y
IsNeeded d verb x y = x ≡ y

-- what work needs is exactly that (own rule)
abbrev pub NeedsAreExact : Type 0
NeedsAreExact = (d : Vnfd) (verb : Verb) (x y : Def) → IsIn y (needs d verb x) ↔ IsNeeded d verb x y

-- when an attempt may begin, what its work is done on stands, whether it makes its change or undoes it (own rule)
abbrev pub WorkFindsWhatItNeeds : Type 0
WorkFindsWhatItNeeds =
    (width m : ℕ) (H : List Event) (t : Tag) → IsLegalWithin width m H → IsAllowedWithin width m H (Intent t)
    → (a : Operation) (k : Change) (d : Vnfd) → operation H t.occ ≡ Some a → slice_get a.changes t.change ≡ Some k
    → descriptor H a.instance ≡ Some d
    → (y : Def) → IsIn y (needs d (verb_done t.way k.verb) k.def) → stands H a.instance y ≡ true

-- in a legal history what a definition that stands was made on stands too: a compute's storages, a port's compute and
-- link (SOL 001, Vdu.Compute, VduCp)
abbrev pub WhatStandsIsOnWhatStands : Type 0
WhatStandsIsOnWhatStands =
    (width m : ℕ) (H : List Event) → IsLegalWithin width m H → (i : ℕ) (d : Vnfd) → descriptor H i ≡ Some d
    → (x : Def) → stands H i x ≡ true → (y : Def) → IsIn y (needs d Create x) → stands H i y ≡ true

-- in a legal history all links of an instance stand where a compute of it stands (own rule)
abbrev pub ComputesStandBesideLinks : Type 0
ComputesStandBesideLinks =
    (width m : ℕ) (H : List Event) → IsLegalWithin width m H → (i : ℕ) (d : Vnfd) → descriptor H i ≡ Some d
    → (x : Def) → x.kind ≡ Compute → stands H i x ≡ true → (y : Def) → IsIn y (links d) → stands H i y ≡ true

-- when an attempt may begin, what its work makes doesn't stand, and what it is otherwise about stands (own rule)
abbrev pub WorkFitsWhatStands : Type 0
WorkFitsWhatStands =
    (width m : ℕ) (H : List Event) (t : Tag) → IsLegalWithin width m H → IsAllowedWithin width m H (Intent t)
    → (a : Operation) (k : Change) → operation H t.occ ≡ Some a → slice_get a.changes t.change ≡ Some k
    → FitsWhatStands H a.instance (change (verb_done t.way k.verb) k.def)
