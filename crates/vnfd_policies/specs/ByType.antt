-- What policies that were gathered by type are (SOL 001, policy types).
use Rattle.std.specs.Prelude.{◌≡◌, map}
use Rattle.vnfd_document.specs.Places.{of_type}
use Rattle.vnfd_document.specs.Seen.{seen}
use Rattle.vnfd_policies.specs.Policies.{aspect_deltas, initial_delta, instantiation_levels, scaling_aspects}
use Rattle.vnfd_policies.specs.Policies.{vdu_levels}
use Rattle.vnfd_policies.specs.declared.by_type.Policies.{Policies}

-- those with aspects are those of all that are of this type
abbrev pub HaveAspects : Policies → Type 0
HaveAspects p = map seen p.with_aspects.items ≡ of_type scaling_aspects (map seen p.all.items)

-- and so those with deltas
abbrev pub HaveDeltas : Policies → Type 0
HaveDeltas p = map seen p.with_deltas.items ≡ of_type aspect_deltas (map seen p.all.items)

-- those with initial deltas
abbrev pub HaveInitials : Policies → Type 0
HaveInitials p = map seen p.with_initials.items ≡ of_type initial_delta (map seen p.all.items)

-- those with levels
abbrev pub HaveLevels : Policies → Type 0
HaveLevels p = map seen p.with_levels.items ≡ of_type instantiation_levels (map seen p.all.items)

-- and those with numbers of instances for levels
abbrev pub HaveNumbers : Policies → Type 0
HaveNumbers p = map seen p.with_numbers.items ≡ of_type vdu_levels (map seen p.all.items)
