-- When steps lead out of an aspect's levels (SOL 003 5.5.2.5, ScaleVnfRequest).
use Rattle.std.specs.Prelude.{ℕ, ◌≡◌, ◌<◌, ◌+◌, List, None, IsSomeAnd}
use Rattle.lcm_events.specs.declared.asks.Ask.{Ask}
use Rattle.lcm_events.specs.declared.asks.Ask.TheVariants.{Scale}
use Rattle.lcm_events.specs.declared.descriptor.Vnfd.{Vnfd}
use Rattle.lcm_model.specs.Levels.{aspect_at}
use Rattle.lcm_events.specs.declared.asks.ScaleWay.{ScaleWay}
use Rattle.lcm_events.specs.declared.asks.ScaleWay.TheVariants.{Out, In}
use Rattle.lcm_events.specs.declared.descriptor.Aspect.{Aspect}

-- steps in lead below level 0 (SOL 003 5.5.2.5)
abbrev pub IsBelow : ScaleWay → ℕ → Aspect × ℕ → Type 0
IsBelow way steps a = (way ≡ In) × (a.1 < steps)

-- steps out lead above this maximum, which is the aspect's (SOL 003 5.5.2.5)
abbrev pub IsAbove : ScaleWay → ℕ → ℕ → Aspect × ℕ → Type 0
IsAbove way steps maximum a = (way ≡ Out) × (maximum ≡ a.0.maximum) × (a.0.maximum < a.1 + steps)

-- SCALE names no aspect of the descriptor; no other ask names one that steps lead along (SOL 003 5.5.2.5)
abbrev pub LacksAspect : Vnfd → List ℕ → Ask → Type 0
LacksAspect d levels (Scale way aspect steps) = aspect_at d levels aspect ≡ None
LacksAspect d levels other = ⊥

-- SCALE leads below level 0
abbrev pub LeadsBelow : Vnfd → List ℕ → Ask → Type 0
LeadsBelow d levels (Scale way aspect steps) = IsSomeAnd (aspect_at d levels aspect) (IsBelow way steps)
LeadsBelow d levels other = ⊥

-- SCALE leads above this maximum
abbrev pub LeadsAbove : Vnfd → List ℕ → ℕ → Ask → Type 0
LeadsAbove d levels maximum (Scale way aspect steps) = IsSomeAnd (aspect_at d levels aspect) (IsAbove way steps maximum)
LeadsAbove d levels maximum other = ⊥
