-- What waiting for a connection in vain does.
use Rattle.std.specs.Prelude.{◌≡◌, ◌⊎◌}
use Rattle.lcm_mouth.specs.Mouth.{MouthState}
use Rattle.site_traits.specs.Door.{DoorState, ComesNot, next_failed}
use Rattle.site_traits.specs.declared.door.NextAnswer.{NextAnswer}
use Rattle.site_traits.specs.declared.door.NextAnswer.TheVariants.{Nobody, Ended}

-- the door was asked for a connection, and none came
pub record IsNobody (a b : DoorState) : Type 0 where
  pub answer : NextAnswer
  pub none : (answer ≡ Nobody) ⊎ (answer ≡ Ended)
  pub told : ComesNot answer a b

-- waiting for a connection failed, and was counted
pub record IsUnreached (tells : Type 0) (a b : MouthState) : Type 0 where
  pub same : tells → b.wire.intake.door ≡ a.wire.intake.door
  pub counts : b.wire.intake.counts ≡ next_failed a.wire.intake.counts
