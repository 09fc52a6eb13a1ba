-- The statuses and texts of what the model refuses (SOL 003 5.4.3 to 5.4.10; RFC 9110 15.5.10, 15.5.21; RFC 4918 11.5;
-- the texts are an own rule).
use Rattle.std.specs.Prelude.{ℕ, List, Bool, codes}
use Rattle.lcm_model.specs.declared.refusals.Refusal.{Refusal}
use Rattle.lcm_model.specs.declared.refusals.Refusal.TheVariants.{UnknownFlavour, UnknownLevel, UnknownAspect, NoSteps}
use Rattle.lcm_model.specs.declared.refusals.Refusal.TheVariants.{AspectTwice, LevelAboveMaximum, Instantiated}
use Rattle.lcm_model.specs.declared.refusals.Refusal.TheVariants.{NotInstantiated, Ongoing, OutOfStep, Stopped}
use Rattle.lcm_model.specs.declared.refusals.Refusal.TheVariants.{BelowZero, AboveMaximum, UnknownVnfc, NothingToDo}
use Rattle.lcm_model.specs.declared.refusals.Refusal.TheVariants.{AboveProfile, TooManyResources}
use Rattle.lcm_api.specs.Planning.{refused}
use Rattle.lcm_api.specs.declared.record.Planned.{Planned}

-- the status: 409 for the state of an instance, 507 for what is too large, 422 for all else
abbrev pub refusal_status : Refusal → ℕ
refusal_status Instantiated = 409
refusal_status NotInstantiated = 409
refusal_status Ongoing = 409
refusal_status OutOfStep = 409
refusal_status Stopped = 409
refusal_status TooManyResources = 507
refusal_status _ = 422

-- the text
abbrev pub refusal_text : Refusal → List ℕ
refusal_text UnknownFlavour = codes "flavourId is not in the descriptor"
refusal_text UnknownLevel = codes "instantiationLevelId is not in the descriptor"
refusal_text UnknownAspect = codes "aspectId is not in the descriptor"
refusal_text NoSteps = codes "numberOfSteps is 0"
refusal_text AspectTwice = codes "scaleInfo names an aspect twice"
refusal_text LevelAboveMaximum = codes "scaleLevel is above the maximum"
refusal_text Instantiated = codes "instance is INSTANTIATED"
refusal_text NotInstantiated = codes "instance is not INSTANTIATED"
refusal_text Ongoing = codes "an operation is ongoing"
refusal_text OutOfStep = codes "instance is out of step"
refusal_text Stopped = codes "instance is STOPPED"
refusal_text BelowZero = codes "scale level below zero"
refusal_text AboveMaximum = codes "scale level above the maximum"
refusal_text UnknownVnfc = codes "vnfcInstanceId names no VNFC"
refusal_text NothingToDo = codes "nothing to do"
refusal_text AboveProfile = codes "instances above the maximum of the VDU"
refusal_text TooManyResources = codes "too many resources"

-- a request that is refused for this
abbrev pub refused_for : Refusal → Bool → Planned
refused_for why last = refused (refusal_status why) (refusal_text why) last
