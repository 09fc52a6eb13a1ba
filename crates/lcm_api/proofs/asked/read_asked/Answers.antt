-- What was read of a request's body is what the body of its task says.
use Rattle.std.proofs.Common.{refl}
use Rattle.lcm_api.specs.declared.asked.AskedBody.TheVariants.{Heal, Instantiate, Operate, Scale, ScaleToLevel, Terminate}
use Rattle.lcm_api.proofs.BodyLemmas.{made_task}
use Rattle.lcm_api.proofs.asked.read_asked.Goals as goal

pub returns-in-Instantiate-clause-gives : goal.returns-in-Instantiate-clause-gives
returns-in-Instantiate-clause-gives c = rw c.in-Instantiate.is
    (_, refl, made_task Instantiate _ _ _ c.read_instantiate.ensures c.map.ensures.cases)

pub returns-in-Scale-clause-gives : goal.returns-in-Scale-clause-gives
returns-in-Scale-clause-gives c = rw c.in-Scale.is
    (_, refl, made_task Scale _ _ _ c.read_scale.ensures c.map-in-Scale.ensures.cases)

pub returns-in-ScaleToLevel-clause-gives : goal.returns-in-ScaleToLevel-clause-gives
returns-in-ScaleToLevel-clause-gives c = rw c.in-ScaleToLevel.is
    (_, refl, made_task ScaleToLevel _ _ _ c.read_scale_to_level.ensures c.map-in-ScaleToLevel.ensures.cases)

pub returns-in-Heal-clause-gives : goal.returns-in-Heal-clause-gives
returns-in-Heal-clause-gives c = rw c.in-Heal.is
    (_, refl, made_task Heal _ _ _ c.read_heal.ensures.gives c.map-in-Heal.ensures.cases)

pub returns-in-Operate-clause-gives : goal.returns-in-Operate-clause-gives
returns-in-Operate-clause-gives c = rw c.in-Operate.is
    (_, refl, made_task Operate _ _ _ c.read_operate.ensures c.map-in-Operate.ensures.cases)

pub returns-in-Terminate-clause-gives : goal.returns-in-Terminate-clause-gives
returns-in-Terminate-clause-gives c = rw c.in-Terminate.is
    (_, refl, made_task Terminate _ _ _ c.read_terminate.ensures c.map-in-Terminate.ensures.cases)
