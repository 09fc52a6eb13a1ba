-- What an operation was asked for with (SOL 003 5.5.2.13, VnfLcmOpOcc, operationParams): the members of its request's
-- body that the ask has. Members stand in byte order of their names.
use Rattle.std.specs.Prelude.{Bool, List, None, Option, Some, codes, if◌then◌else◌, length, option_map, ℕ, ◌==◌}
use Rattle.serde_json.specs.Data.{Data, Members, member, no_members, number, string, unsigned}
use Rattle.lcm_events.specs.declared.asks.Aim.{Aim}
use Rattle.lcm_events.specs.declared.asks.Aim.TheVariants.{Aspects, Level}
use Rattle.lcm_events.specs.declared.asks.Ask.{Ask}
use Rattle.lcm_events.specs.declared.asks.Ask.TheVariants.{Heal, Instantiate, Operate, Scale, ScaleToLevel, Terminate}
use Rattle.lcm_events.specs.declared.asks.ScaleWay.{ScaleWay}
use Rattle.lcm_events.specs.declared.asks.StopType.{StopType}
use Rattle.lcm_events.specs.declared.asks.Vnfc.{Vnfc}
use Rattle.lcm_events.specs.declared.descriptor.Vnfd.{Vnfd}
use Rattle.json_views.specs.Resources.{machine_id, scale_info}
use Rattle.json_bodies.specs.Words.{power_word, stop_word, way_word}
use Rattle.json_views.specs.Views.{array_of, member_where}

-- a machine by its identifier (SOL 003 5.5.2.9, HealVnfRequest, vnfcInstanceId)
abbrev pub machine_value : Vnfd → Vnfc → Data
machine_value d x = string (machine_id d x.vdu x.serial)

-- the machines that are named, where some are (SOL 003 5.5.2.9)
abbrev pub named_where : Vnfd → List Vnfc → Option Data
named_where d named = if length named == 0 then None else Some (array_of (machine_value d) named)

-- how to stop, where that was said (SOL 003 5.5.2.10)
abbrev pub stop_where : Option StopType → Option Data
stop_where stop = option_map (λ s. string (stop_word s)) stop

-- what SCALE_TO_LEVEL aims at (SOL 003 5.5.2.6, ScaleVnfToLevelRequest)
abbrev pub aim_params : Aim → Members
aim_params (Level name) = member (codes "instantiationLevelId") (string name) no_members
aim_params (Aspects xs) = member (codes "scaleInfo") (array_of scale_info xs) no_members

-- what INSTANTIATE was asked with (SOL 003 5.5.2.4, InstantiateVnfRequest)
abbrev pub instantiate_params : List ℕ → Option (List ℕ) → Members
instantiate_params flavour level =
    member (codes "flavourId") (string flavour)
    (member_where (codes "instantiationLevelId") (option_map string level)
    no_members)

-- what SCALE was asked with (SOL 003 5.5.2.5, ScaleVnfRequest)
abbrev pub scale_params : ScaleWay → List ℕ → ℕ → Members
scale_params way aspect steps =
    member (codes "aspectId") (string aspect)
    (member (codes "numberOfSteps") (number (unsigned steps))
    (member (codes "type") (string (way_word way))
    no_members))

-- what HEAL was asked with (SOL 003 5.5.2.9, HealVnfRequest)
abbrev pub heal_params : Vnfd → Option (List ℕ) → List Vnfc → Members
heal_params d cause named =
    member_where (codes "cause") (option_map string cause)
    (member_where (codes "vnfcInstanceId") (named_where d named)
    no_members)

-- what OPERATE was asked with (SOL 003 5.5.2.10, OperateVnfRequest)
abbrev pub operate_params : Bool → Option StopType → Members
operate_params started stop =
    member (codes "changeStateTo") (string (power_word started))
    (member_where (codes "stopType") (stop_where stop)
    no_members)

-- what TERMINATE was asked with (SOL 003 5.5.2.8, TerminateVnfRequest)
abbrev pub terminate_params : StopType → Option ℕ → Members
terminate_params mode timeout =
    member_where (codes "gracefulTerminationTimeout") (option_map (λ n. number (unsigned n)) timeout)
    (member (codes "terminationType") (string (stop_word mode))
    no_members)

-- the members of the request's body that the ask has (SOL 003 5.5.2.4 to 5.5.2.10)
abbrev pub params : Vnfd → Ask → Members
params d (Instantiate flavour level) = instantiate_params flavour level
params d (Scale way aspect steps) = scale_params way aspect steps
params d (ScaleToLevel aim) = aim_params aim
params d (Heal cause named) = heal_params d cause named
params d (Operate started stop) = operate_params started stop
params d (Terminate mode timeout) = terminate_params mode timeout
