-- What the body of a request for a task of an instance asks for, by the instance's descriptor (SOL 003 5.5.2.4 to
-- 5.5.2.10).
use Rattle.std.specs.Prelude.{◌≡◌, ◌≤◌, List, None, Ok, Option, Result, Some, length, ℕ}
use Rattle.json_bodies.specs.Body.{Gives, and_then, instantiate_of}
use Rattle.json_bodies.specs.Machines.{machines_named}
use Rattle.json_bodies.specs.Operations.{heal_of, operate_of, scale_of, scale_to_level_of, terminate_of}
use Rattle.json_bodies.specs.declared.body.BodyFault.{BodyFault}
use Rattle.lcm_events.specs.declared.asks.Ask.{Ask}
use Rattle.lcm_events.specs.declared.asks.Ask.TheVariants.{Heal, Instantiate, Operate, Scale, ScaleToLevel, Terminate}
use Rattle.lcm_events.specs.declared.asks.OpKind.{OpKind}
use Rattle.lcm_events.specs.declared.asks.OpKind.TheVariants as kinds
use Rattle.lcm_events.specs.declared.descriptor.Vnfd.{Vnfd}
use Rattle.lcm_api.specs.declared.asked.AskedBody.{AskedBody}
use Rattle.lcm_api.specs.declared.asked.AskedBody.TheVariants as bodies

-- what a body says of this operation, where it is served (SOL 003 5.5.2.4 to 5.5.2.10)
abbrev pub asked_in : OpKind → List ℕ → Option (Result AskedBody BodyFault)
asked_in kinds.Instantiate bytes = Some (and_then (instantiate_of bytes) (λ body. Ok (bodies.Instantiate body)))
asked_in kinds.Scale bytes = Some (and_then (scale_of bytes) (λ body. Ok (bodies.Scale body)))
asked_in kinds.ScaleToLevel bytes = Some (and_then (scale_to_level_of bytes) (λ aim. Ok (bodies.ScaleToLevel aim)))
asked_in kinds.Heal bytes = Some (and_then (heal_of bytes) (λ body. Ok (bodies.Heal body)))
asked_in kinds.Operate bytes = Some (and_then (operate_of bytes) (λ body. Ok (bodies.Operate body)))
asked_in kinds.Terminate bytes = Some (and_then (terminate_of bytes) (λ body. Ok (bodies.Terminate body)))
asked_in kinds.ChangeFlavour bytes = None

-- what a body asks an instance of this descriptor for (SOL 003 5.5.2.4 to 5.5.2.10)
abbrev pub ask_by : Vnfd → AskedBody → Ask
ask_by d (bodies.Instantiate body) = Instantiate body.flavour body.level
ask_by d (bodies.Scale body) = Scale body.way body.aspect body.steps
ask_by d (bodies.ScaleToLevel aim) = ScaleToLevel aim
ask_by d (bodies.Heal body) = Heal body.cause (machines_named d body.named)
ask_by d (bodies.Operate body) = Operate body.started body.stop
ask_by d (bodies.Terminate body) = Terminate body.mode body.timeout

-- a body names at most 512 machines (own limit)
abbrev pub NamesFewTexts : AskedBody → Type 0
NamesFewTexts (bodies.Heal body) = length body.named ≤ 512
NamesFewTexts _ = Unit {0}

-- what was read is what is expected, unless there was no memory for it
abbrev pub GivesAsked : Option (Result AskedBody BodyFault) → Option (Result AskedBody BodyFault) → Type 0
GivesAsked None expected = expected ≡ None
GivesAsked (Some read) expected = (whole : Result AskedBody BodyFault) × (expected ≡ Some whole) × Gives read whole
