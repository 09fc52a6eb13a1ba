-- A descriptor and histories over it, on which the definitions are tried (own rule).
use Rattle.std.specs.Prelude.{List, None, Option, Some, [], codes, replicate, ℕ, ◌∷◌}
use Rattle.lcm_events.specs.declared.asks.Ask.{Ask}
use Rattle.lcm_events.specs.declared.asks.Ask.TheVariants.{Instantiate, Scale}
use Rattle.lcm_events.specs.declared.attempts.Outcome.TheVariants.{Done, NotBegun}
use Rattle.lcm_events.specs.declared.attempts.Tag.{Tag}
use Rattle.lcm_events.specs.declared.attempts.Way.{Way}
use Rattle.lcm_events.specs.declared.attempts.Way.TheVariants.{Forward}
use Rattle.lcm_events.specs.declared.changes.Change.{Change}
use Rattle.lcm_events.specs.declared.descriptor.Vnfd.{Vnfd}
use Rattle.lcm_events.specs.declared.events.Event.{Event}
use Rattle.lcm_events.specs.declared.events.EventKind.{EventKind}
use Rattle.lcm_events.specs.declared.events.EventKind.TheVariants.{Asked, CallFailed, Created, Granted, Intent, Moved}
use Rattle.lcm_events.specs.declared.events.EventKind.TheVariants.{Onboarded, Settled}
use Rattle.lcm_events.specs.declared.events.Operation.{Operation}
use Rattle.lcm_events.specs.declared.places.Place.{Place}
use Rattle.lcm_events.specs.declared.states.OpState.TheVariants.{Completed, Failed, FailedTemp, Processing}
use Rattle.lcm_events.specs.declared.states.Role.TheVariants.{Orchestrator}
use Rattle.lcm_model.specs.declared.refusals.Refusal.{Refusal}
use Rattle.lcm_model.specs.Plans.{plan}
use Rattle.lcm_model.specs.Refusals.{ask_refusal, case_in, situation}
use Rattle.lcm_events.specs.declared.asks.ScaleWay.TheVariants.{Out, In}

-- an edge router of two VDUs, one aspect and two levels (own rule)
abbrev pub router : Vnfd
router = record {
  descriptor_id = codes "vnfd-1";
  provider = codes "Example";
  product_name = codes "Edge Router";
  software_version = codes "1.0";
  descriptor_version = codes "1.0";
  flavour_id = codes "simple";
  vdus =
      record { name = codes "VDU_A"; memory = 2147483648; cpus = 2; maximum = 11; initial = 1; storages = 0 ∷ [] }
      ∷ record {
        name = codes "VDU_B";
        memory = 512000000;
        cpus = 1;
        maximum = 4294967295;
        initial = 1;
        storages =
            1 ∷ [];
      } ∷ [];
  storages = record { name = codes "STO_A"; size = 10000000000 } ∷ record { name = codes "STO_B"; size = 1000000000 }
      ∷ [];
  links = codes "net_data" ∷ codes "net_mgmt" ∷ [];
  ports =
      record { name = codes "CP_A_data"; vdu = 0; link = Some 0 }
      ∷ record { name = codes "CP_A_mgmt"; vdu = 0; link = Some 1 }
      ∷ record { name = codes "CP_B_mgmt"; vdu = 1; link = Some 1 } ∷ [];
  aspects = record { name = codes "workers"; maximum = 10; steps = 1; rows = record { vdu = 0; deltas = 1 ∷ [] } ∷ [] }
      ∷ [];
  levels = record { name = codes "normal"; numbers = 1 ∷ [] } ∷ record { name = codes "small"; numbers = 0 ∷ [] } ∷ [];
  default_level = 0;
}

-- an event at moment 0 (own rule)
abbrev pub at : EventKind → Event
at kind = record { moment = 0; kind = kind }

-- the router is onboarded and instance 1 created (own rule)
abbrev pub begun : List Event
begun = at (Created 1 (codes "vnfd-1") None None) ∷ at (Onboarded router) ∷ []

-- instantiate to the default level (own rule)
abbrev pub instantiate : Ask
instantiate = Instantiate (codes "simple") None

-- scale the workers out by steps (own rule)
abbrev pub scale_out : ℕ → Ask
scale_out steps = Scale Out (codes "workers") steps

-- scale the workers in by steps (own rule)
abbrev pub scale_in : ℕ → Ask
scale_in steps = Scale In (codes "workers") steps

-- the plan of an ask to instance 1 (own rule)
abbrev pub planned : List Event → Ask → List Change
planned H ask = plan (case_in router (situation router H 1) ask)

-- why an ask to instance 1 is refused (own rule)
abbrev pub refused : List Event → Ask → Option Refusal
refused H ask = ask_refusal router (situation router H 1) ask

-- operation o of instance 1 with its plan (own rule)
abbrev pub operation_of : ℕ → Ask → List Event → Operation
operation_of o ask H = record { occ = o; instance = 1; role = Orchestrator; ask = ask; changes = planned H ask }

-- operation o is asked for (own rule)
abbrev pub asks : ℕ → Ask → List Event → List Event
asks o ask H = at (Asked (operation_of o ask H)) ∷ H

-- the one place of the fixture's grants (own rule)
abbrev pub somewhere : Place
somewhere = record { vim = codes "vim1"; zone = [] }

-- operation o with so many changes is granted, and moves to PROCESSING (own rule)
abbrev pub granted : ℕ → ℕ → List Event → List Event
granted o n H = at (Moved o Processing) ∷ at (Granted o (codes "g1") (somewhere ∷ []) (replicate n 0)) ∷ H

-- the attempt of this number at change c (own rule)
abbrev pub attempt : ℕ → ℕ → ℕ → Way → Tag
attempt o c n way = record { occ = o; change = c; attempt = n; way = way }

-- an attempt begins and is done (own rule)
abbrev pub does : Tag → List Event → List Event
does t H = at (Settled t (Done (codes "r"))) ∷ at (Intent t) ∷ H

-- the first attempts at changes 0 to n - 1 are done, in order (own rule)
abbrev pub does_first : ℕ → ℕ → List Event → List Event
does_first o ℕ.zero H = H
does_first o (ℕ.suc n) H = does (attempt o n 1 Forward) (does_first o n H)

-- operation o is asked for, granted, done in so many changes, and COMPLETED (own rule)
abbrev pub completes : ℕ → ℕ → Ask → List Event → List Event
completes o n ask H = at (Moved o Completed) ∷ does_first o n (granted o n (asks o ask H))

-- instance 1 is instantiated (own rule)
abbrev pub running : List Event
running = completes 1 13 instantiate begun

-- three of the changes that instantiate are made (own rule)
abbrev pub half_way : List Event
half_way = does_first 1 3 (granted 1 13 (asks 1 instantiate begun))

-- a scale out whose compute was never begun, for a failed call (own rule)
abbrev pub scale_failed : List Event
scale_failed =
    let t = attempt 2 1 1 Forward in
    at (Moved 2 FailedTemp) ∷ at (Settled t NotBegun) ∷ at (CallFailed t) ∷ at (Intent t)
    ∷ does_first 2 1 (granted 2 4 (asks 2 (scale_out 1) running))

-- the same, given up (own rule)
abbrev pub scale_given_up : List Event
scale_given_up = at (Moved 2 Failed) ∷ scale_failed
