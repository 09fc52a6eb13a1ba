-- What a mouth stands for, and what its calls do: a wire, the request in hand with its role, and when replies were
-- told.
use Rattle.std.specs.Prelude.{◌≡◌, ℕ, List, [], Bool, true, false, Option, Some, None, Result, Ok, Err}
use Rattle.lcm_events.specs.declared.states.Role.{Role}
use Rattle.http_wire.specs.declared.request.Request.{Request}
use Rattle.http_wire.specs.declared.request.Taken.{Taken}
use Rattle.http_wire.specs.declared.request.Taken.TheVariants as taken
use Rattle.http_wire.specs.declared.request.WireFault.{WireFault}
use Rattle.http_wire.specs.Exact.{IsExact}
use Rattle.served_account.specs.declared.account.Account.{Account}
use Rattle.http_wire.specs.Wire.{WireState, TakenIs, bytes_of}

-- What the wire stands for, the request in hand with the role that it was heard for, the moments of the site at which
-- something was told, the latest first, and what was heard and answered so far.
pub record MouthState : Type 0 where
  pub wire : WireState
  pub hand : Option Request
  pub role : Role
  pub told : List ℕ
  pub account : Account

-- Nothing changes but at the door and in what was told: the bytes that were read and belong to no request yet stay, and
-- so does what was taken, and what is in hand.
pub record OnlyAtDoor (old new : MouthState) : Type 0 where
  pub held : new.wire.intake.held ≡ old.wire.intake.held
  pub taken : new.wire.taken ≡ old.wire.taken
  pub ended : new.wire.ended ≡ old.wire.ended
  pub hand : new.hand ≡ old.hand
  pub role : new.role ≡ old.role

-- a connection begins: no byte of it is held, no request was taken, and none is in hand
pub record Begins (new : MouthState) : Type 0 where
  pub held : new.wire.intake.held ≡ []
  pub taken : new.wire.taken ≡ 0
  pub ended : new.wire.ended ≡ false
  pub hand : new.hand ≡ None

-- this was taken out of the bytes of the connection, and it is just what they begin with
pub record Takes (tells : Type 0) (answer : Result Taken WireFault) (old new : WireState) : Type 0 where
  pub is : TakenIs tells old new answer
  pub exact : tells → old.ended ≡ false → IsExact (bytes_of old.intake) answer

-- what was heard, by the answer: a request was taken and is in hand, or the end or a fault was found and none is in
-- hand
abbrev pub Heard : Type 0 → Result Bool WireFault → MouthState → MouthState → Type 0
Heard tells (Ok true) old new = (r : Request) × (new.hand ≡ Some r)
    × Takes tells (Ok (taken.Request r)) old.wire new.wire
Heard tells (Ok false) old new = (new.hand ≡ None) × Takes tells (Ok taken.End) old.wire new.wire
Heard tells (Err fault) old new = (new.hand ≡ None) × Takes tells (Err fault) old.wire new.wire
