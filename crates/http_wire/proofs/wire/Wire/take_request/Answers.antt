use Rattle.std.proofs.Common.{◌≡◌, ◌≤◌, ◌<◌, ◌+◌, ℕ, false, length, drop, ap, arith}
use Rattle.std.specs.Prelude.{◌==◌}
use Rattle.std.proofs.lemmas.Grind.{common_steps}
use Rattle.std.proofs.lemmas.List.{take_at}
use Rattle.http_wire.specs.declared.TheConstants.{CONNECTION_REQUESTS}
use Rattle.http_wire.specs.declared.request.Request.{Request}
use Rattle.http_wire.specs.Intake.{IntakeState}
use Rattle.http_wire.specs.Wire.{TakesRequest}
use Rattle.http_wire.proofs.ExactLaws.{some_came, none_came, fault_came}
use Rattle.http_wire.proofs.wire.Wire.take_request.Goals as goal

pub returns-in-Ok-Some-clause-exact : goal.returns-in-Ok-Some-clause-exact
returns-in-Ok-Some-clause-exact g c told goes_on =
    some_came g.D.Door.tells _ c.self.inside.intake c.take.new.intake c.args.self.now c.in-Ok-Some.field-0 c.in-Ok-Some.request
    (ap (λ w. w.intake) c.self.view_is) c.in-Ok-Some.ensures.came c.in-Ok-Some.field-0-is told

pub returns-in-Ok-None-clause-exact : goal.returns-in-Ok-None-clause-exact
returns-in-Ok-None-clause-exact g c told goes_on =
    none_came g.D.Door.tells _ c.self.inside.intake c.take.new.intake c.args.self.now c.in-Ok-None.field-0
    (ap (λ w. w.intake) c.self.view_is) c.in-Ok-None.ensures.came c.in-Ok-None.field-0-is told

pub returns-in-Err-clause-exact : goal.returns-in-Err-clause-exact
returns-in-Err-clause-exact g c told goes_on =
    fault_came g.D.Door.tells c.self.inside.intake c.take.new.intake c.args.self.now c.in-Err.fault
    (ap (λ w. w.intake) c.self.view_is) c.in-Err.ensures.came.0 c.in-Err.ensures.came.1 told

-- a request that isn't the last stands before the last place
few_so_far : (tells : Type 0) (n : ℕ) (a b : IntakeState) (r : Request) → n ≤ CONNECTION_REQUESTS
    → TakesRequest tells (n == CONNECTION_REQUESTS) a b r → r.last ≡ false
    → n < CONNECTION_REQUESTS
few_so_far tells n a b r within takes goes_on = let last = takes.last in grind (arith, common_steps)

pub invariant_of-self : goal.invariant_of-self
invariant_of-self g c =
    let within : c.self.inside.taken + 1 ≤ CONNECTION_REQUESTS = omega (arith, c.self.invariant.2 c.if-self.false) in
    rw (take_at c.take.new.room (drop (length c.take.new.room) c.self.inside.room.items) c.self.inside.room.len (omega arith)) (
      omega arith,
      within,
      few_so_far g.D.Door.tells (c.self.inside.taken + 1) c.self.inside.intake c.take.new.intake c.in-Ok-Some.request within
          (rw c.in-Ok-Some.field-0-is at c.in-Ok-Some.ensures.came),
    )

pub invariant_of-self-in-Ok-None : goal.invariant_of-self-in-Ok-None
invariant_of-self-in-Ok-None g c =
    rw (take_at c.take.new.room (drop (length c.take.new.room) c.self.inside.room.items) c.self.inside.room.len (omega arith))
    (omega arith, c.self.invariant.1, c.self.invariant.2)

pub invariant_of-self-in-Err : goal.invariant_of-self-in-Err
invariant_of-self-in-Err g c =
    rw (take_at c.take.new.room (drop (length c.take.new.room) c.self.inside.room.items) c.self.inside.room.len (omega arith))
    (omega arith, c.self.invariant.1, c.self.invariant.2)
