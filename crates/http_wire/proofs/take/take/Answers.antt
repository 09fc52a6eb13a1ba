use Rattle.std.proofs.Common.{List, ℕ, sym, ◌∙◌, subst}
use Rattle.http_wire.specs.Wire.{HasParts, KeepsBytes}
use Rattle.http_wire.proofs.IntakeLaws.{takes_on}
use Rattle.http_wire.proofs.TakeLaws.{only_takes, only_takes_and_passes, takes_request, bytes_stay, wants_request, fault_since}
use Rattle.http_wire.proofs.take.take.Goals as goal

pub returns-in-Err-take_body-clause-reads : goal.returns-in-Err-take_body-clause-reads
returns-in-Err-take_body-clause-reads g c = only_takes g.D.Door.tells c.args.intake.now c.take_body.new.intake
    (takes_on g.D.Door.tells c.args.intake.now c.take_head.new.intake c.take_body.new.intake c.in-Ok-Some.ensures.takes
    c.in-Err-take_body.ensures.takes)

pub returns-in-Err-request_of-clause-reads : goal.returns-in-Err-request_of-clause-reads
returns-in-Err-request_of-clause-reads g c = only_takes g.D.Door.tells c.args.intake.now c.take_body.new.intake
    (takes_on g.D.Door.tells c.args.intake.now c.take_head.new.intake c.take_body.new.intake c.in-Ok-Some.ensures.takes
    c.in-Ok.ensures.takes)

pub returns-clause-reads : goal.returns-clause-reads
returns-clause-reads g c = only_takes_and_passes g.D.Door.tells c.args.intake.now c.take_body.new.intake c.pass.new.self
    (takes_on g.D.Door.tells c.args.intake.now c.take_head.new.intake c.take_body.new.intake c.in-Ok-Some.ensures.takes
    c.in-Ok.ensures.takes)
    c.pass.ensures.door c.pass.ensures.counts c.pass.ensures.writes

pub returns-clause-came : goal.returns-clause-came
returns-clause-came g c = takes_request g.D.Door.tells c.args.at_last c.args.intake.now c.take_body.new.intake c.pass.new.self
    c.in-Ok-Some.head c.in-Ok.whole.body.items c.in-Ok.whole.end c.in-Ok-request_of.request
    (takes_on g.D.Door.tells c.args.intake.now c.take_head.new.intake c.take_body.new.intake c.in-Ok-Some.ensures.takes
    c.in-Ok.ensures.takes)
    c.in-Ok.ensures.head c.in-Ok.ensures.came.0 c.pass.ensures.held c.pass.ensures.door
    (subst (λ (x : List ℕ). HasParts x c.in-Ok-Some.head c.in-Ok.whole.body.items c.args.at_last c.in-Ok-request_of.request) c.held.ensures
    c.in-Ok-request_of.ensures)

pub returns-in-Err-request_of-clause-came : goal.returns-in-Err-request_of-clause-came
returns-in-Err-request_of-clause-came g c = (
  bytes_stay g.D.Door.tells c.args.intake.now c.take_body.new.intake
      (takes_on g.D.Door.tells c.args.intake.now c.take_head.new.intake c.take_body.new.intake c.in-Ok-Some.ensures.takes
      c.in-Ok.ensures.takes),
  wants_request c.take_body.new.intake.held c.in-Ok-Some.head c.in-Ok.whole.body.items c.in-Ok.whole.end c.in-Ok.ensures.head
      c.in-Ok.ensures.came.0,
)

pub returns-in-Ok-None-clause-came : goal.returns-in-Ok-None-clause-came
returns-in-Ok-None-clause-came g c =
    let stay : KeepsBytes g.D.Door.tells c.args.intake.now c.take_head.new.intake =
    bytes_stay g.D.Door.tells c.args.intake.now c.take_head.new.intake c.in-Ok-None.ensures.takes in
    let came = rw c.in-Ok-None.field-0-is at c.in-Ok-None.ensures.came in
    (stay, λ told. sym (stay told) ∙ came told)

pub returns-in-Err-clause-came : goal.returns-in-Err-clause-came
returns-in-Err-clause-came g c = (
  bytes_stay g.D.Door.tells c.args.intake.now c.take_head.new.intake c.in-Err.ensures.takes,
  c.in-Err.ensures.came,
)

pub returns-in-Err-take_body-clause-came : goal.returns-in-Err-take_body-clause-came
returns-in-Err-take_body-clause-came g c = (
  bytes_stay g.D.Door.tells c.args.intake.now c.take_body.new.intake
      (takes_on g.D.Door.tells c.args.intake.now c.take_head.new.intake c.take_body.new.intake c.in-Ok-Some.ensures.takes
      c.in-Err-take_body.ensures.takes),
  fault_since g.D.Door.tells c.args.intake.now c.take_head.new.intake c.take_body.new.intake c.in-Err-take_body.fault
      c.in-Ok-Some.ensures.counts
      c.in-Err-take_body.ensures.came,
)
