use Rattle.std.proofs.Common.{◌+◌, ◌≤◌, length, ap, ◌∙◌, arith}
use Rattle.http_frames.specs.declared.TheConstants.{HEAD_BYTES, BODY_BYTES}
use Rattle.http_wire.proofs.IntakeLaws.{takes_on, rose_since}
use Rattle.http_wire.proofs.TakeLaws.{head_stays, length_fits, sized_needs_more, sized_breaks_off, sized_has_none, wants_to_read}
use Rattle.http_wire.proofs.take.take_sized.Goals as goal

pub overflow_add-end : goal.overflow_add-end
overflow_add-end g c =
    let fits : c.args.head.len + c.args.length ≤ HEAD_BYTES + BODY_BYTES =
    length_fits c.args.intake.now.held c.args.head c.args.length c.requires.head c.requires.sized in
    omega arith

pub read_on-requires-clause-needs : goal.read_on-requires-clause-needs
read_on-requires-clause-needs g c =
    sized_needs_more c.reads.intake.held c.args.head c.args.length c.reads.invariant.1 c.requires.sized
    (omega (arith, c.reads-test.true, ap length c.held.ensures))

pub reads-preserved : goal.reads-preserved
reads-preserved g c = (
  takes_on g.D.Door.tells c.args.intake.now c.reads.intake c.read_on.new.self c.reads.invariant.0 c.in-Ok-Bytes.ensures.takes,
  head_stays g.D.Door.tells c.reads.intake c.read_on.new.self c.args.head c.in-Ok-Bytes.ensures.takes c.reads.invariant.1,
  (rw c.in-Ok-Bytes.field-0-is at c.in-Ok-Bytes.ensures.came).1 ∙ c.reads.invariant.2,
)

pub returns-in-Ok-End-clause-takes : goal.returns-in-Ok-End-clause-takes
returns-in-Ok-End-clause-takes g c = takes_on g.D.Door.tells c.args.intake.now c.reads.intake c.read_on.new.self c.reads.invariant.0
    c.in-Ok-End.ensures.takes

pub returns-in-Ok-End-clause-came : goal.returns-in-Ok-End-clause-came
returns-in-Ok-End-clause-came g c = λ told.
    let came = rw c.in-Ok-End.field-0-is at c.in-Ok-End.ensures.came in
    sized_breaks_off c.read_on.new.self c.args.head c.args.length
    (head_stays g.D.Door.tells c.reads.intake c.read_on.new.self c.args.head c.in-Ok-End.ensures.takes c.reads.invariant.1) c.requires.sized
    (omega (arith, c.reads-test.true, ap length c.held.ensures, ap length came.0)) (came.1 told)

pub returns-in-Ok-Failed-clause-takes : goal.returns-in-Ok-Failed-clause-takes
returns-in-Ok-Failed-clause-takes g c = takes_on g.D.Door.tells c.args.intake.now c.reads.intake c.read_on.new.self c.reads.invariant.0
    c.in-Ok-Failed.ensures.takes

pub returns-in-Ok-Failed-clause-came : goal.returns-in-Ok-Failed-clause-came
returns-in-Ok-Failed-clause-came g c =
    let came = rw c.in-Ok-Failed.field-0-is at c.in-Ok-Failed.ensures.came in (
      rose_since c.args.intake.now.counts.faults c.reads.intake.counts.faults c.read_on.new.self.counts.faults
          c.reads.invariant.0.counts.faults (ap (λ x. x.faults) came.1),
      sized_has_none c.read_on.new.self.held c.args.head c.args.length
          (head_stays g.D.Door.tells c.reads.intake c.read_on.new.self c.args.head c.in-Ok-Failed.ensures.takes c.reads.invariant.1)
          c.requires.sized
          (omega (arith, c.reads-test.true, ap length c.held.ensures, ap length came.0)),
    )

pub read_on-requires-clause-up : goal.read_on-requires-clause-up
read_on-requires-clause-up g c = c.reads.invariant.0.counts.up ∙ c.requires.up

pub returns-in-Err-clause-came : goal.returns-in-Err-clause-came
returns-in-Err-clause-came g c = wants_to_read c.reads.intake c.read_on.new.self c.in-Err.ensures.came
    (sized_needs_more c.reads.intake.held c.args.head c.args.length c.reads.invariant.1 c.requires.sized
    (omega (arith, c.reads-test.true, ap length c.held.ensures)))
