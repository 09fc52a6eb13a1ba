use Rattle.std.proofs.Common.{List, ℕ, length, ap, sym, ◌∙◌, subst}
use Rattle.http_frames.specs.Heads.{HeadIs, HasReadLines}
use Rattle.http_frames.specs.declared.head.Head.TheVariants as answer
use Rattle.http_wire.proofs.IntakeLaws.{takes_on}
use Rattle.http_wire.proofs.TakeLaws.{malformed_grows, too_large_grows, head_needs_more, head_breaks_off, no_byte, wants_to_read}
use Rattle.http_wire.proofs.TakeLaws.{lines_stay}
use Rattle.http_wire.proofs.take.take_head.Goals as goal

pub returns-in-TooLarge-clause-came : goal.returns-in-TooLarge-clause-came
returns-in-TooLarge-clause-came g c = λ told.
    too_large_grows c.looks.intake (subst (λ (x : List ℕ). HeadIs x answer.TooLarge) c.held-held.ensures c.in-TooLarge.ensures.head)

pub read_on-requires-clause-needs : goal.read_on-requires-clause-needs
read_on-requires-clause-needs g c = head_needs_more c.looks.intake.held
    (subst (λ (x : List ℕ). HeadIs x answer.More) c.held-held.ensures c.in-More.ensures.head)

pub returns-in-Ok-End-clause-came : goal.returns-in-Ok-End-clause-came
returns-in-Ok-End-clause-came g c = λ told.
    let came = rw c.in-Ok-End.field-0-is at c.in-Ok-End.ensures.came in
    no_byte c.read_on.new.self (ap length came.0 ∙ sym (ap length c.held-held.ensures) ∙ c.if-count-eq0.true) (came.1 told)

pub returns-in-Ok-End-2-clause-came : goal.returns-in-Ok-End-2-clause-came
returns-in-Ok-End-2-clause-came g c = λ told.
    let came = rw c.in-Ok-End.field-0-is at c.in-Ok-End.ensures.came in
    head_breaks_off c.read_on.new.self
    (subst (λ (x : List ℕ). HeadIs x answer.More) (c.held-held.ensures ∙ sym came.0) c.in-More.ensures.head)
    (λ none. c.if-count-eq0.false (ap length (c.held-held.ensures ∙ sym came.0 ∙ none))) (came.1 told)

pub read_on-requires-clause-up : goal.read_on-requires-clause-up
read_on-requires-clause-up g c = c.looks.invariant.0.counts.up ∙ c.requires.up

pub returns-in-Err-clause-came : goal.returns-in-Err-clause-came
returns-in-Err-clause-came g c = wants_to_read c.looks.intake c.read_on.new.self c.in-Err.ensures.came
    (head_needs_more c.looks.intake.held (subst (λ (x : List ℕ). HeadIs x answer.More) c.held-held.ensures c.in-More.ensures.head))

pub returns-in-Malformed-clause-came : goal.returns-in-Malformed-clause-came
returns-in-Malformed-clause-came g c = λ told.
    malformed_grows c.looks.intake (subst (λ (x : List ℕ). HeadIs x answer.Malformed) c.held-held.ensures c.in-Malformed.ensures.head)

pub looks-preserved : goal.looks-preserved
looks-preserved g c = (
  takes_on g.D.Door.tells c.args.intake.now c.looks.intake c.read_on.new.self c.looks.invariant.0 c.in-Ok-Bytes.ensures.takes,
  (rw c.in-Ok-Bytes.field-0-is at c.in-Ok-Bytes.ensures.came).1 ∙ c.looks.invariant.1,
  lines_stay g.D.Door.tells c.looks.intake c.read_on.new.self c.read.new.self c.in-Ok-Bytes.ensures.takes
      (subst (λ (x : List ℕ). HasReadLines x c.read.new.self) c.held-held.ensures c.in-More.ensures.kept),
)

pub returns-in-Ok-End-clause-takes : goal.returns-in-Ok-End-clause-takes
returns-in-Ok-End-clause-takes g c = takes_on g.D.Door.tells c.args.intake.now c.looks.intake c.read_on.new.self c.looks.invariant.0
    c.in-Ok-End.ensures.takes

pub returns-in-Ok-End-2-clause-takes : goal.returns-in-Ok-End-2-clause-takes
returns-in-Ok-End-2-clause-takes g c = takes_on g.D.Door.tells c.args.intake.now c.looks.intake c.read_on.new.self c.looks.invariant.0
    c.in-Ok-End.ensures.takes

pub returns-in-Ok-Failed-clause-takes : goal.returns-in-Ok-Failed-clause-takes
returns-in-Ok-Failed-clause-takes g c = takes_on g.D.Door.tells c.args.intake.now c.looks.intake c.read_on.new.self c.looks.invariant.0
    c.in-Ok-Failed.ensures.takes

pub read-requires-clause-lines : goal.read-requires-clause-lines
read-requires-clause-lines g c = subst (λ (x : List ℕ). HasReadLines x c.looks.reader) (sym c.held-held.ensures) c.looks.invariant.2
