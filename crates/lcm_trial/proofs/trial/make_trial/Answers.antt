-- Each step is played where none before it passed the room.
use Rattle.std.proofs.Common.{arith, subst, sym}
use Rattle.lcm_trial.specs.Playing.{IsAt}
use Rattle.lcm_trial.specs.Stages.{first_stage, stage_after, stepped}
use Rattle.lcm_trial.specs.declared.trial.Trial.{Trial}
use Rattle.lcm_trial.proofs.TrialLemmas.{passed_first, passed_then, played_first, played_on, whole}
use Rattle.lcm_trial.proofs.trial.make_trial.Goals as goal

pub returns-in_err-check_room-clause-room : goal.returns-in_err-check_room-clause-room
returns-in_err-check_room-clause-room c =
    passed_first c.args.start c.args.count c.from_residual-in_err-check_room.result c.in_err-check_room.field-0.0
    c.from_residual-in_err-check_room.ensures.1
    (c.in_err-check_room.ensures.room (first_stage c.args.start) c.in_ok-trial.ensures.at)

pub loop-made-init : goal.loop-made-init
loop-made-init c =
    let P : Trial → Type 0 = λ t. IsAt (first_stage c.args.start) t in (
      played_first c.args.start c.check_room.new.self (subst P (sym c.in_ok-check_room.ensures.same) c.in_ok-trial.ensures.at)
          (c.in_ok-check_room.ensures.room (first_stage c.args.start) c.in_ok-trial.ensures.at),
      omega arith,
    )

pub returns-in_err-check_room-2-clause-room : goal.returns-in_err-check_room-2-clause-room
returns-in_err-check_room-2-clause-room c =
    let before = stage_after c.args.start c.loop-made.made in
    let less = c.loop-made-test.true in
    passed_then c.args.start c.loop-made.made c.args.count c.from_residual-in_err-check_room-2.result c.in_err-check_room-2.field-0.0
    (omega (arith, less)) c.from_residual-in_err-check_room-2.ensures.1
    (c.in_err-check_room-2.ensures.room (stepped before) (c.in_ok-step.ensures.at before c.loop-made.invariant.0.at))

pub loop-made-preserved : goal.loop-made-preserved
loop-made-preserved c =
    let before = stage_after c.args.start c.loop-made.made in
    let less = c.loop-made-test.true in
    let at = c.in_ok-step.ensures.at before c.loop-made.invariant.0.at in (
      played_on c.args.start c.loop-made.made c.step.new.self c.check_room-in-loop-made.new.self c.loop-made.invariant.0.room at
          (c.in_ok-check_room-2.ensures.room (stepped before) at) c.in_ok-check_room-2.ensures.same,
      omega (arith, less),
    )

pub returns-clause-tried : goal.returns-clause-tried
returns-clause-tried c =
    let done = c.loop-made-test.false in
    whole c.args.start c.loop-made.made c.args.count c.in_ok-tried.field-0 c.loop-made.invariant.1 (omega (arith, done))
    (c.in_ok-tried.ensures (stage_after c.args.start c.loop-made.made) c.loop-made.invariant.0.at) c.loop-made.invariant.0.room
