use Rattle.std.proofs.Common.{◌-◌, take, drop, refl, ap, ◌∙◌}
use Rattle.http_wire.proofs.TakeLaws.{sized_held, head_stays, wants_request}
use Rattle.http_wire.proofs.take.take_body.Goals as goal

pub returns-in-Ok-from_slice-clause-came : goal.returns-in-Ok-from_slice-clause-came
returns-in-Ok-from_slice-clause-came g c =
    sized_held c.take_sized.new.intake.held c.args.head c.in-Sized.length c.in-Ok.end c.in-Ok-from_slice.body.items c.in-Sized.is
    c.in-Ok.ensures.came.0 c.in-Ok.ensures.came.1
    (c.in-Ok-from_slice.ensures.items ∙ ap (λ x. take (c.in-Ok.end - c.args.head.len) (drop c.args.head.len x)) c.held.ensures)

pub returns-in-Err-from_slice-clause-came : goal.returns-in-Err-from_slice-clause-came
returns-in-Err-from_slice-clause-came g c =
    let held = c.take_sized.new.intake.held in
    let content = take (c.in-Ok.end - c.args.head.len) (drop c.args.head.len held) in
    wants_request held c.args.head content c.in-Ok.end
    (head_stays g.D.Door.tells c.args.intake.now c.take_sized.new.intake c.args.head c.in-Ok.ensures.takes c.requires.head)
    (sized_held held c.args.head c.in-Sized.length c.in-Ok.end content c.in-Sized.is c.in-Ok.ensures.came.0 c.in-Ok.ensures.came.1 refl).0

pub returns-in-Chunked-clause-head : goal.returns-in-Chunked-clause-head
returns-in-Chunked-clause-head g c =
    head_stays g.D.Door.tells c.args.intake.now c.take_chunked.new.intake c.args.head c.take_chunked.ensures.takes c.requires.head

pub returns-in-Err-clause-takes : goal.returns-in-Err-clause-takes
returns-in-Err-clause-takes g c = c.in-Err.ensures.takes

pub returns-in-Err-clause-head : goal.returns-in-Err-clause-head
returns-in-Err-clause-head g c = head_stays g.D.Door.tells c.args.intake.now c.take_sized.new.intake c.args.head c.in-Err.ensures.takes
    c.requires.head

pub returns-in-Err-clause-came : goal.returns-in-Err-clause-came
returns-in-Err-clause-came g c = c.in-Err.ensures.came

pub returns-in-Err-clause-counts : goal.returns-in-Err-clause-counts
returns-in-Err-clause-counts g c = c.in-Err.ensures.counts

pub returns-in-Ok-from_slice-clause-head : goal.returns-in-Ok-from_slice-clause-head
returns-in-Ok-from_slice-clause-head g c = head_stays g.D.Door.tells c.args.intake.now c.take_sized.new.intake c.args.head
    c.in-Ok.ensures.takes c.requires.head

pub returns-in-Err-from_slice-clause-head : goal.returns-in-Err-from_slice-clause-head
returns-in-Err-from_slice-clause-head g c = head_stays g.D.Door.tells c.args.intake.now c.take_sized.new.intake c.args.head
    c.in-Ok.ensures.takes c.requires.head
