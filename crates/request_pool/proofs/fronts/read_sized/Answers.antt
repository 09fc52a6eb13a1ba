use Rattle.std.proofs.Common.{◌+◌, ◌≤◌, ◌<◌, length, arith}
use Rattle.http_frames.specs.declared.TheConstants.{HEAD_BYTES, BODY_BYTES}
use Rattle.http_wire.proofs.TakeLaws.{length_fits, sized_needs_more}
use Rattle.request_pool.proofs.FrontLaws.{whole_sized}
use Rattle.request_pool.proofs.fronts.read_sized.Goals as goal

pub overflow_add-len : goal.overflow_add-len
overflow_add-len c =
    let fits : c.args.head.len + c.args.length ≤ HEAD_BYTES + BODY_BYTES =
    length_fits c.args.bytes.now c.args.head c.args.length c.requires.head c.requires.sized in
    omega arith

pub returns-then-bytes-len : goal.returns-then-bytes-len
returns-then-bytes-len c = sized_needs_more c.args.bytes.now c.args.head c.args.length c.requires.head c.requires.sized
    c.if-bytes-len.true

pub returns : goal.returns
returns c = whole_sized c.args.bytes.now c.args.head c.args.length c.requires.head c.requires.sized (omega (arith, c.if-bytes-len.false))
