use Rattle.std.proofs.Common.{◌≡◌, length, take, sym, arith}
use Rattle.std.proofs.lemmas.List.{length-take-le}
use Rattle.http_frames.specs.declared.TheConstants.{HEAD_BYTES}
use Rattle.http_frames.proofs.MessageLaws.{head_long}
use Rattle.http_frames.proofs.HeadLaws.{head_is_after_take}
use Rattle.http_frames.proofs.head.read_head.Goals as goal

pub slice_bounds-read_short_head-end : goal.slice_bounds-read_short_head-end
slice_bounds-read_short_head-end c = sym (length-take-le _ c.args.bytes.now (omega arith))

pub read_short_head-requires-2-clause-short : goal.read_short_head-requires-2-clause-short
read_short_head-requires-2-clause-short c = let e : length (take 16384 c.args.bytes.now) ≡ 16384 =
    length-take-le _ c.args.bytes.now (omega arith) in omega arith

pub returns-in-More : goal.returns-in-More
returns-in-More c = head_long c.args.bytes.now c.if-bytes-le-HEAD_BYTES.false c.in-More.ensures.0 c.in-More.ensures.1

pub returns-in_default : goal.returns-in_default
returns-in_default c = head_is_after_take HEAD_BYTES c.args.bytes.now c.read_short_head-2.result c.in_default.not-More
    c.read_short_head-2.ensures
