use Rattle.std.proofs.Common.{◌≡◌, ◌+◌, ◌-◌, ◌≤◌, ◌<◌, List, ℕ, length, drop, arith}
use Rattle.std.proofs.lemmas.List.{length-drop}
use Rattle.http_frames.specs.declared.TheConstants.{HEAD_BYTES, CHUNKED_BYTES}
use Rattle.http_wire.proofs.TakeLaws.{chunked_end_fits, chunked_needs_more}
use Rattle.request_pool.proofs.FrontLaws.{whole_chunked, chunked_breaks, chunked_overflows, chunked_goes_on}
use Rattle.request_pool.proofs.fronts.read_chunked.Goals as goal

pub overflow_add-result : goal.overflow_add-result
overflow_add-result c =
    let v = rw c.in-Ok-Whole.field-0-is at c.in-Ok-Whole.ensures.verdict in
    let fits : c.args.head.len + c.in-Ok-Whole.count ≤ HEAD_BYTES + CHUNKED_BYTES =
    chunked_end_fits c.args.bytes.now c.args.head c.in-Ok-Whole.count c.requires.head v.1 in
    omega arith

pub returns-in-Ok-Whole-clause-front : goal.returns-in-Ok-Whole-clause-front
returns-in-Ok-Whole-clause-front c =
    let v = rw c.in-Ok-Whole.field-0-is at c.in-Ok-Whole.ensures.verdict in
    whole_chunked c.args.bytes.now c.args.head c.in-Ok-Whole.count c.decode_held.new.decoder.body.items c.requires.head c.requires.chunked v

pub returns-then-behind-gt-CHUNKED_BYTES-clause-front : goal.returns-then-behind-gt-CHUNKED_BYTES-clause-front
returns-then-behind-gt-CHUNKED_BYTES-clause-front c =
    let v = rw c.in-Ok-More.field-0-is at c.in-Ok-More.ensures.verdict in
    let behind : length (drop c.args.head.len c.args.bytes.now) ≡ length c.args.bytes.now - c.args.head.len =
    length-drop c.args.head.len c.args.bytes.now in
    chunked_goes_on c.args.bytes.now c.args.head c.requires.head c.requires.chunked (omega arith) v

pub returns-else-behind-gt-CHUNKED_BYTES-clause-front : goal.returns-else-behind-gt-CHUNKED_BYTES-clause-front
returns-else-behind-gt-CHUNKED_BYTES-clause-front c =
    let v = rw c.in-Ok-More.field-0-is at c.in-Ok-More.ensures.verdict in
    let behind : length (drop c.args.head.len c.args.bytes.now) ≡ length c.args.bytes.now - c.args.head.len =
    length-drop c.args.head.len c.args.bytes.now in
    chunked_needs_more c.args.bytes.now c.args.head c.requires.head c.requires.chunked (omega arith) v

pub returns-in-Ok-Malformed-clause-front : goal.returns-in-Ok-Malformed-clause-front
returns-in-Ok-Malformed-clause-front c =
    chunked_breaks c.args.bytes.now c.args.head c.requires.head c.requires.chunked
    (rw c.in-Ok-Malformed.field-0-is at c.in-Ok-Malformed.ensures.verdict)

pub returns-in-Ok-TooLarge-clause-front : goal.returns-in-Ok-TooLarge-clause-front
returns-in-Ok-TooLarge-clause-front c =
    chunked_overflows c.args.bytes.now c.args.head c.requires.head c.requires.chunked
    (rw c.in-Ok-TooLarge.field-0-is at c.in-Ok-TooLarge.ensures.verdict)
