-- The fields of a line are the parts of what stands before its line feed.
use Rattle.std.proofs.Common.{◌∙◌}
use Rattle.vim_wire.proofs.LineLaws.{call_found, call_parts}
use Rattle.vim_wire.proofs.reading.read_call.Goals as goal

pub returns-in-Some-clause-found : goal.returns-in-Some-clause-found
returns-in-Some-clause-found c =
    let line = c.in-Some.ensures {u = tt} in
    call_found c.call_of.result c.args.bytes.now c.in-Some.fields.now c.of.result c.of.ensures line.0 line.1 c.call_of.ensures.found

pub returns-in-Some-clause-none : goal.returns-in-Some-clause-none
returns-in-Some-clause-none c = λ is call h e.
    let line = c.in-Some.ensures {u = tt} in
    c.call_of.ensures.none is call h.0 (c.of.ensures ∙ call_parts call c.in-Some.fields.now c.args.bytes.now h.0 line.1 e)
