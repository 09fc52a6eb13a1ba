-- A list that is no longer is its own front.
use Rattle.std.proofs.Common.{arith, length-take-le, sym, take_all}
use Rattle.json_bodies.proofs.machines.numbered.Goals as goal

pub slice_bounds-result-end : goal.slice_bounds-result-end
slice_bounds-result-end c = let long = c.if-vdus-le-NO_VDU.false in sym (length-take-le 65535 c.args.vdus.now (omega (arith, long)))

pub returns-then-vdus-le-NO_VDU-clause-first : goal.returns-then-vdus-le-NO_VDU-clause-first
returns-then-vdus-le-NO_VDU-clause-first c =
    let short = c.if-vdus-le-NO_VDU.true in sym (take_all 65535 c.args.vdus.now (omega (arith, short)))

pub returns-else-vdus-le-NO_VDU-clause-few : goal.returns-else-vdus-le-NO_VDU-clause-few
returns-else-vdus-le-NO_VDU-clause-few c = let long = c.if-vdus-le-NO_VDU.false in omega
    (arith, long, length-take-le 65535 c.args.vdus.now (omega (arith, long)))
