-- The first target that is out of step is among those that are left.
use Rattle.std.proofs.Common.{◌≡◌, map, drop}
use Rattle.vnfd_document.specs.Checks.{first_failing}
use Rattle.vnfd_reader.specs.Counted.{aim_refusal}
use Rattle.vnfd_reader.specs.CountsSeen.{aim_seen}
use Rattle.vnfd_reader.proofs.steps.refuse_each.Given as goal

abbrev pub invariant-loop-aim : goal.invariant-loop-aim
invariant-loop-aim l =
    first_failing (aim_refusal l.fn.counts l.fn.number l.fn.level) (map aim_seen l.fn.aims)
    ≡ first_failing (aim_refusal l.counts l.number l.level) (map aim_seen (drop l.aim-index l.aims))
