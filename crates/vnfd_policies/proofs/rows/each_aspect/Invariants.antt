-- What was found, and the aspects that are left, are all aspects.
use Rattle.std.proofs.Common.{◌≡◌, ◌++◌, map, drop}
use Rattle.vnfd_document.specs.Seen.{seen}
use Rattle.vnfd_policies.specs.Rows.{aspect_of}
use Rattle.vnfd_policies.proofs.rows.each_aspect.Given as goal

abbrev pub invariant-loop-aspect : goal.invariant-loop-aspect
invariant-loop-aspect l =
    map (aspect_of (map seen l.fn.vdus) (map seen l.fn.policies)) (map seen l.fn.aspects)
    ≡ l.found.items ++ map (aspect_of (map seen l.vdus) (map seen l.policies)) (map seen (drop l.aspect-index l.aspects))
