use Rattle.std.proofs.Common.{◌∙◌, sym, ap, ◌++◌, List, arith, drop, map, set, take, ◌+◌}
use Rattle.occ_table.specs.declared.pending.Pending.{Pending}
use Rattle.occ_table.proofs.Updates.{mapped_end, mapped_step}
use Rattle.occ_table.specs.Steps.{failed_by}
use Rattle.occ_table.proofs.pending.fail_in.Goals as goal

pub loop-pending-preserved : goal.loop-pending-preserved
loop-pending-preserved c =
    let n = c.loop-pending.pending-index in
    let xs : List Pending = c.loop-pending.entries in
    let f : Pending → Pending = failed_by c.args.tag.now in
    ap (λ (x : Pending). take (n + 1) (set xs n x) ++ map f (drop (n + 1) (set xs n x))) c.fail.ensures
    ∙ (mapped_step f n xs _ (omega arith) ∙ c.loop-pending.invariant)

pub returns : goal.returns
returns c = sym (mapped_end (failed_by c.args.tag.now) c.loop-pending.pending-index c.loop-pending.entries (omega arith))
    ∙ c.loop-pending.invariant
