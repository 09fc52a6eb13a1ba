use Rattle.std.proofs.Common.{◌∙◌}
use Rattle.occ_table.specs.declared.used.Used.{Used}
use Rattle.occ_table.proofs.PackedLaws.{holds_names}
use Rattle.occ_table.proofs.used.PackedUsed.of.Goals as goal

pub invariant_of-result : goal.invariant_of-result
invariant_of-result c =
    let used : Used = c.args.used.now in
    holds_names _ used.resource used.place.vim used.place.zone _ _
    (c.shrink_to_fit.ensures.items ∙ c.write_names.ensures.names) c.len.ensures.value c.len-2.ensures.value
    c.len.ensures.name c.len-2.ensures.name c.write_names.ensures.zone
