use Rattle.std.proofs.Common.{ap, ◌∙◌, ◌++◌}
use Rattle.journal_migration.specs.Packing.{Packing}
use Rattle.journal_migration.proofs.PackLemmas.{put_held}
use Rattle.journal_migration.proofs.packing.Packing.put.Goals as goal

pub returns-clause-content : goal.returns-clause-content
returns-clause-content c =
    put_held c.extend_from_slice-2.result c.extend_from_slice-2.new.self.items c.extend_from_slice.new.self.items c.args.self.now.content
    c.args.bytes.now c.to_be_bytes.result
    c.extend_from_slice-2.ensures.items
    (c.in_ok-extend_from_slice.ensures.items ∙ ap (λ (p : Packing). p.content ++ c.to_be_bytes.result) c.self.view_is)
    c.to_be_bytes.ensures
