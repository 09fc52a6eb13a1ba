use Rattle.std.proofs.Common.{◌≡◌, ◌∙◌, ◌++◌, sym, ap, take, length, refl}
use Rattle.journal_records.specs.File.{header}
use Rattle.journal_core.proofs.CreateLemmas.{made_begins}
use Rattle.journal_core.proofs.Records.{header_length}
use Rattle.journal_migration.proofs.PackLemmas.{none_packed}
use Rattle.journal_migration.proofs.packing.Packing.new.Goals as goal

pub slice_bounds-extend_from_slice-end-2 : goal.slice_bounds-extend_from_slice-end-2
slice_bounds-extend_from_slice-end-2 c =
    let begins : take 32 c.made_bytes.result ≡ header c.args.manager = ap (take 32) c.made_bytes.ensures ∙ made_begins c.args.manager in
    sym (ap length begins ∙ header_length c.args.manager)

pub returns : goal.returns
returns c =
    let begins : take 32 c.made_bytes.result ≡ header c.args.manager = ap (take 32) c.made_bytes.ensures ∙ made_begins c.args.manager in
    none_packed c.args.manager _ (c.in_ok-extend_from_slice.ensures.items ∙ ap (λ v. v ++ take 32 c.made_bytes.result) c.new-bytes.ensures.items ∙ begins)
    c.new.ensures.items refl
