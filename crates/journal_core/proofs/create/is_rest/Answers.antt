use Rattle.std.proofs.Common.{◌≡◌, ◌∙◌, ◌-◌, sym, ap, drop, take, length}
use Rattle.std.proofs.lemmas.List.{take_rest}
use Rattle.std.proofs.lemmas.Bool.Decides.{Decides-eqb}
use Rattle.std.proofs.lemmas.Slice.Eq.{slice_eq-Decides}
use Rattle.journal_records.specs.File.{header}
use Rattle.journal_core.proofs.CreateLemmas.{header_in_made}
use Rattle.journal_core.proofs.create.is_rest.Goals as goal

pub returns-then-front-eq32 : goal.returns-then-front-eq32
returns-then-front-eq32 c =
    let front = c.args.front.now in
    let d = slice_eq-Decides Decides-eqb (take (length front - 1) (drop 1 front))
    (take 31 (drop 1 c.made_bytes-made.result)) c.eq.result c.eq.ensures in
    let rest : take 31 (drop 1 c.made_bytes-made.result) ≡ drop 1 (header c.args.manager) =
    ap (λ v. take 31 (drop 1 v)) c.made_bytes-made.ensures ∙ header_in_made c.args.manager in
    (λ t. sym (take_rest front 1) ∙ d.0 t ∙ rest, λ is. d.1 (take_rest front 1 ∙ is ∙ sym rest))
