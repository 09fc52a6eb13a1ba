-- The name comes last.
use Rattle.std.proofs.Common.{[], ◌≡◌, ◌∷◌, ◌++◌, ◌∙◌, ap, sym, List, ℕ, length}
use Rattle.occ_table.specs.Descriptors.{named_by}
use Rattle.occ_table.proofs.VnfdLaws.{named_anew}
use Rattle.occ_table.proofs.vnfds.put_among.Goals as goal

pub returns-then-at-len-clause-named : goal.returns-then-at-len-clause-named
returns-then-at-len-clause-named c = λ ns each.
    let names : List (List ℕ) = c.args.names.now.items in
    let last : c.place_among-at.result ≡ length names = c.if-at-len.true ∙ c.len.ensures ∙ sym c.as_slice.ensures.len
    ∙ ap (λ (xs : List (List ℕ)). length xs) c.as_slice.ensures.value in
    ap (λ (xs : List (List ℕ)). named_by xs (ns ++ c.place_among-at.result ∷ [])) c.push_reserved.ensures.items
    ∙ named_anew names c.args.name ns c.place_among-at.result last each
