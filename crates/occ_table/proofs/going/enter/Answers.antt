use Rattle.std.proofs.Common.{◌∙◌, ◌≡◌, ap, sym, List, ℕ, false, true, insert, length, slice_get, arith}
use Rattle.std.proofs.lemmas.List.Edits.{length-insert}
use Rattle.occ_table.specs.Going.{first_from, with_number}
use Rattle.occ_table.proofs.GoingLaws.{first-within, insert-with, there-with}
use Rattle.occ_table.proofs.going.enter.Goals as goal

pub returns-then-not-is_at-clause-items : goal.returns-then-not-is_at-clause-items
returns-then-not-is_at-clause-items c = λ fits.
    let ms : List ℕ = c.args.numbers.now.items in
    let n : ℕ = c.args.number in
    let at : c.place_of-at.result ≡ first_from n ms = c.place_of-at.ensures.place
    ∙ ap (λ (ks : List ℕ). first_from n ks) c.as_slice.ensures.value in
    let same : slice_get c.as_slice-2.result.now c.place_of-at.result ≡ slice_get ms (first_from n ms) =
    ap (λ (ks : List ℕ). slice_get ks c.place_of-at.result) c.as_slice-2.ensures.value ∙ ap (λ (k : ℕ). slice_get ms k) at in
    let put : insert ms (first_from n ms) n ≡ with_number n ms = insert-with n ms
    (λ there. let no : false ≡ true = sym c.if-not-is_at.true ∙ c.is_at.ensures.1 (same ∙ there) in cc) in
    let more = length-insert ms (first_from n ms) n (first-within n ms) in
    let long : length (insert ms (first_from n ms) n) ≡ length (with_number n ms) = ap length put in
    c.insert_at.ensures.items (omega (arith, fits, more, long, c.args.numbers.now.ok.0)) ∙ (ap (λ (k : ℕ). insert ms k n) at ∙ put)

pub returns-else-not-is_at-clause-items : goal.returns-else-not-is_at-clause-items
returns-else-not-is_at-clause-items c = λ fits.
    let ms : List ℕ = c.args.numbers.now.items in
    let n : ℕ = c.args.number in
    let at : c.place_of-at.result ≡ first_from n ms = c.place_of-at.ensures.place
    ∙ ap (λ (ks : List ℕ). first_from n ks) c.as_slice.ensures.value in
    let same : slice_get c.as_slice-2.result.now c.place_of-at.result ≡ slice_get ms (first_from n ms) =
    ap (λ (ks : List ℕ). slice_get ks c.place_of-at.result) c.as_slice-2.ensures.value ∙ ap (λ (k : ℕ). slice_get ms k) at in
    there-with n ms (sym same ∙ c.is_at.ensures.0 c.if-not-is_at.false)
