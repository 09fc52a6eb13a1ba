use Rattle.std.proofs.Common.{◌≡◌, inr, ⊎_elim, sym, ◌∙◌, ◌≤◌, get_or}
use Rattle.std.proofs.lemmas.Bool.{false≢true}
use Rattle.std.proofs.lemmas.Bool.Decides.{Decides-eqb}
use Rattle.old_journal.specs.File.{header}
use Rattle.old_journal.proofs.header.stands.Goals as goal

pub returns : goal.returns
unfolding header
returns c =
    let place = c.args.place in
    let byte = get_or c.args.front.now place 0 in
    let d = Decides-eqb byte (get_or (header 0) place 0) in (
      λ t. record { there = c.if-place-front.false; right = inr (d.0 t) },
      λ may. ⊎_elim (λ (number : (9 ≤ place) × (place ≤ 12)). absurd
          (false≢true (sym c.if-is_of_number.false ∙ c.is_of_number.ensures.1 number)))
          (λ (is : byte ≡ get_or (header 0) place 0). d.1 is) may.right,
    )
