-- The descriptor that the row names is there.
use Rattle.std.proofs.Common.{ap, sym, ◌∙◌, true≢false}
use Rattle.std.specs.Prelude.{is_some}
use Rattle.lcm_api.proofs.OccurrenceLemmas.{shows_row}
use Rattle.lcm_api.proofs.occurrences.show_row.Goals as goal

pub unreachable-requires : goal.unreachable-requires
unreachable-requires g c =
    let it = c.requires.showable in
    let stands = c.instances.ensures.rows it.0 it.1 in
    let named = rw (c.name.ensures, c.in_default.is, stands) at c.vnfd.ensures.named in
    absurd (true≢false (sym it.2.onboarded ∙ ap is_some (sym named)))

pub returns : goal.returns
returns g c = λ H keeps showable.
    let stands = c.instances.ensures.rows H keeps in
    let named = rw (c.name.ensures, c.in-Some.is, stands) at c.vnfd.ensures.named in
    shows_row _ H _ _ _ _ _ _ (sym named) (rw c.number.ensures at c.in_ok-body.ensures) c.shown.ensures
