-- What is found by the flags is the change of the row that is attempted next.
use Rattle.std.proofs.Common.{ap, arith, sym, ◌∙◌}
use Rattle.lcm_events.specs.declared.attempts.Way.{Way}
use Rattle.lcm_events.specs.declared.attempts.Way.TheVariants.{Forward, Undo}
use Rattle.occ_steps.specs.Steps.{next_at}
use Rattle.occ_steps.proofs.StepLemmas.{found_next}
use Rattle.occ_steps.proofs.steps.next_at.Goals as goal

pub returns-in-Forward : goal.returns-in-Forward
returns-in-Forward c =
    found_next Forward c.args.row.now _ _ _ _ _ c.as_slice-changes.ensures c.as_slice-nets.ensures c.as_slice.ensures (omega arith)
    c.busy_by-flags.ensures.busy c.next_free.ensures.least
    ∙ ap (λ (w : Way). next_at w c.args.row.now) (sym c.in-Forward.is)

pub returns-in-Undo : goal.returns-in-Undo
returns-in-Undo c =
    found_next Undo c.args.row.now _ _ _ _ _ c.as_slice-changes.ensures c.as_slice-nets.ensures c.as_slice.ensures (omega arith)
    c.busy_by-flags.ensures.busy c.next_free_undo.ensures.greatest
    ∙ ap (λ (w : Way). next_at w c.args.row.now) (sym c.in-Undo.is)
