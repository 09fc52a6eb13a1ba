-- The first list with a fault decides.
use Rattle.std.proofs.Common.{◌∙◌, ap, sym}
use Rattle.json_bodies.specs.Tables.{fault_in}
use Rattle.json_bodies.proofs.SubscriptionLemmas.{failed, gave_up, passed}
use Rattle.json_bodies.proofs.TableLemmas.{fault_stays}
use Rattle.json_bodies.proofs.subscribing.check_filter.Goals as goal

pub returns-in_err-check_values-2 : goal.returns-in_err-check_values-2
returns-in_err-check_values-2 c =
    ap fault_in (gave_up _ _ c.from_residual-in_err-check_values-2.ensures.1) ∙ (
    passed _ _ _ c.in_ok-check_about.ensures (λ about.
    passed _ _ _ c.in_ok-check_values.ensures (λ notices.
    failed _ _ _ c.in_err-check_values-2.ensures)))

pub returns : goal.returns
returns c =
    passed _ _ _ c.in_ok-check_about.ensures (λ about.
    passed _ _ _ c.in_ok-check_values.ensures (λ notices.
    passed _ _ _ c.in_ok-check_values-2.ensures (λ operations.
    c.check_values-3.ensures ∙ sym (fault_stays _ _))))
