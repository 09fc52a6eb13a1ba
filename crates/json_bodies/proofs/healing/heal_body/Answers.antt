-- No more texts are read than the list may have.
use Rattle.std.proofs.Common.{◌≤◌, length, subst, sym, List, ℕ}
use Rattle.json_bodies.specs.Body.{name_in}
use Rattle.std.specs.Prelude.{codes}
use Rattle.serde_json.specs.View.{view}
use Rattle.json_bodies.proofs.ListLemmas.{optional_few}
use Rattle.json_bodies.proofs.healing.heal_body.Goals as goal

pub returns-clause-few : goal.returns-clause-few
returns-clause-few c = subst (λ (names : List (List ℕ)). length names ≤ 512) (sym c.names_or_none.ensures)
    (optional_few name_in 512 (codes "vnfcInstanceId") (view c.args.value.now) c.in_ok-named.named c.in_ok-named.ensures.gives)
