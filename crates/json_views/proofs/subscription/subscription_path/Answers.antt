-- The path is a line.
use Rattle.json_views.proofs.PathLemmas.{subscription_line}
use Rattle.json_views.proofs.subscription.subscription_path.Goals as goal

pub returns-clause-line : goal.returns-clause-line
returns-clause-line c =
    rw (c.push_str.ensures.bytes, c.in_ok-path.ensures.ok, c.as_str.ensures.value, c.in_ok-id.ensures)
    (subscription_line _ c.args.manager c.args.n)
