-- A text in which `://` stands is parsed as it is, and another one behind `http://`.
use Rattle.std.proofs.Common.{rules, subst, Ok, None, ◌≡◌}
use Rattle.url.specs.Parser.{parse_url}
use Rattle.http_peers.specs.Targets.{Finds}
use Rattle.http_peers.proofs.TargetLemmas.{lacks_scheme, named_found, names_scheme, unnamed_found}
use Rattle.http_peers.proofs.targets.url_of.Goals as goal

pub returns-then-contains : goal.returns-then-contains
returns-then-contains c =
    named_found c.args.text.now c.parsed.result (names_scheme c.args.text.now c.if-contains.ensures.cases) c.parsed.ensures

pub returns-in-Ok : goal.returns-in-Ok
returns-in-Ok c =
    unnamed_found c.args.text.now c.parsed-in-Ok.result (lacks_scheme c.args.text.now c.if-contains.ensures.cases)
    (subst (λ text. Finds (λ url. parse_url None text ≡ Ok url) c.parsed-in-Ok.result) (search rules) c.parsed-in-Ok.ensures)
