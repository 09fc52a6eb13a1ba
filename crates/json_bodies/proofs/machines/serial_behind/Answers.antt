-- The text is the name, a hyphen and the number's digits.
use Rattle.std.proofs.Common.{◌++◌, ◌≡◌, rules}
use Rattle.std.specs.Prelude.{codes}
use Rattle.json_bodies.proofs.MachineLemmas.{number_found}
use Rattle.json_bodies.proofs.machines.serial_behind.Goals as goal

pub returns-clause-found : goal.returns-clause-found
returns-clause-found c =
    let parts : c.args.text.now ≡ c.args.name.now ++ (codes "-" ++ c.in_ok-digits.digits.now) = search rules in
    number_found c.args.name.now c.args.text.now c.in_ok-digits.digits.now c.whole_number.result parts c.whole_number.ensures.found
