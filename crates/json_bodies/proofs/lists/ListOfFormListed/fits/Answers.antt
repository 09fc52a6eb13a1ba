-- The two tests are those of the list.
use Rattle.std.proofs.Common.{arith, sym}
use Rattle.std.proofs.lemmas.Bool.Decides.{nat_tests}
use Rattle.serde_json.specs.View.{view}
use Rattle.json_bodies.proofs.ListLemmas.{list_fits}
use Rattle.json_bodies.proofs.lists.ListOfFormListed.fits.Goals as goal

pub returns-then-len-self : goal.returns-then-len-self
returns-then-len-self g c =
    rw (list_fits (g.F.Form.says c.args.self.now.entry) c.args.self.now.most (view c.args.value.now) c.in-Some.values.now.items
    (sym c.in-Some.ensures)) (grind (arith, nat_tests))

pub returns-else-len-self : goal.returns-else-len-self
returns-else-len-self g c =
    rw (list_fits (g.F.Form.says c.args.self.now.entry) c.args.self.now.most (view c.args.value.now) c.in-Some.values.now.items
    (sym c.in-Some.ensures)) (grind (arith, nat_tests))
