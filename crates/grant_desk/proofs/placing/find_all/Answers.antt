-- What the rows of each part found.
use Rattle.std.proofs.Common.{refl, length}
use Rattle.grant_desk.proofs.PlacingLaws.{found_places}
use Rattle.grant_desk.proofs.placing.find_all.Goals as goal

pub returns-clause-found : goal.returns-clause-found
returns-clause-found c =
    let one = rw c.as_slice.ensures at c.find_rows.ensures in
    let two = rw c.as_slice-2.ensures at c.find_rows-2.ensures in
    let three = rw c.as_slice-3.ensures at c.find_rows-3.ensures in
    found_places c.args.changes.now c.args.rows.now.add c.args.rows.now.remove c.args.rows.now.update
    (length c.args.changes.now) _ _ _ _ refl c.requires one two three
