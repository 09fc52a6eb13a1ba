-- What is seen of one part, and then of the next.
use Rattle.std.proofs.Common.{◌++◌, [], refl}
use Rattle.grant_desk.proofs.SeenLaws.{sees_both, sees_none, sees_some}
use Rattle.grant_desk.proofs.places.see_all.Goals as goal

pub returns-in_default-clause-sees : goal.returns-in_default-clause-sees
returns-in_default-clause-sees c =
    let one = rw c.as_slice.ensures at c.see_rows.ensures.sees in
    sees_none [] (c.args.rows.now.add ++ c.args.rows.now.remove) c.args.rows.now.update _ _ refl
    (sees_none [] c.args.rows.now.add c.args.rows.now.remove c.see_rows.new.room c.see_rows.result c.in_default.is one)

pub returns-in_default-see_rows-clause-sees : goal.returns-in_default-see_rows-clause-sees
returns-in_default-see_rows-clause-sees c =
    let one = rw c.as_slice.ensures at c.see_rows.ensures.sees in
    let two = rw c.as_slice-2.ensures at c.see_rows-2.ensures.sees in
    let first = sees_some [] c.args.rows.now.add c.see_rows.new.room c.see_rows.result c.in-Some.added c.in-Some.is one in
    sees_none [] (c.args.rows.now.add ++ c.args.rows.now.remove) c.args.rows.now.update _ c.see_rows-2.result c.in_default-see_rows.is
    (sees_both [] c.args.rows.now.add c.args.rows.now.remove c.in-Some.added _ _ c.see_rows-2.result first two)

pub returns-clause-sees : goal.returns-clause-sees
returns-clause-sees c =
    let one = rw c.as_slice.ensures at c.see_rows.ensures.sees in
    let two = rw c.as_slice-2.ensures at c.see_rows-2.ensures.sees in
    let three = rw c.as_slice-3.ensures at c.see_rows-3.ensures.sees in
    let first = sees_some [] c.args.rows.now.add c.see_rows.new.room c.see_rows.result c.in-Some.added c.in-Some.is one in
    let both = sees_both [] c.args.rows.now.add c.args.rows.now.remove c.in-Some.added _ _ c.see_rows-2.result first two in
    let second = sees_some [] (c.args.rows.now.add ++ c.args.rows.now.remove) c.see_rows-2.new.room c.see_rows-2.result
    c.in-Some-see_rows.removed c.in-Some-see_rows.is both in
    sees_both [] (c.args.rows.now.add ++ c.args.rows.now.remove) c.args.rows.now.update c.in-Some-see_rows.removed _ _ c.see_rows-3.result
    second three
