use Rattle.std.proofs.Common.{arith, ◌∙◌, sym, ap}
use Rattle.std.specs.Prelude.{set}
use Rattle.instance_table.specs.declared.going.Going.{Going}
use Rattle.instance_table.proofs.Sorted.{not_within, update-past, update-set}
use Rattle.instance_table.specs.Steps.{placed}
use Rattle.instance_table.proofs.going.place_at.Goals as goal

pub returns-in-Some-clause-items : goal.returns-in-Some-clause-items
returns-in-Some-clause-items c =
    let going = c.args.going.now.items in
    let found : Going = c.in-Some.found.now in
    ap (λ (g : Going). set going c.args.at g) c.follow_grant.ensures
    ∙ update-set (placed c.args.occ c.args.placing) c.args.at going found (c.in-Some.ensures.item.3.0) (c.in-Some.ensures.item.1)

pub returns-in-None-clause-items : goal.returns-in-None-clause-items
returns-in-None-clause-items c =
    sym (update-past (placed c.args.occ c.args.placing) c.args.at c.args.going.now.items
    (not_within c.args.at _ (λ h. c.in-None.ensures.variant.1 (omega (arith, h, c.args.going.now.ok.0)))))
