use Rattle.std.proofs.Common.{arith, ◌∙◌, ℕ, max, sym, ap}
use Rattle.std.specs.Prelude.{set}
use Rattle.instance_table.proofs.Sorted.{not_within, update-past, update-set}
use Rattle.instance_table.proofs.tops.raise_at.Goals as goal

pub returns-in-Some : goal.returns-in-Some
returns-in-Some c =
    let tops = c.args.tops.now.items in
    let top : ℕ = c.in-Some.top.now in
    ap (λ (n : ℕ). set tops c.args.vdu n) c.raise.ensures
    ∙ update-set (max c.args.serial) c.args.vdu tops top (c.in-Some.ensures.item.3.0) (c.in-Some.ensures.item.1)

pub returns-in-None : goal.returns-in-None
returns-in-None c =
    sym (update-past (max c.args.serial) c.args.vdu c.args.tops.now.items
    (not_within c.args.vdu _ (λ h. c.in-None.ensures.variant.1 (omega (arith, h, c.args.tops.now.ok.0)))))
