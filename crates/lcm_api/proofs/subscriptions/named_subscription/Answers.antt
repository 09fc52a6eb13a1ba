-- The number that was read decides, and the role of its row.
use Rattle.std.proofs.Common.{◌∙◌, arith, sym, None, Some}
use Rattle.lcm_model.specs.Work.{window}
use Rattle.vnfm_base.specs.declared.identifier.Kind.TheVariants.{Subscription}
use Rattle.lcm_api.proofs.IdentLemmas.{IsReading}
use Rattle.lcm_api.proofs.SubscriptionLemmas.{named_gone, named_none, named_other, named_own, row_numbered}
use Rattle.lcm_api.proofs.subscriptions.named_subscription.Goals as goal

pub returns-in_err-n-clause-named : goal.returns-in_err-n-clause-named
returns-in_err-n-clause-named g c = λ H keeps.
    let few = c.instances-table.ensures.few H keeps in
    let reading : IsReading Subscription c.number.result c.as_bytes.result.now None = record { has = tt; only = c.in_err-n.ensures.read } in
    rw c.from_residual.ensures (rw (c.number.ensures, c.as_bytes.ensures.value) at
    (named_none window _ _ H c.args.role _ keeps.kept.legal (omega (arith, few)) reading))

pub returns-in_err-row-clause-named : goal.returns-in_err-row-clause-named
returns-in_err-row-clause-named g c = λ H keeps.
    let few = c.instances-table.ensures.few H keeps in
    let stands = c.instances-table.ensures.rows H keeps in
    let reading : IsReading Subscription c.number.result c.as_bytes.result.now (Some c.in_ok-n.n) =
    record { has = c.in_ok-n.ensures.found; only = c.in_ok-n.ensures.read } in
    rw c.from_residual-in_err-row.ensures (rw (c.number.ensures, c.as_bytes.ensures.value) at
    (named_gone window _ _ H c.args.role _ _ keeps.kept.legal (omega (arith, few)) reading
    (c.in_err-row.ensures.finds window _ H keeps.kept.legal stands)))

pub returns-then-is_own-clause-named : goal.returns-then-is_own-clause-named
returns-then-is_own-clause-named g c = λ H keeps.
    let few = c.instances-table.ensures.few H keeps in
    let stands = c.instances-table.ensures.rows H keeps in
    let reading : IsReading Subscription c.number.result c.as_bytes.result.now (Some c.in_ok-n.n) =
    record { has = c.in_ok-n.ensures.found; only = c.in_ok-n.ensures.read } in
    rw (c.number.ensures, c.as_bytes.ensures.value) at
    (named_own window _ _ H c.args.role _ _ c.in_ok-row.row.now keeps.kept.legal (omega (arith, few)) reading
    (c.in_ok-row.ensures.finds window _ H keeps.kept.legal stands) (sym c.is_own.ensures ∙ c.if-is_own.true))

pub returns-then-is_own-clause-number : goal.returns-then-is_own-clause-number
returns-then-is_own-clause-number g c =
    let H = c.requires.kept.0 in
    let keeps = c.requires.kept.1 in
    let few = c.instances-table.ensures.few H keeps in
    let stands = c.instances-table.ensures.rows H keeps in
    row_numbered window _ H _ c.in_ok-row.row.now keeps.kept.legal (omega (arith, few))
    (c.in_ok-row.ensures.finds window _ H keeps.kept.legal stands)

pub returns-else-is_own-clause-named : goal.returns-else-is_own-clause-named
returns-else-is_own-clause-named g c = λ H keeps.
    let few = c.instances-table.ensures.few H keeps in
    let stands = c.instances-table.ensures.rows H keeps in
    let reading : IsReading Subscription c.number.result c.as_bytes.result.now (Some c.in_ok-n.n) =
    record { has = c.in_ok-n.ensures.found; only = c.in_ok-n.ensures.read } in
    rw (c.number.ensures, c.as_bytes.ensures.value) at
    (named_other window _ _ H c.args.role _ _ c.in_ok-row.row.now keeps.kept.legal (omega (arith, few)) reading
    (c.in_ok-row.ensures.finds window _ H keeps.kept.legal stands) (sym c.is_own.ensures ∙ c.if-is_own.false))
