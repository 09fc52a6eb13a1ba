use Rattle.std.proofs.Common.{sym, subst}
use Rattle.std.proofs.lemmas.Bool.{lt-ltb}
use Rattle.std.specs.Prelude.{Bool, true, [], ◌∷◌}
use Rattle.site_traits.specs.Counts.{Asks}
use Rattle.site_traits.specs.Counts.Ask.{cut, sync}
use Rattle.journal_core.specs.Asking.{to_make, through}
use Rattle.journal_core.proofs.CreateLemmas.{steps_then}
use Rattle.journal_core.proofs.AskLemmas.{asks_failed, asks_then, stops_more}
use Rattle.journal_core.proofs.create.make_anew.Goals as goal

pub returns-in_err-shorten-clause-asks : goal.returns-in_err-shorten-clause-asks
returns-in_err-shorten-clause-asks g c =
    let a = g.S.Site.counts c.args.site.now in
    let b = g.S.Site.counts c.shorten.new.site in
    let P : Bool → Type 0 = λ v. Asks (to_make v) c.from_residual.result a b in
    subst P (sym (lt-ltb 1 c.args.len c.if-len-gt1.true)) (asks_failed (to_make true) c.from_residual.result a b c.from_residual.ensures.0
    (stops_more (cut ∷ sync ∷ []) (through 3) a b c.in_err-shorten.ensures.asks.failed))

pub returns-then-len-gt1-clause-told : goal.returns-then-len-gt1-clause-told
returns-then-len-gt1-clause-told g c = λ tells.
    steps_then _ _ _ _ _ _ _ _ _ (c.in_ok-shorten.ensures.told tells) (c.make.ensures.told tells)

pub returns-then-len-gt1-clause-asks : goal.returns-then-len-gt1-clause-asks
returns-then-len-gt1-clause-asks g c =
    let a = g.S.Site.counts c.args.site.now in
    let b = g.S.Site.counts c.make.new.site in
    let P : Bool → Type 0 = λ v. Asks (to_make v) c.make.result a b in
    subst P (sym (lt-ltb 1 c.args.len c.if-len-gt1.true)) (asks_then (cut ∷ sync ∷ []) (through 3) c.make.result (g.S.Site.counts c.args.site.now) (g.S.Site.counts c.shorten.new.site)
    (g.S.Site.counts c.make.new.site)
    c.in_ok-shorten.ensures.asks.done c.make.ensures.asks)
