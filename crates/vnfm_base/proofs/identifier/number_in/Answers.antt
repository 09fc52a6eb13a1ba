use Rattle.std.proofs.Common.{◌≡◌, ap, sym, ◌∙◌, true, false}
use Rattle.uuid.specs.Text.{parsed}
use Rattle.vnfm_base.specs.Ident.{ident}
use Rattle.vnfm_base.proofs.IdentLemmas.{parsed-ident, parsed-same}
use Rattle.vnfm_base.proofs.identifier.number_in.Goals as goal

pub returns-in-Ok-clause-number : goal.returns-in-Ok-clause-number
returns-in-Ok-clause-number c manager kind n range is =
    c.number_of.ensures.number n range (parsed-same c.args.text.now c.in-Ok.id manager kind n (c.in-Ok.ensures {u = tt}).bytes is)

pub returns-in-Err-clause-number : goal.returns-in-Err-clause-number
returns-in-Err-clause-number c manager kind n range is =
    let e : false ≡ true = (c.in-Err.ensures {u = tt}).ok.1 (ident manager kind n, ap parsed is ∙ sym (parsed-ident manager kind n)) in
    absurd cc
