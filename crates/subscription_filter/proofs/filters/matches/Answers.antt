use Rattle.std.proofs.Common.{Bool, ap, sym, ◌&&◌, ◌∙◌}
use Rattle.subscription_filter.proofs.AdmitLaws.{halves_admit}
use Rattle.subscription_filter.specs.Facts.{facts_in}
use Rattle.subscription_filter.specs.Parts.{texts_admit}
use Rattle.subscription_filter.proofs.filters.matches.Goals as goal

pub returns-then-admits_words : goal.returns-then-admits_words
returns-then-admits_words c =
    let m = c.args.notice.now.manager in
    let f = c.args.filter.now in
    let n = facts_in c.args.notice.now in
    c.admits_texts.ensures ∙ sym (halves_admit m f n
    ∙ ap (λ (b : Bool). b && texts_admit m f n) (sym c.admits_words.ensures ∙ c.if-admits_words.true))

pub returns-else-admits_words : goal.returns-else-admits_words
returns-else-admits_words c =
    let m = c.args.notice.now.manager in
    let f = c.args.filter.now in
    let n = facts_in c.args.notice.now in
    c.if-admits_words.false ∙ sym (halves_admit m f n
    ∙ ap (λ (b : Bool). b && texts_admit m f n) (sym c.admits_words.ensures ∙ c.if-admits_words.false))
