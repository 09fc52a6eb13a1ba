use Rattle.std.proofs.Common.{◌≡◌, ◌∙◌, sym, ap, subst, ◌+◌, ◌-◌, ◌≤◌, ◌++◌, take, drop, length, List, ℕ}
use Rattle.site_traits.specs.Moments.{reads-refl}
use Rattle.journal_records.specs.Reading.{AreAhead}
use Rattle.journal_records.proofs.WindowLemmas.{ahead_more, either_way}
use Rattle.journal_records.proofs.reader.fill.Goals as goal

pub returns-then-held-need-clause-told : goal.returns-then-held-need-clause-told
returns-then-held-need-clause-told g c = λ tells. reads-refl _

pub returns-clause-ahead : goal.returns-clause-ahead
returns-clause-ahead g c = λ tells.
    let image = (g.S.Site.state c.args.site.now).image in
    let was = c.args.window.now.ahead in
    let place = c.args.place in
    let ahead = c.requires.ahead tells in
    let held = c.len-held.ensures.value in
    let more = c.most_of-more.result in
    let room : more ≤ c.args.end - (place + length was) =
    (let t = c.most_of-more.ensures.there in let P : ℕ → Type 0 = λ v. more ≤ c.args.end - (place + v) in subst P held t) in
    either_way c.grow.result
    (λ (is : c.grow.new.self.ahead ≡ was ++ take more (drop (place + c.len-held.result) image)).
    ahead_more place c.args.end more was c.grow.new.self.ahead image ahead
    (is ∙ ap (λ v. was ++ take more (drop (place + v) image)) held) room)
    (λ (is : c.grow.new.self.ahead ≡ was).
    let P : List ℕ → Type 0 = λ v. AreAhead place v c.args.end image in subst P (sym is) ahead)
    (c.grow.ensures.bytes tells) c.grow.ensures.kept
