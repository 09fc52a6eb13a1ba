use Rattle.std.proofs.Common.{◌≡◌, ◌∙◌, ap, ◌+◌, ◌-◌, ◌++◌, take, drop, rules, arith}
use Rattle.std.specs.Vec.{with_items}
use Rattle.std.proofs.lemmas.List.{with_items_is, places}
use Rattle.journal_records.specs.Reading.{Seen}
use Rattle.journal_records.proofs.window.Window.grow.Goals as goal

pub returns-clause-bytes : goal.returns-clause-bytes
returns-clause-bytes g c = λ tells.
    let at = c.self.inside.at in
    let held = c.self.inside.end - at in
    let more = c.args.more in
    let read = take more (drop c.args.place (g.S.Site.state c.args.site.now).image) in
    let buffer = c.self.inside.buffer in
    let first = c.to_front.new.buffer in
    let second = c.read_behind.new.buffer in
    let one : (with_items buffer first).items ≡ first = with_items_is buffer first (search (rules, places)) in
    let two : (with_items (with_items buffer first) second).items ≡ second = with_items_is (with_items buffer first) second
    (search (rules, places)) in
    let none : held + more - 0 ≡ held + more = omega arith in
    ap (λ v. take v (with_items (with_items buffer first) second).items) none ∙ ap (take (held + more)) two ∙ c.in_ok-read_behind.ensures.bytes tells
    ∙ ap (λ v. take held v ++ read) (c.deref_mut-2.ensures.value ∙ one)
    ∙ ap (λ v. v ++ read) (c.to_front.ensures.bytes ∙ ap (λ v. take held (drop at v)) c.deref_mut.ensures.value
    ∙ ap (λ (s : Seen). s.ahead) c.self.view_is)
