use Rattle.std.proofs.Common.{◌≡◌, ◌∙◌, sym, ap, subst, ⊎_elim, ◌+◌, ◌-◌, ◌≤◌, ◌<◌, take, drop, length, get_or, ℕ, List, arith}
use Rattle.std.proofs.lemmas.Bool.{false≢true, cases_lt}
use Rattle.site_traits.specs.Moments.{reads-then}
use Rattle.journal_records.specs.Head.{IsClosed, IsOpen, IsBroken}
use Rattle.journal_records.specs.Reading.{Reading, Seen, part, AreAhead, AreRecords, BeginWithHead, BeginWithNoHead}
use Rattle.journal_records.proofs.HeadLemmas.{closed_there, no_head_there, no_content_there, open_there, ahead_passed}
use Rattle.journal_records.proofs.reader.Reader.enter.Goals as goal

pub returns-then-as_slice-ne1-clause-head : goal.returns-then-as_slice-ne1-clause-head
returns-then-as_slice-ne1-clause-head g c = λ tells.
    let image = (g.S.Site.state c.args.site.now).image in
    let w = c.fill.new.window.ahead in
    let end = c.args.end in
    let place : c.self.inside.place ≡ c.args.self.now.place = ap (λ (r : Reading). r.place) c.self.view_is in
    let P : ℕ → Type 0 = λ v. IsClosed (part v end image) in
    subst P place (closed_there c.self.inside.place end image w (c.in_ok-fill.ensures.ahead tells) (omega (arith, c.len.ensures.value, c.if-len-eq0.false))
    (λ one. c.if-as_slice-ne1.true (ap (λ v. get_or v 0 0) c.as_slice.ensures ∙ one)))

pub returns-in_default-clause-head : goal.returns-in_default-clause-head
returns-in_default-clause-head g c = λ tells.
    let image = (g.S.Site.state c.args.site.now).image in
    let w = c.fill.new.window.ahead in
    let end = c.args.end in
    let place : c.self.inside.place ≡ c.args.self.now.place = ap (λ (r : Reading). r.place) c.self.view_is in
    let P : ℕ → Type 0 = λ v. IsBroken v (part v end image) in
    let Q : List ℕ → Type 0 = λ v. BeginWithNoHead v c.self.inside.place end in
    subst P place (no_head_there c.self.inside.place end image w (c.in_ok-fill.ensures.ahead tells)
    (omega (arith, c.len.ensures.value, c.if-len-eq0.false))
    (sym (ap (λ v. get_or v 0 0) c.as_slice.ensures) ∙ c.if-as_slice-ne1.false) c.in_ok-fill.ensures.enough
    (subst Q c.as_slice-2.ensures c.in_default.ensures))

pub returns-in_err-fill-2-clause-told : goal.returns-in_err-fill-2-clause-told
returns-in_err-fill-2-clause-told g c = λ tells. reads-then _ _ _ (c.in_ok-fill.ensures.told tells) (c.in_err-fill-2.ensures.told tells)

pub returns-then-not-are_records-clause-head : goal.returns-then-not-are_records-clause-head
returns-then-not-are_records-clause-head g c = λ tells.
    let image = (g.S.Site.state c.args.site.now).image in
    let w = c.fill.new.window.ahead in
    let v = c.fill-2.new.window.ahead in
    let end = c.args.end in
    let size = c.in-Some.size in
    let at = c.self.inside.place in
    let place : at ≡ c.args.self.now.place = ap (λ (r : Reading). r.place) c.self.view_is in
    let R : List ℕ → Type 0 = λ i. AreAhead at v end i in
    let ahead : AreAhead at v end image = subst R (c.in_ok-fill.ensures.told tells).same (c.in_ok-fill-2.ensures.ahead tells) in
    let Q : List ℕ → Type 0 = λ x. BeginWithHead x at end size in
    let head : BeginWithHead w at end size = subst Q c.as_slice-2.ensures c.in-Some.ensures in
    let long : 5 + size ≤ length v =
    ⊎_elim (λ (lt : length v < 5 + size). absurd (let over = c.in_ok-fill-2.ensures.enough lt in omega (arith, head.ends.whole, over)))
    (λ (le : 5 + size ≤ length v). le) (cases_lt (length v) (5 + size)) in
    let gate : get_or w 0 0 ≡ 1 = sym (ap (λ x. get_or x 0 0) c.as_slice.ensures) ∙ c.if-as_slice-ne1.false in
    let count : 5 + size - 5 ≡ size = omega arith in
    let same : take (5 + size - 5) (drop 5 c.as_slice-3.result.now) ≡ take size (drop 5 v) =
    ap (λ k. take k (drop 5 c.as_slice-3.result.now)) count ∙ ap (λ x. take size (drop 5 x)) c.as_slice-3.ensures in
    let A : List ℕ → Type 0 = λ x. AreRecords x in
    let P : ℕ → Type 0 = λ x. IsBroken x (part x end image) in
    subst P place (no_content_there at end image w v size (c.in_ok-fill.ensures.ahead tells) ahead head long gate
    (λ are. false≢true (sym c.if-not-are_records.true ∙ c.are_records.ensures.1 (subst A (sym same) are))))

pub returns-then-not-are_records-clause-told : goal.returns-then-not-are_records-clause-told
returns-then-not-are_records-clause-told g c = λ tells. reads-then _ _ _ (c.in_ok-fill.ensures.told tells) (c.in_ok-fill-2.ensures.told tells)

pub returns-clause-head : goal.returns-clause-head
returns-clause-head g c = λ tells.
    let image = (g.S.Site.state c.args.site.now).image in
    let w = c.fill.new.window.ahead in
    let v = c.fill-2.new.window.ahead in
    let end = c.args.end in
    let size = c.in-Some.size in
    let at = c.self.inside.place in
    let place : at ≡ c.args.self.now.place = ap (λ (r : Reading). r.place) c.self.view_is in
    let R : List ℕ → Type 0 = λ i. AreAhead at v end i in
    let ahead : AreAhead at v end image = subst R (c.in_ok-fill.ensures.told tells).same (c.in_ok-fill-2.ensures.ahead tells) in
    let Q : List ℕ → Type 0 = λ x. BeginWithHead x at end size in
    let head : BeginWithHead w at end size = subst Q c.as_slice-2.ensures c.in-Some.ensures in
    let long : 5 + size ≤ length v =
    ⊎_elim (λ (lt : length v < 5 + size). absurd (let over = c.in_ok-fill-2.ensures.enough lt in omega (arith, head.ends.whole, over)))
    (λ (le : 5 + size ≤ length v). le) (cases_lt (length v) (5 + size)) in
    let gate : get_or w 0 0 ≡ 1 = sym (ap (λ x. get_or x 0 0) c.as_slice.ensures) ∙ c.if-as_slice-ne1.false in
    let count : 5 + size - 5 ≡ size = omega arith in
    let same : take (5 + size - 5) (drop 5 c.as_slice-3.result.now) ≡ take size (drop 5 v) =
    ap (λ k. take k (drop 5 c.as_slice-3.result.now)) count ∙ ap (λ x. take size (drop 5 x)) c.as_slice-3.ensures in
    let A : List ℕ → Type 0 = λ x. AreRecords x in
    let passed : c.pass.new.self.ahead ≡ drop 5 v = ap (λ (s : Seen). s.ahead) c.pass.ensures in
    let found = open_there at end image w v size (c.in_ok-fill.ensures.ahead tells) ahead head long gate
    (subst A same (c.are_records.ensures.0 c.if-not-are_records.false)) in
    let P : ℕ → Type 0 = λ x. IsOpen x found.0 (part x end image) in
    (found.0, subst P place found.1, ap (take size) passed ∙ found.2, found.3)

pub returns-clause-ahead : goal.returns-clause-ahead
returns-clause-ahead g c = λ tells.
    let image = (g.S.Site.state c.args.site.now).image in
    let w = c.fill.new.window.ahead in
    let v = c.fill-2.new.window.ahead in
    let end = c.args.end in
    let size = c.in-Some.size in
    let at = c.self.inside.place in
    let place : at ≡ c.args.self.now.place = ap (λ (r : Reading). r.place) c.self.view_is in
    let R : List ℕ → Type 0 = λ i. AreAhead at v end i in
    let ahead : AreAhead at v end image = subst R (c.in_ok-fill.ensures.told tells).same (c.in_ok-fill-2.ensures.ahead tells) in
    let Q : List ℕ → Type 0 = λ x. BeginWithHead x at end size in
    let head : BeginWithHead w at end size = subst Q c.as_slice-2.ensures c.in-Some.ensures in
    let passed : c.pass.new.self.ahead ≡ drop 5 v = ap (λ (s : Seen). s.ahead) c.pass.ensures in
    let P : List ℕ → Type 0 = λ x. AreAhead (at + 5) x end image in
    subst P (sym passed) (ahead_passed at end 5 v image ahead (omega (arith, c.in_ok-fill-2.ensures.enough, head.ends.whole)))

pub returns-clause-told : goal.returns-clause-told
returns-clause-told g c = λ tells. reads-then _ _ _ (c.in_ok-fill.ensures.told tells) (c.in_ok-fill-2.ensures.told tells)
