use Rattle.std.proofs.Common.{refl}
use Rattle.site_traits.specs.Moments.{reads-refl}
use Rattle.std.proofs.Common.{◌≡◌, ◌∙◌, sym, ℕ, [], length, get_or, Option, Some, None, arith}
use Rattle.site_traits.specs.Moments.{reads-then}
use Rattle.old_journal.specs.File.{records}
use Rattle.old_journal.proofs.BackLemmas.{stands_at, mark_next}
use Rattle.old_journal.proofs.back.place_of.Goals as goal

pub size_at-requires-clause-told : goal.size_at-requires-clause-told
size_at-requires-clause-told g c = λ tells.
    let a = g.S.Site.state c.args.site.now in
    let rs = records a.image in
    let told = c.requires.told tells in
    let within = told.0.within in
    let mark = c.loop.invariant.mark tells in
    let here = stands_at c.args.n c.args.end c.loop.counter c.loop.place a (g.S.Site.state c.loop.site) told.0
    (c.loop.invariant.told tells)
    (omega (arith, c.loop-test.true)) mark.place in
    (get_or rs c.loop.counter [], here)

pub returns-in_err-size-clause-told : goal.returns-in_err-size-clause-told
returns-in_err-size-clause-told g c = λ tells. reads-then _ _ _ (c.loop.invariant.told tells)
    (c.size_at.ensures.told tells)

pub returns-in-None-clause-place : goal.returns-in-None-clause-place
returns-in-None-clause-place g c = λ tells.
    let a = g.S.Site.state c.args.site.now in
    let rs = records a.image in
    let told = c.requires.told tells in
    let within = told.0.within in
    let mark = c.loop.invariant.mark tells in
    let here = stands_at c.args.n c.args.end c.loop.counter c.loop.place a (g.S.Site.state c.loop.site) told.0
    (c.loop.invariant.told tells)
    (omega (arith, c.loop-test.true)) mark.place in
    let found = c.in_ok-size.ensures.size tells (get_or rs c.loop.counter []) here in
    let wrong : ◌≡◌ {A = Option ℕ} None (Some (length (get_or rs c.loop.counter []))) = sym c.in-None.is ∙ found in
    absurd (cc wrong)

pub returns-in-None-clause-told : goal.returns-in-None-clause-told
returns-in-None-clause-told g c = λ tells. reads-then _ _ _ (c.loop.invariant.told tells) (c.size_at.ensures.told tells)

pub loop-preserved : goal.loop-preserved
loop-preserved g c = record {
  mark = λ tells.
      let a = g.S.Site.state c.args.site.now in
      let rs = records a.image in
      let told = c.requires.told tells in
      let within = told.0.within in
      let mark = c.loop.invariant.mark tells in
      let here = stands_at c.args.n c.args.end c.loop.counter c.loop.place a (g.S.Site.state c.loop.site) told.0
      (c.loop.invariant.told tells) (omega (arith, c.loop-test.true)) mark.place in
      let found = c.in_ok-size.ensures.size tells (get_or rs c.loop.counter []) here in
      let same : ◌≡◌ {A = Option ℕ} (Some c.in-Some.size) (Some (length (get_or rs c.loop.counter []))) =
      sym c.in-Some.is ∙ found in
      mark_next rs c.loop.counter c.loop.place c.in-Some.size (omega (arith, c.loop-test.true)) mark (cc same);
  told = λ tells. reads-then _ _ _ (c.loop.invariant.told tells) (c.size_at.ensures.told tells);
  counts = c.in_ok-size.ensures.cause.done ∙ c.loop.invariant.counts;
}

pub loop-init : goal.loop-init
loop-init g c = record { mark = λ tells. (c.requires.told tells).1; told = λ tells. reads-refl _; counts = refl }
