use Rattle.std.proofs.Common.{◌≡◌, ◌∙◌, sym, ap, subst, refl, ℕ, ◌+◌, ◌-◌, [], get_or, arith}
use Rattle.std.proofs.lemmas.Bool.{false≢true}
use Rattle.site_traits.specs.Moments.{reads-refl, reads-then}
use Rattle.journal_records.specs.File.{records_of_all}
use Rattle.journal_core.specs.Journal.{IsReadUpTo}
use Rattle.journal_core.proofs.BackLemmas.{can_go_on}
use Rattle.journal_core.proofs.back.give_many.Goals as goal

pub loop-init : goal.loop-init
loop-init g c = record {
  given = λ tells bs n can. (
    (let P : ℕ → Type 0 = λ v. IsReadUpTo bs v c.args.reader.now c.args.end (g.S.Site.state c.args.site.now).image in
        subst P (let e : n ≡ n + 0 = omega arith in e) can.reading),
    λ some. absurd (omega (arith, some)),
  );
  told = λ tells. reads-refl _;
  counts = refl;
}

pub give_next-requires : goal.give_next-requires
give_next-requires g c = record {
  told = λ tells.
      let told = c.requires.told tells in
      let n = told.1 in
      let a = (g.S.Site.state c.args.site.now).image in
      let b = (g.S.Site.state c.loop.site).image in (
        told.0,
        n + c.loop.counter,
        can_go_on told.0 n c.loop.counter c.args.many c.args.reader.now c.loop.reader c.args.end a b
            (c.loop.invariant.told tells).same told.2 c.loop-test.true (c.loop.invariant.given tells told.0 n told.2).0,
      );
}

pub returns-in_err-give_next-clause-told : goal.returns-in_err-give_next-clause-told
returns-in_err-give_next-clause-told g c = λ tells. reads-then _ _ _ (c.loop.invariant.told tells) (c.give_next.ensures.told tells)

pub returns-then-not-branch-clause-given : goal.returns-then-not-branch-clause-given
returns-then-not-branch-clause-given g c = λ tells bs n can.
    let a = (g.S.Site.state c.args.site.now).image in
    let b = (g.S.Site.state c.loop.site).image in
    let on = can_go_on bs n c.loop.counter c.args.many c.args.reader.now c.loop.reader c.args.end a b
    (c.loop.invariant.told tells).same can c.loop-test.true (c.loop.invariant.given tells bs n can).0 in
    absurd (false≢true (sym c.if-not-branch.true ∙ (c.in_ok-give_next.ensures.given tells bs (n + c.loop.counter) on).0))

pub returns-then-not-branch-clause-told : goal.returns-then-not-branch-clause-told
returns-then-not-branch-clause-told g c = λ tells. reads-then _ _ _ (c.loop.invariant.told tells) (c.give_next.ensures.told tells)

pub loop-preserved : goal.loop-preserved
loop-preserved g c = record {
  given = λ tells bs n can.
      let a = (g.S.Site.state c.args.site.now).image in
      let b = (g.S.Site.state c.loop.site).image in
      let on = can_go_on bs n c.loop.counter c.args.many c.args.reader.now c.loop.reader c.args.end a b
      (c.loop.invariant.told tells).same can c.loop-test.true (c.loop.invariant.given tells bs n can).0 in
      let has = (c.in_ok-give_next.ensures.given tells bs (n + c.loop.counter) on).1 in
      let e : n + c.loop.counter + 1 ≡ n + (c.loop.counter + 1) = omega arith in
      let P : ℕ → Type 0 = λ v. IsReadUpTo bs v c.give_next.new.reader c.args.end (g.S.Site.state c.give_next.new.site).image in (
        subst P e has.reading,
        λ some. has.last ∙ ap (λ v. get_or (records_of_all bs) (v - 1) []) e,
      );
  told = λ tells. reads-then _ _ _ (c.loop.invariant.told tells) (c.give_next.ensures.told tells);
  counts = c.in_ok-give_next.ensures.cause.done ∙ c.loop.invariant.counts;
}

pub returns-clause-given : goal.returns-clause-given
returns-clause-given g c = λ tells bs n can.
    let up = c.loop.invariant.given tells bs n can in
    let some = c.requires.some in
    let e : c.loop.counter ≡ c.args.many = omega (arith, c.loop-test.false, c.loop.auto.counter-end) in
    let P : ℕ → Type 0 = λ v. IsReadUpTo bs (n + v) c.loop.reader c.args.end (g.S.Site.state c.loop.site).image in (
      refl,
      record {
        reading = subst P e up.0;
        last = up.1 (omega (arith, e, some)) ∙ ap (λ v. get_or (records_of_all bs) (n + v - 1) []) e;
      },
    )
