use Rattle.std.proofs.Common.{sym, subst, refl, ℕ, ◌+◌, List}
use Rattle.site_traits.specs.Moments.{reads-refl}
use Rattle.journal_records.specs.declared.reader.Head.{Head}
use Rattle.journal_records.specs.Reading.{HeadIs, Enters, part}
use Rattle.journal_core.specs.Back.{HasGiven}
use Rattle.journal_core.proofs.BackLemmas.{has_given, no_head, up_to_entered, none_left}
use Rattle.journal_core.proofs.back.give_next.Goals as goal

pub returns-then-is_in_batch-clause-given : goal.returns-then-is_in_batch-clause-given
returns-then-is_in_batch-clause-given g c = λ tells bs given can. (
  refl,
  has_given bs given c.args.reader.now c.give.new.self c.args.end (g.S.Site.state c.args.site.now).image can.reading c.give.ensures.given,
)

pub returns-then-is_in_batch-clause-told : goal.returns-then-is_in_batch-clause-told
returns-then-is_in_batch-clause-told g c = λ tells. reads-refl _

pub enter-requires-clause-ahead : goal.enter-requires-clause-ahead
enter-requires-clause-ahead g c = λ tells. (c.requires.told tells).2.reading.reading.ahead

pub returns-in_default : goal.returns-in_default
returns-in_default g c = record {
  given = λ tells bs given can.
      absurd (no_head bs given c.args.reader.now c.enter.new.self c.args.end (g.S.Site.state c.args.site.now).image can
      (none_left c.args.reader.now.left c.is_in_batch.result c.is_in_batch.ensures.1 c.if-is_in_batch.false)
      c.in_ok-enter.field-0 c.in_default.not-Open (c.in_ok-enter.ensures.head tells));
  told = λ tells. c.in_ok-enter.ensures.told tells;
  cause = record { done = c.in_ok-enter.ensures.cause.done; failed = tt };
}

pub returns-clause-given : goal.returns-clause-given
returns-clause-given g c = λ tells bs given can.
    let r = c.args.reader.now in
    let k = c.enter.new.self in
    let end = c.args.end in
    let a = (g.S.Site.state c.args.site.now).image in
    let b = (g.S.Site.state c.enter.new.site).image in
    let P : Head → Type 0 = λ v. HeadIs r.place (part r.place end a) v k in
    let Q : Head → Type 0 = λ v. Enters end v r k in
    let entered = subst Q c.in-Open.is c.in_ok-enter.ensures.entered in
    let up = up_to_entered bs given r k end a can
    (none_left r.left c.is_in_batch.result c.is_in_batch.ensures.1 c.if-is_in_batch.false)
    (subst P c.in-Open.is (c.in_ok-enter.ensures.head tells)) entered.1 (c.in_ok-enter.ensures.ahead tells) in
    let R : List ℕ → Type 0 = λ v. HasGiven bs (given + 1) c.give-2.new.self end v in (
      refl,
      subst R (sym (c.in_ok-enter.ensures.told tells).same) (has_given bs given k c.give-2.new.self end a up.0 c.give-2.ensures.given),
    )
