use Rattle.std.proofs.Common.{◌+◌, ◌≤◌, sym, subst, refl, ◌++◌, ◌∷◌, [], arith, true, false, ℕ, All}
use Rattle.site_traits.specs.Moments.{reads-refl}
use Rattle.journal_records.specs.declared.reader.Head.{Head}
use Rattle.journal_records.specs.Reading.{AreAhead, HeadIs, Enters, part}
use Rattle.journal_core.specs.declared.marks.Mark.{Mark}
use Rattle.journal_core.specs.Marks.{IsMark, Kept, AreUpTo}
use Rattle.journal_core.specs.Load.{Progress, Loads}
use Rattle.journal_core.proofs.BackLemmas.{none_left}
use Rattle.journal_core.proofs.LoadLemmas.{loads_given, loads_entered, loads_end, loads_broken, loads_unended}
use Rattle.journal_core.proofs.MarkLemmas.{all_of_more}
use Rattle.journal_core.proofs.loading.Loading.next.Goals as goal

pub returns-then-is_in_batch-clause-found : goal.returns-then-is_in_batch-clause-found
returns-then-is_in_batch-clause-found g c = λ tells rs loads.
    let a = g.S.Site.state c.args.site.now in
    let i = c.self.inside in
    let l : Progress = record {
      manager = i.manager;
      count = i.count;
      end = i.reader.place + i.reader.left;
      total = i.total;
      len = i.len;
      record_bytes = i.reader.record_bytes;
      ended = i.ended;
      marks = i.marks.places;
      reading = i.reader;
    } in
    let P : Progress → Type 0 = λ v. Loads rs v a in
    loads_given rs _ c.give.new.self a (loads_unended rs l a (subst P (sym c.self.view_is) loads)) c.give.ensures.gives

pub returns-then-is_in_batch-clause-told : goal.returns-then-is_in_batch-clause-told
returns-then-is_in_batch-clause-told g c = λ tells. reads-refl _

pub invariant_of-self-in-Open : goal.invariant_of-self-in-Open
invariant_of-self-in-Open g c =
    let i = c.self.inside in
    let Q : Head → Type 0 = λ v. Enters i.len v i.reader c.enter.new.self in
    let entered = subst Q c.in-Open.is c.in_ok-enter.ensures.entered in
    let none = none_left i.reader.left c.is_in_batch.result c.is_in_batch.ensures.1 c.if-is_in_batch.false in
    let mark : Mark = record { before = i.count; place = c.place-place.result } in
    let K : Kept → Type 0 = λ v. AreUpTo i.count v.places in
    let total = c.self.invariant.3 none in (
      c.self.invariant.0,
      (let s = entered.0.small in let p = entered.1 in omega arith),
      (let p = entered.1 in let f = c.self.invariant.2 in omega arith),
      (λ zero. absurd (let s = entered.0.some in omega (arith, s, zero))),
      (let p = entered.1 in omega (arith, p, total)),
      (let p = entered.1 in let t = c.self.invariant.5 in omega arith),
      (λ wrong. absurd (cc wrong)),
      subst K (sym c.keep.ensures.kept) (all_of_more (λ (m : Mark). m.before ≤ i.count) i.marks mark c.self.invariant.7 (omega arith)),
    )

pub returns-in-Closed-clause-found : goal.returns-in-Closed-clause-found
returns-in-Closed-clause-found g c = λ tells rs loads.
    let a = g.S.Site.state c.args.site.now in
    let i = c.self.inside in
    let l : Progress = record {
      manager = i.manager;
      count = i.count;
      end = i.reader.place + i.reader.left;
      total = i.total;
      len = i.len;
      record_bytes = i.reader.record_bytes;
      ended = i.ended;
      marks = i.marks.places;
      reading = i.reader;
    } in
    let r = c.enter.new.self in
    let k : Progress = record {
      manager = i.manager;
      count = i.count;
      end = r.place + r.left;
      total = i.total;
      len = i.len;
      record_bytes = r.record_bytes;
      ended = true;
      marks = i.marks.places;
      reading = r;
    } in
    let P : Progress → Type 0 = λ v. Loads rs v a in
    let Q : Head → Type 0 = λ v. Enters i.len v i.reader r in
    let H : Head → Type 0 = λ v. HeadIs i.reader.place (part i.reader.place i.len a.image) v r in
    let A : ℕ → Type 0 = λ v. AreAhead v r.ahead i.len a.image in
    let entered = subst Q c.in-Closed.is c.in_ok-enter.ensures.entered in
    let none = none_left i.reader.left c.is_in_batch.result c.is_in_batch.ensures.1 c.if-is_in_batch.false in
    let less = c.self.invariant.3 none in
    loads_end rs l k a (g.S.Site.state c.enter.new.site) (subst P (sym c.self.view_is) loads) (c.in_ok-enter.ensures.told tells) none
    (subst H c.in-Closed.is (c.in_ok-enter.ensures.head tells)) (subst A entered.0 (c.in_ok-enter.ensures.ahead tells))
    entered.0 entered.1 refl refl refl refl (omega (arith, none, less)) refl refl

pub returns-in-Broken-clause-found : goal.returns-in-Broken-clause-found
returns-in-Broken-clause-found g c = λ tells rs loads.
    let a = g.S.Site.state c.args.site.now in
    let i = c.self.inside in
    let l : Progress = record {
      manager = i.manager;
      count = i.count;
      end = i.reader.place + i.reader.left;
      total = i.total;
      len = i.len;
      record_bytes = i.reader.record_bytes;
      ended = i.ended;
      marks = i.marks.places;
      reading = i.reader;
    } in
    let r = c.enter.new.self in
    let k : Progress = record l { end = r.place + r.left; record_bytes = r.record_bytes; ended = false; reading = r } in
    let P : Progress → Type 0 = λ v. Loads rs v a in
    let H : Head → Type 0 = λ v. HeadIs i.reader.place (part i.reader.place i.len a.image) v r in
    let none = none_left i.reader.left c.is_in_batch.result c.is_in_batch.ensures.1 c.if-is_in_batch.false in
    loads_broken rs l k a (g.S.Site.state c.enter.new.site) (subst P (sym c.self.view_is) loads) (c.in_ok-enter.ensures.told tells) none
    (subst H c.in-Broken.is (c.in_ok-enter.ensures.head tells)) refl

pub returns-in-Open-clause-found : goal.returns-in-Open-clause-found
returns-in-Open-clause-found g c = λ tells rs loads.
    let a = g.S.Site.state c.args.site.now in
    let i = c.self.inside in
    let l : Progress = record {
      manager = i.manager;
      count = i.count;
      end = i.reader.place + i.reader.left;
      total = i.total;
      len = i.len;
      record_bytes = i.reader.record_bytes;
      ended = i.ended;
      marks = i.marks.places;
      reading = i.reader;
    } in
    let r = c.enter.new.self in
    let k : Progress = record {
      manager = i.manager;
      count = i.count;
      end = r.place + r.left;
      total = i.total;
      len = i.len;
      record_bytes = r.record_bytes;
      ended = false;
      marks = c.keep.new.self.places;
      reading = r;
    } in
    let s = g.S.Site.state c.enter.new.site in
    let P : Progress → Type 0 = λ v. Loads rs v a in
    let Q : Head → Type 0 = λ v. Enters i.len v i.reader r in
    let H : Head → Type 0 = λ v. HeadIs i.reader.place (part i.reader.place i.len a.image) v r in
    let entered = subst Q c.in-Open.is c.in_ok-enter.ensures.entered in
    let none = none_left i.reader.left c.is_in_batch.result c.is_in_batch.ensures.1 c.if-is_in_batch.false in
    let found = subst H c.in-Open.is (c.in_ok-enter.ensures.head tells) in
    let was = subst P (sym c.self.view_is) loads in
    let b = found.0 in
    let mark : Mark = record { before = i.count; place = c.place-place.result } in
    let more = was.batches ++ b ∷ [] in
    let K : Kept → Type 0 = λ v. All (IsMark more) v.places in
    let M : ℕ → Type 0 = λ v. IsMark more (record { before = i.count; place = v }) in
    let at_hand = loads_entered rs l k b a s was (c.in_ok-enter.ensures.told tells) none found.1 found.2 found.3 entered.1
    (c.in_ok-enter.ensures.ahead tells) refl refl refl refl refl
    (λ all one. subst K (sym c.keep.ensures.kept) (all_of_more (IsMark more) i.marks mark all
    (subst M (sym c.place-place.ensures.value) one))) in
    loads_given rs k c.give-in-Open.new.self s at_hand c.give-in-Open.ensures.gives
