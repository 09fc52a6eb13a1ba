use Rattle.std.proofs.Common.{◌≡◌, ◌∙◌, ◌+◌, sym, ap, subst, refl, take, drop, length, ◌++◌, ◌∷◌, [], arith, true}
use Rattle.std.proofs.Common.{false}
use Rattle.std.proofs.lemmas.List.{take_at, length-take-le}
use Rattle.old_journal.specs.declared.head.Head.{Head}
use Rattle.old_journal.specs.Head.{HeadIs, HeadEnds}
use Rattle.old_journal.specs.Load.{Progress, Loads, ReadsOn}
use Rattle.old_journal.proofs.LoadLemmas.{loads_more, loads_end, grows_more, within_more}
use Rattle.site_traits.specs.Moments.{reads-then}
use Rattle.old_journal.proofs.loading.OldLoading.next.Goals as goal

pub returns-in-Closed-clause-found : goal.returns-in-Closed-clause-found
returns-in-Closed-clause-found g c = λ tells rs loads.
    let i = c.self.inside in
    let a = g.S.Site.state c.args.site.now in
    let l : Progress = record {
      manager = i.manager;
      count = i.count;
      end = i.end;
      len = i.len;
      record_bytes = take i.size i.buffer.items;
      ended = i.ended;
      marks = i.marks.places;
    } in
    let k : Progress = record l { ended = true } in
    let P : Progress → Type 0 = λ v. Loads rs v a in
    let Q : Head → Type 0 = λ v. HeadIs i.end (drop i.end a.image) v in
    loads_end rs l k a (g.S.Site.state c.head_at.new.site) (subst P (sym c.self.view_is) loads)
    (c.in_ok-head_at.ensures.told tells)
    (subst Q c.in-Closed.is (c.in_ok-head_at.ensures.head tells)) refl refl refl refl refl

pub returns-in_ok-bytes_at-in-Open-clause-found : goal.returns-in_ok-bytes_at-in-Open-clause-found
returns-in_ok-bytes_at-in-Open-clause-found g c = λ tells rs loads.
    let i = c.self.inside in
    let n = c.in-Open.size in
    let a = g.S.Site.state c.args.site.now in
    let mid = g.S.Site.state c.head_at.new.site in
    let buffer = take i.buffer.len (c.bytes_at.new.buffer ++ drop (length c.bytes_at.new.buffer) i.buffer.items) in
    let l : Progress = record {
      manager = i.manager;
      count = i.count;
      end = i.end;
      len = i.len;
      record_bytes = take i.size i.buffer.items;
      ended = i.ended;
      marks = i.marks.places;
    } in
    let k : Progress = record {
      manager = i.manager;
      count = i.count + 1;
      end = i.end + (5 + n);
      len = i.len;
      record_bytes = take n buffer;
      ended = false;
      marks = c.keep.new.self.places;
    } in
    let P : Progress → Type 0 = λ v. Loads rs v a in
    let Q : Head → Type 0 = λ v. HeadIs i.end (drop i.end a.image) v in
    let head = c.in_ok-head_at.ensures.told tells in
    let read = c.in_ok-bytes_at-in-Open.ensures.told tells in
    let whole : buffer ≡ c.bytes_at.new.buffer = take_at c.bytes_at.new.buffer _ _ (omega arith) in
    let bytes : take n buffer ≡ take n (drop (i.end + 5) a.image) =
    ap (take n) whole ∙ c.in_ok-bytes_at-in-Open.ensures.bytes tells
    ∙ ap (λ v. take n (drop (i.end + 5) v)) head.same in
    loads_more rs l k n a (g.S.Site.state c.bytes_at.new.site) (subst P (sym c.self.view_is) loads)
    (reads-then a mid (g.S.Site.state c.bytes_at.new.site) head read)
    (subst Q c.in-Open.is (c.in_ok-head_at.ensures.head tells)) bytes refl refl refl refl
    (c.keep.ensures.marks (rs ++ k.record_bytes ∷ []))

pub returns-in_err-bytes_at-in-Open-clause-told : goal.returns-in_err-bytes_at-in-Open-clause-told
returns-in_err-bytes_at-in-Open-clause-told g c = λ tells. reads-then _ _ _ (c.head_at.ensures.told tells)
    (c.bytes_at.ensures.told tells)

pub returns-in_ok-bytes_at-in-Open-clause-told : goal.returns-in_ok-bytes_at-in-Open-clause-told
returns-in_ok-bytes_at-in-Open-clause-told g c = λ tells. reads-then _ _ _ (c.head_at.ensures.told tells)
    (c.bytes_at.ensures.told tells)

pub returns-in_ok-bytes_at-in-Open-clause-grown : goal.returns-in_ok-bytes_at-in-Open-clause-grown
returns-in_ok-bytes_at-in-Open-clause-grown g c =
    let i = c.self.inside in
    let n = c.in-Open.size in
    let buffer = take i.buffer.len (c.bytes_at.new.buffer ++ drop (length c.bytes_at.new.buffer) i.buffer.items) in
    let l : Progress = record {
      manager = i.manager;
      count = i.count;
      end = i.end;
      len = i.len;
      record_bytes = take i.size i.buffer.items;
      ended = i.ended;
      marks = i.marks.places;
    } in
    let k : Progress = record {
      manager = i.manager;
      count = i.count + 1;
      end = i.end + (5 + n);
      len = i.len;
      record_bytes = take n buffer;
      ended = false;
      marks = c.keep.new.self.places;
    } in
    let P : Progress → Type 0 = λ v. ReadsOn v k in
    let Q : Head → Type 0 = λ v. HeadEnds i.end i.len v in
    let ends = subst Q c.in-Open.is c.in_ok-head_at.ensures.ends in
    let fits = ends.fits in
    let whole : length buffer ≡ 65536 = ap length (take_at c.bytes_at.new.buffer
    (drop (length c.bytes_at.new.buffer) i.buffer.items) i.buffer.len (omega arith)) ∙ omega arith in
    subst P c.self.view_is (grows_more l k n ends (length-take-le n buffer (omega arith)) refl refl refl refl)

pub invariant_of-self-in-Open : goal.invariant_of-self-in-Open
invariant_of-self-in-Open g c =
    let i = c.self.inside in
    let Q : Head → Type 0 = λ v. HeadEnds i.end i.len v in
    let within = within_more i.count i.end i.len c.in-Open.size c.self.invariant.2
    (subst Q c.in-Open.is c.in_ok-head_at.ensures.ends) in
    rw (take_at c.bytes_at.new.buffer (drop (length c.bytes_at.new.buffer) i.buffer.items) i.buffer.len (omega arith))
    (omega arith, within.0, within.1, within.2, within.3, omega arith)

pub invariant_of-self-in_err-bytes_at-in-Open : goal.invariant_of-self-in_err-bytes_at-in-Open
invariant_of-self-in_err-bytes_at-in-Open g c =
    let i = c.self.inside in
    rw (take_at c.bytes_at.new.buffer (drop (length c.bytes_at.new.buffer) i.buffer.items) i.buffer.len (omega arith))
    (omega arith, c.self.invariant.1, c.self.invariant.2, c.self.invariant.3, c.self.invariant.4, c.self.invariant.5)
