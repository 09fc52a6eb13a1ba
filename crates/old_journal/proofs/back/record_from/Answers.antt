use Rattle.std.proofs.Common.{◌∙◌, ◌-◌, [], length, get_or}
use Rattle.site_traits.specs.Moments.{reads-then}
use Rattle.old_journal.specs.File.{records}
use Rattle.old_journal.proofs.BackLemmas.{record_at, one_number, bytes_behind, bytes_within}
use Rattle.old_journal.proofs.back.record_from.Goals as goal

pub size_at-requires-clause-told : goal.size_at-requires-clause-told
size_at-requires-clause-told g c = λ tells.
    let a = g.S.Site.state c.args.site.now in
    let here = record_at c.args.n c.args.end c.in-Some.place _ a (g.S.Site.state c.place_of.new.site)
    (c.requires.told tells).0
    (c.in_ok-place.ensures.told tells) c.in-Some.is (c.in_ok-place.ensures.place tells) in
    (get_or (records a.image) (c.args.n - 1) [], here)

pub returns-in_err-size-clause-told : goal.returns-in_err-size-clause-told
returns-in_err-size-clause-told g c = λ tells. reads-then _ _ _ (c.place_of.ensures.told tells)
    (c.size_at.ensures.told tells)

pub returns-in_default-2-clause-record_is : goal.returns-in_default-2-clause-record_is
returns-in_default-2-clause-record_is g c = λ tells.
    let a = g.S.Site.state c.args.site.now in
    let bytes = get_or (records a.image) (c.args.n - 1) [] in
    let here = record_at c.args.n c.args.end c.in-Some.place _ a (g.S.Site.state c.place_of.new.site)
    (c.requires.told tells).0
    (c.in_ok-place.ensures.told tells) c.in-Some.is (c.in_ok-place.ensures.place tells) in
    c.in_default-2.not-Some (length bytes) (c.in_ok-size.ensures.size tells bytes here)

pub returns-in_default-2-clause-told : goal.returns-in_default-2-clause-told
returns-in_default-2-clause-told g c = λ tells. reads-then _ _ _ (c.place_of.ensures.told tells)
    (c.size_at.ensures.told tells)

pub bytes_at-requires-clause-within : goal.bytes_at-requires-clause-within
bytes_at-requires-clause-within g c = λ tells.
    let a = g.S.Site.state c.args.site.now in
    let b = g.S.Site.state c.size_at.new.site in
    let bytes = get_or (records a.image) (c.args.n - 1) [] in
    let has = (c.requires.told tells).0 in
    let reads = c.in_ok-place.ensures.told tells in
    let found = c.in_ok-place.ensures.place tells in
    let here = record_at c.args.n c.args.end c.in-Some.place _ a (g.S.Site.state c.place_of.new.site) has reads
    c.in-Some.is found in
    let still = record_at c.args.n c.args.end c.in-Some.place _ a b has
    (reads-then _ _ _ reads (c.in_ok-size.ensures.told tells)) c.in-Some.is found in
    bytes_within c.in-Some.place c.args.end c.in-Some-2.size bytes b.image still
    (one_number _ _ _ c.in-Some-2.is (c.in_ok-size.ensures.size tells bytes here))

pub returns-in_err-bytes_at-clause-told : goal.returns-in_err-bytes_at-clause-told
returns-in_err-bytes_at-clause-told g c = λ tells.
    reads-then _ _ _ (reads-then _ _ _ (c.place_of.ensures.told tells) (c.size_at.ensures.told tells))
    (c.bytes_at.ensures.told tells)

pub returns-clause-record_is : goal.returns-clause-record_is
returns-clause-record_is g c = λ tells.
    let a = g.S.Site.state c.args.site.now in
    let b = g.S.Site.state c.size_at.new.site in
    let bytes = get_or (records a.image) (c.args.n - 1) [] in
    let has = (c.requires.told tells).0 in
    let reads = c.in_ok-place.ensures.told tells in
    let found = c.in_ok-place.ensures.place tells in
    let here = record_at c.args.n c.args.end c.in-Some.place _ a (g.S.Site.state c.place_of.new.site) has reads
    c.in-Some.is found in
    let still = record_at c.args.n c.args.end c.in-Some.place _ a b has
    (reads-then _ _ _ reads (c.in_ok-size.ensures.told tells)) c.in-Some.is found in
    let many = one_number _ _ _ c.in-Some-2.is (c.in_ok-size.ensures.size tells bytes here) in (
      one_number _ _ _ c.in-Some.is found,
      many,
      c.in_ok-bytes_at.ensures.bytes tells ∙ bytes_behind c.in-Some.place c.args.end c.in-Some-2.size bytes b.image
          still many,
    )

pub returns-clause-told : goal.returns-clause-told
returns-clause-told g c = λ tells.
    reads-then _ _ _ (reads-then _ _ _ (c.place_of.ensures.told tells) (c.size_at.ensures.told tells))
    (c.bytes_at.ensures.told tells)
