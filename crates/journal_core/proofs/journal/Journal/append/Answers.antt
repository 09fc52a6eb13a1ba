use Rattle.std.proofs.Common.{◌≡◌, ◌∙◌, ap, ◌+◌, ◌≤◌, take, length, arith}
use Rattle.std.proofs.lemmas.List.{take_at}
use Rattle.std.proofs.Common.{[], ◌∷◌, ◌++◌}
use Rattle.journal_records.specs.File.{piece, batches, IsRecord}
use Rattle.journal_core.specs.Journal.{Ledger}
use Rattle.std.proofs.Common.{sym, subst, refl, All, Result, Err}
use Rattle.std.proofs.lemmas.Result.{err_from_is_err_and}
use Rattle.journal_core.specs.declared.journal.AppendFault.{AppendFault}
use Rattle.journal_core.specs.Asking.{through, AppendAsks}
use Rattle.journal_core.proofs.AskLemmas.{stops_more, stops_after}
use Rattle.journal_core.proofs.Records.{has_length, ready_has}
use Rattle.site_traits.specs.Moments.{keeps_file, keeps_one, keeps_refl}
use Rattle.journal_core.specs.declared.marks.Mark.{Mark}
use Rattle.journal_core.specs.Marks.{Kept, IsMark}
use Rattle.journal_core.proofs.Appending.{marks_kept, first_moments, first_ready, second_moments, second_has, stands_more, appends_not, added_record, file_batches}
use Rattle.journal_core.proofs.journal.Journal.append.Goals as goal

pub write_through-requires : goal.write_through-requires
write_through-requires g c = λ tells.
    let stands = c.requires.stands tells in
    let j = c.args.self.now in
    let long = has_length _ _ _ (file_batches j (g.S.Site.state c.args.site.now) stands) in
    let end : c.self.inside.end ≡ c.args.self.now.end = ap (λ (v : Ledger). v.end) c.self.view_is in
    omega (arith, stands.end)

pub write_through-requires-2 : goal.write_through-requires-2
write_through-requires-2 g c = λ tells.
    let stands = c.requires.stands tells in
    let j = c.args.self.now in
    let a = g.S.Site.state c.args.site.now in
    let b = g.S.Site.state c.write_through.new.site in
    let end : c.self.inside.end ≡ j.end = ap (λ (v : Ledger). v.end) c.self.view_is in
    let whole : take c.frame-total.result c.deref.result.now ≡ piece c.args.bytes.now =
    ap (take c.frame-total.result) (c.deref.ensures.value ∙ take_at c.frame-total.new.buffer _ _ (omega arith))
    ∙ c.frame-total.ensures.framed in
    let ready = first_ready c.args.bytes.now _ _ j a b stands (ap (λ v. v + 1) end) whole
    (c.in_ok-write_through.ensures.told tells).holds in
    let long = has_length _ _ _ (ready_has _ _ _ _ ready) in
    omega (arith, stands.end)

pub returns-in_err-write_through-clause-told : goal.returns-in_err-write_through-clause-told
returns-in_err-write_through-clause-told g c = λ tells.
    let stands = c.requires.stands tells in
    let j = c.args.self.now in
    let end : c.self.inside.end ≡ j.end = ap (λ (v : Ledger). v.end) c.self.view_is in
    appends_not c.args.bytes.now _ j _ _ _ c.from_residual.ensures.0
    (first_moments c.args.bytes.now _ _ _ j _ _ stands (ap (λ v. v + 1) end) (c.in_err-write_through.ensures.told tells))

pub returns-in_err-write_through-2-clause-told : goal.returns-in_err-write_through-2-clause-told
returns-in_err-write_through-2-clause-told g c = λ tells.
    let stands = c.requires.stands tells in
    let j = c.args.self.now in
    let a = g.S.Site.state c.args.site.now in
    let b = g.S.Site.state c.write_through.new.site in
    let first = c.in_ok-write_through.ensures.told tells in
    let end : c.self.inside.end ≡ j.end = ap (λ (v : Ledger). v.end) c.self.view_is in
    let whole : take c.frame-total.result c.deref.result.now ≡ piece c.args.bytes.now =
    ap (take c.frame-total.result) (c.deref.ensures.value ∙ take_at c.frame-total.new.buffer _ _ (omega arith))
    ∙ c.frame-total.ensures.framed in
    let one : IsRecord c.args.bytes.now = record { some = c.requires.some; fits = c.requires.fits } in
    let ready = first_ready c.args.bytes.now _ _ j a b stands (ap (λ v. v + 1) end) whole first.holds in
    appends_not c.args.bytes.now _ j _ _ _ c.from_residual-in_err-write_through-2.ensures.0
    (second_moments c.args.bytes.now _ _ j a b _ (first_moments c.args.bytes.now _ _ _ j a b stands (ap (λ v. v + 1) end) first)
    stands first.settled ready one end (omega arith) (c.in_err-write_through-2.ensures.told tells))

pub returns-clause-told : goal.returns-clause-told
returns-clause-told g c = λ tells.
    let stands = c.requires.stands tells in
    let j = c.args.self.now in
    let a = g.S.Site.state c.args.site.now in
    let b = g.S.Site.state c.write_through.new.site in
    let d = g.S.Site.state c.write_through-2.new.site in
    let first = c.in_ok-write_through.ensures.told tells in
    let second = c.in_ok-write_through-2.ensures.told tells in
    let end : c.self.inside.end ≡ j.end = ap (λ (v : Ledger). v.end) c.self.view_is in
    let count : c.self.inside.count ≡ j.count = ap (λ (v : Ledger). v.count) c.self.view_is in
    let manager : c.self.inside.manager ≡ j.manager = ap (λ (v : Ledger). v.manager) c.self.view_is in
    let whole : take c.frame-total.result c.deref.result.now ≡ piece c.args.bytes.now =
    ap (take c.frame-total.result) (c.deref.ensures.value ∙ take_at c.frame-total.new.buffer _ _ (omega arith))
    ∙ c.frame-total.ensures.framed in
    let one : IsRecord c.args.bytes.now = record { some = c.requires.some; fits = c.requires.fits } in
    let room : j.end + 10 + length c.args.bytes.now ≤ 268435456 = omega arith in
    let ready = first_ready c.args.bytes.now _ _ j a b stands (ap (λ v. v + 1) end) whole first.holds in
    let has = second_has c.args.bytes.now _ j a b d stands ready one end room second.holds in
    let mark : Mark = record { before = c.self.inside.count; place = c.self.inside.end } in
    let all = marks_kept c.args.bytes.now j a c.self.inside.marks mark stands (ap (λ (v : Ledger). v.marks) c.self.view_is) count end in
    let M : Kept → Type 0 = λ v. All (IsMark (batches a.image ++ (c.args.bytes.now ∷ []) ∷ [])) v.places in
    record {
      any_moment = second_moments c.args.bytes.now _ _ j a b d (first_moments c.args.bytes.now _ _ _ j a b stands
          (ap (λ v. v + 1) end) first)
          stands first.settled ready one end room second;
      stands = stands_more c.args.bytes.now j _ a d stands second.settled has manager (omega arith) (omega arith)
          (ap (λ (v : Ledger). v.saved) c.self.view_is) (subst M (sym c.keep.ensures.kept) all) refl c.stand_at.ensures;
      added = added_record c.args.bytes.now j a d has;
    }

pub returns-in_err-write_through-clause-asks : goal.returns-in_err-write_through-clause-asks
returns-in_err-write_through-clause-asks g c =
    let a = g.S.Site.counts c.args.site.now in
    let b = g.S.Site.counts c.write_through.new.site in
    let err = err_from_is_err_and c.from_residual.result c.from_residual.ensures.1 in
    let P : Result (Unit {0}) AppendFault → Type 0 = λ v. AppendAsks v a b in
    subst P (sym (err.1 ∙ ap Err err.2)) (stops_more (through 1) (through 1) a b c.in_err-write_through.ensures.asks.failed)

pub returns-in_err-write_through-2-clause-asks : goal.returns-in_err-write_through-2-clause-asks
returns-in_err-write_through-2-clause-asks g c =
    let a = g.S.Site.counts c.args.site.now in
    let m = g.S.Site.counts c.write_through.new.site in
    let b = g.S.Site.counts c.write_through-2.new.site in
    let r = c.from_residual-in_err-write_through-2.result in
    let err = err_from_is_err_and r c.from_residual-in_err-write_through-2.ensures.1 in
    let P : Result (Unit {0}) AppendFault → Type 0 = λ v. AppendAsks v a b in
    subst P (sym (err.1 ∙ ap Err err.2)) (stops_after (through 1) (through 1) a m b c.in_ok-write_through.ensures.asks.done
    c.in_err-write_through-2.ensures.asks.failed)

pub returns-in_err-write_through-clause-jobs : goal.returns-in_err-write_through-clause-jobs
returns-in_err-write_through-clause-jobs g c = λ tells. keeps_one _ _ _ (c.in_err-write_through.ensures.told tells).on_file

pub returns-in_err-write_through-2-clause-jobs : goal.returns-in_err-write_through-2-clause-jobs
returns-in_err-write_through-2-clause-jobs g c = λ tells.
    keeps_file _ _ _ _ (keeps_one _ _ _ (c.in_ok-write_through.ensures.told tells).on_file)
    (c.in_err-write_through-2.ensures.told tells).on_file

pub returns-clause-jobs : goal.returns-clause-jobs
returns-clause-jobs g c = λ tells.
    keeps_file _ _ _ _ (keeps_one _ _ _ (c.in_ok-write_through.ensures.told tells).on_file)
    (c.in_ok-write_through-2.ensures.told tells).on_file

pub returns-then-self-bytes-gt-MAX_FILE-clause-jobs : goal.returns-then-self-bytes-gt-MAX_FILE-clause-jobs
returns-then-self-bytes-gt-MAX_FILE-clause-jobs g c = λ tells. keeps_refl _
