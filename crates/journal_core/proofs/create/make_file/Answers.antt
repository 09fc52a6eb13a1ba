use Rattle.std.proofs.Common.{◌∙◌, sym, refl, ap, subst, Ok, Err}
use Rattle.std.proofs.lemmas.Result.{err_from_is_err_and, IfOk-from_err}
use Rattle.std.specs.Prelude.{ℕ, length, nat_lt, Option, [], ◌∷◌, Result}
use Rattle.site_traits.specs.Counts.{all_asked}
use Rattle.journal_core.specs.Create.{IsWhole, LengthIs, StandsSo}
use Rattle.site_traits.specs.Counts.Ask.{sync}
use Rattle.journal_core.specs.declared.create.CreateFault.{CreateFault}
use Rattle.journal_core.specs.Asking.{to_make, CreateAsks}
use Rattle.journal_core.proofs.AskLemmas.{sync_stops, stops_after}
use Rattle.site_traits.specs.Moments.{keeps_then}
use Rattle.journal_core.proofs.LoadLemmas.{loading_keeps}
use Rattle.journal_core.proofs.CreateLemmas.{makes_not, makes_taken, makes_steps, not_taken, ok_not_taken}
use Rattle.journal_core.proofs.create.make_file.Goals as goal

pub returns-in_err-len-clause-told : goal.returns-in_err-len-clause-told
returns-in_err-len-clause-told g c = λ tells.
    let err = err_from_is_err_and c.from_residual.result c.from_residual.ensures.1 in
    makes_not c.args.manager c.args.bytes.now c.from_residual.result (g.S.Site.state c.args.site.now) (g.S.Site.state c.unfinished_length.new.site)
    (err.1 ∙ ap Err err.2) (c.unfinished_length.ensures.told tells)

pub returns-in_default-clause-told : goal.returns-in_default-clause-told
returns-in_default-clause-told g c = λ tells.
    let b = g.S.Site.state c.unfinished_length.new.site in
    let P : Option ℕ → Type 0 = λ v. StandsSo (LengthIs c.args.manager v) b in
    makes_taken c.args.manager c.args.bytes.now (g.S.Site.state c.args.site.now) b (c.unfinished_length.ensures.told tells)
    (subst P c.in_default.is (c.in_ok-len.ensures.length tells)).file

pub returns-in_err-make_anew-clause-told : goal.returns-in_err-make_anew-clause-told
returns-in_err-make_anew-clause-told g c = λ tells.
    let m = c.args.manager in
    let r = c.from_residual-in_err-make_anew.result in
    let b = g.S.Site.state c.unfinished_length.new.site in
    let d = g.S.Site.state c.make_anew.new.site in
    let P : Option ℕ → Type 0 = λ v. StandsSo (LengthIs m v) b in
    let err = err_from_is_err_and r c.from_residual-in_err-make_anew.ensures.1 in
    makes_steps m c.args.bytes.now r c.make_anew.result (g.S.Site.state c.args.site.now) b d (c.unfinished_length.ensures.told tells)
    (subst P c.in-Some.is (c.in_ok-len.ensures.length tells)).file.0 (c.make_anew.ensures.told tells) (not_taken r (err.1 ∙ ap Err err.2))
    (λ h. IfOk-from_err r (λ _. StandsSo (IsWhole c.args.bytes.now) d) c.from_residual-in_err-make_anew.ensures.0)

pub returns-clause-told : goal.returns-clause-told
returns-clause-told g c = λ tells.
    let m = c.args.manager in
    let b = g.S.Site.state c.unfinished_length.new.site in
    let d = g.S.Site.state c.make_anew.new.site in
    let P : Option ℕ → Type 0 = λ v. StandsSo (LengthIs m v) b in
    makes_steps m c.args.bytes.now (Ok tt) (Ok c.in_ok-make_anew.field-0) (g.S.Site.state c.args.site.now) b d
    (c.unfinished_length.ensures.told tells)
    (subst P c.in-Some.is (c.in_ok-len.ensures.length tells)).file.0 (c.in_ok-make_anew.ensures.told tells) (ok_not_taken (Ok tt) refl)
    (λ h. h)

pub returns-in_err-len-clause-asks : goal.returns-in_err-len-clause-asks
returns-in_err-len-clause-asks g c =
    let a = g.S.Site.counts c.args.site.now in
    let b = g.S.Site.counts c.unfinished_length.new.site in
    let long = length (g.S.Site.state c.args.site.now).image in
    let err = err_from_is_err_and c.from_residual.result c.from_residual.ensures.1 in
    let P : Result (Unit {0}) CreateFault → Type 0 = λ v. CreateAsks g.S.Site.tells long v a b in
    subst P (sym (err.1 ∙ ap Err err.2)) (record {
      longer = nat_lt 1 long;
      is = λ tells. refl;
      asks = sync_stops (to_make (nat_lt 1 long)) a b c.in_err-len.ensures.cause.failed;
    })

pub returns-in_default-clause-asks : goal.returns-in_default-clause-asks
returns-in_default-clause-asks g c = record {
  longer = nat_lt 1 (length (g.S.Site.state c.args.site.now).image);
  is = λ tells. refl;
  asks = c.in_ok-len.ensures.cause.done;
}

pub returns-in_err-make_anew-clause-asks : goal.returns-in_err-make_anew-clause-asks
returns-in_err-make_anew-clause-asks g c =
    let a = g.S.Site.counts c.args.site.now in
    let m = g.S.Site.counts c.unfinished_length.new.site in
    let b = g.S.Site.counts c.make_anew.new.site in
    let r = c.from_residual-in_err-make_anew.result in
    let s = g.S.Site.state c.unfinished_length.new.site in
    let long = length (g.S.Site.state c.args.site.now).image in
    let err = err_from_is_err_and r c.from_residual-in_err-make_anew.ensures.1 in
    let asks = c.in_err-make_anew.ensures.asks in
    let P : Result (Unit {0}) CreateFault → Type 0 = λ v. CreateAsks g.S.Site.tells long v a b in
    let Q : Option ℕ → Type 0 = λ v. StandsSo (LengthIs c.args.manager v) s in
    subst P (sym (err.1 ∙ ap Err err.2)) (record {
      longer = nat_lt 1 c.in-Some.len;
      is = λ tells. ap (nat_lt 1) ((subst Q c.in-Some.is (c.in_ok-len.ensures.length tells)).file.1
          ∙ ap length (c.unfinished_length.ensures.told tells).same);
      asks = stops_after (sync ∷ []) (to_make (nat_lt 1 c.in-Some.len)) a m b c.in_ok-len.ensures.cause.done asks.failed;
    })

pub returns-clause-asks : goal.returns-clause-asks
returns-clause-asks g c =
    let s = g.S.Site.state c.unfinished_length.new.site in
    let Q : Option ℕ → Type 0 = λ v. StandsSo (LengthIs c.args.manager v) s in
    record {
      longer = nat_lt 1 c.in-Some.len;
      is = λ tells. ap (nat_lt 1) ((subst Q c.in-Some.is (c.in_ok-len.ensures.length tells)).file.1
          ∙ ap length (c.unfinished_length.ensures.told tells).same);
      asks = c.in_ok-make_anew.ensures.asks.done ∙ ap (all_asked (to_make (nat_lt 1 c.in-Some.len))) c.in_ok-len.ensures.cause.done;
    }

pub returns-in_err-len-clause-jobs : goal.returns-in_err-len-clause-jobs
returns-in_err-len-clause-jobs g c = λ tells. loading_keeps _ _ (c.unfinished_length.ensures.told tells)

pub returns-in_default-clause-jobs : goal.returns-in_default-clause-jobs
returns-in_default-clause-jobs g c = λ tells. loading_keeps _ _ (c.unfinished_length.ensures.told tells)

pub returns-in_err-make_anew-clause-jobs : goal.returns-in_err-make_anew-clause-jobs
returns-in_err-make_anew-clause-jobs g c = λ tells. keeps_then _ _ _ (loading_keeps _ _ (c.unfinished_length.ensures.told tells))
    (c.make_anew.ensures.told tells).jobs

pub returns-clause-jobs : goal.returns-clause-jobs
returns-clause-jobs g c = λ tells. keeps_then _ _ _ (loading_keeps _ _ (c.unfinished_length.ensures.told tells))
    (c.in_ok-make_anew.ensures.told tells).jobs
