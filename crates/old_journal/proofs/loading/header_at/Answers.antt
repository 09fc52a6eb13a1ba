use Rattle.std.proofs.Common.{◌≡◌, ◌≤◌, min, length, replicate, arith, ℕ, subst, List}
use Rattle.old_journal.specs.Judged.{Judged}
use Rattle.journal_records.proofs.ByteLemmas.{read_front}
use Rattle.old_journal.proofs.FrontLemmas.{judged_front}
use Rattle.old_journal.proofs.loading.header_at.Goals.{then-len-lt33, else-len-lt33}
use Rattle.old_journal.proofs.loading.header_at.Goals as goal

pub returns-clause-judged : goal.returns-clause-judged
returns-clause-judged g c = λ tells.
    let image = (g.S.Site.state c.args.site.now).image in
    let held = c.if-len-lt33.held in
    let long = c.requires.long tells in
    let many : (held ≡ min 33 (length image)) × (held ≤ 33) =
    elim c.if-len-lt33.branch [
      | then-len-lt33 w ↦ (omega (arith, w.held-is), omega (arith, w.held-is))
      | else-len-lt33 w ↦
          (omega (arith, w.held-is), omega (arith, w.held-is))
    ] in
    let P : List ℕ → Type 0 = λ v. Judged v c.judge.result in
    judged_front image c.judge.result
    (subst P (read_front held 33 c.read_at.new.into (replicate 33 0) image (c.in_ok-read_at.ensures.bytes tells) many.1
    many.0)
    c.judge.ensures.judged)
