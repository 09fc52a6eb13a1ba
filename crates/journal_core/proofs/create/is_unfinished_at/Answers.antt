use Rattle.std.proofs.Common.{◌≡◌, ◌≤◌, min, length, replicate, arith}
use Rattle.journal_records.proofs.ByteLemmas.{read_front}
use Rattle.journal_core.proofs.create.is_unfinished_at.Goals.{then-len-lt32, else-len-lt32}
use Rattle.journal_core.proofs.create.is_unfinished_at.Goals as goal

pub returns-clause-unfinished : goal.returns-clause-unfinished
returns-clause-unfinished g c = λ tells.
    let image = (g.S.Site.state c.args.site.now).image in
    let held = c.if-len-lt32.held in
    let long = c.requires.long tells in
    let many : (held ≡ min 32 (length image)) × (held ≤ 32) =
    elim c.if-len-lt32.branch [
      | then-len-lt32 w ↦ (omega (arith, w.held-is), omega (arith, w.held-is))
      | else-len-lt32 w ↦
          (omega (arith, w.held-is), omega (arith, w.held-is))
    ] in
    c.is_unfinished.ensures image (read_front held 32 c.read_at.new.into (replicate 32 0) image
    (c.in_ok-read_at.ensures.bytes tells) many.1 many.0)
