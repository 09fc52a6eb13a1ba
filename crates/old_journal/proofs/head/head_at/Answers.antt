use Rattle.site_traits.specs.Moments.{reads-refl}
use Rattle.std.proofs.Common.{◌≡◌, ◌+◌, min, ◌≤◌, length, drop, [], ◌∷◌, inl, arith}
use Rattle.std.proofs.lemmas.List.{length-drop, nil_from_length}
use Rattle.journal_records.proofs.ByteLemmas.{read_front}
use Rattle.old_journal.proofs.head.head_at.Goals.{then-len-end-lt5, else-len-end-lt5}
use Rattle.old_journal.proofs.head.head_at.Goals as goal

pub returns-clause-head : goal.returns-clause-head
returns-clause-head g c = λ tells.
    let image = (g.S.Site.state c.args.site.now).image in
    let held = c.if-len-end-lt5.held in
    let long = c.requires.long tells in
    let left : c.args.end + length (drop c.args.end image) ≡ c.args.len = omega (arith, length-drop c.args.end image) in
    let many : (held ≡ min 5 (length (drop c.args.end image))) × (held ≤ 5) =
    elim c.if-len-end-lt5.branch [
      | then-len-end-lt5 w ↦ (omega (arith, w.held-is), omega (arith, w.held-is))
      | else-len-end-lt5 w ↦
          (omega (arith, w.held-is), omega (arith, w.held-is))
    ] in
    c.head_of.ensures.head (drop c.args.end image)
    (read_front held 5 c.read_at.new.into (0 ∷ 0 ∷ 0 ∷ 0 ∷ 0 ∷ []) (drop c.args.end image)
    (c.in_ok-read_at.ensures.bytes tells) many.1 many.0)
    left

pub returns-then-end-len-clause-told : goal.returns-then-end-len-clause-told
returns-then-end-len-clause-told g c = λ tells. reads-refl _

pub returns-then-end-len-clause-head : goal.returns-then-end-len-clause-head
returns-then-end-len-clause-head g c = λ tells.
    let image = (g.S.Site.state c.args.site.now).image in
    let long = c.requires.long tells in
    inl (nil_from_length (drop c.args.end image) (omega (arith, length-drop c.args.end image)))
