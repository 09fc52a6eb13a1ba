-- A field that is no name stands behind no word.
use Rattle.std.proofs.Common.{◌≡◌, ◌∙◌, [], codes}
use Rattle.std.proofs.lemmas.Slice.Eq.{slice_eq-Decides}
use Rattle.std.proofs.lemmas.Bool.Decides.{Decides-eqb}
use Rattle.vim_wire.proofs.LineLaws.{done_of, some_or_none}
use Rattle.vim_wire.proofs.reading.reply_after.Goals as goal

pub returns-in_err-name-clause-again : goal.returns-in_err-name-clause-again
returns-in_err-name-clause-again c = λ reply h e.
    let word : c.args.word.now ≡ codes "DONE" = (slice_eq-Decides Decides-eqb _ _ _ c.eq.ensures).0 c.if-eq.true ∙ c.as_slice.ensures in
    let done = done_of reply c.args.word.now c.args.fields.now h word e in
    absurd (some_or_none c.read.result done.0 (c.in_err-name.was {u = tt}) (c.read.ensures.again done.0 [] done.1.1 done.1.0).0)
