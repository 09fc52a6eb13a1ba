use Rattle.std.proofs.Common.{◌≡◌, min, length, take, drop, arith}
use Rattle.std.proofs.lemmas.List.{length-drop}
use Rattle.std.proofs.lemmas.Result.{on_ok_weaker}
use Rattle.journal_records.proofs.ByteLemmas.{read_front}
use Rattle.old_journal.proofs.bytes.bytes_at.Goals as goal

pub returns-clause-bytes : goal.returns-clause-bytes
returns-clause-bytes g c = λ tells.
    let image = (g.S.Site.state c.args.site.now).image in
    let rest = drop c.args.at image in
    let within = c.requires.within tells in
    let many : c.args.size ≡ min c.args.size (length rest) = omega (arith, length-drop c.args.at image) in
    on_ok_weaker c.read_at.result
    (λ (is : c.read_at.new.into ≡ take (length (take c.args.size c.args.buffer.now)) rest). read_front c.args.size
    c.args.size
    c.read_at.new.into c.args.buffer.now rest is c.requires.room many)
    (c.read_at.ensures.bytes tells)
