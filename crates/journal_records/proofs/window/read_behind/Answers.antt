use Rattle.std.proofs.Common.{◌≡◌, ◌∙◌, ap, ◌+◌, ◌-◌, ◌++◌, take, drop, length, length-take, length-drop, arith}
use Rattle.std.proofs.lemmas.Result.{on_ok_weaker}
use Rattle.std.proofs.lemmas.Slice.{take-put_mid}
use Rattle.journal_records.proofs.window.read_behind.Goals as goal

pub returns-clause-bytes : goal.returns-clause-bytes
returns-clause-bytes g c = λ tells.
    let held = c.args.held in
    let more = c.args.more in
    let rest = drop c.args.place (g.S.Site.state c.args.site.now).image in
    let within = c.requires.within tells in
    let many : held + more - held ≡ more = omega arith in
    on_ok_weaker c.read_at.result
    (λ (is : c.read_at.new.into ≡ take (length (take (held + more - held) (drop held c.args.buffer.now))) rest).
    let room = c.requires.room in
    let n : length (take (held + more - held) (drop held c.args.buffer.now)) ≡ more =
    (let t = length-take (held + more - held) (drop held c.args.buffer.now) in let d = length-drop held c.args.buffer.now in omega arith) in
    let put : c.read_at.new.into ≡ take more rest = is ∙ ap (λ v. take v rest) n in
    let long : length c.read_at.new.into ≡ more = ap length put ∙ (let t = length-take more rest in
    let d = length-drop c.args.place (g.S.Site.state c.args.site.now).image in omega arith) in
    take-put_mid held (held + more - held) c.args.buffer.now c.read_at.new.into (held + more) (omega arith) (omega arith)
    ∙ ap (λ v. take held c.args.buffer.now ++ v) put)
    (c.read_at.ensures.bytes tells)
