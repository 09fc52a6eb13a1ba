use Rattle.std.proofs.Common.{◌≡◌, ◌∙◌, ap, ap₂, ◌-◌, ◌++◌, take, drop, length, ℕ, List, arith}
use Rattle.journal_records.specs.Reading.{Seen}
use Rattle.journal_records.proofs.WindowLemmas.{pass_more}
use Rattle.journal_records.proofs.window.Window.pass.Goals as goal

pub returns : goal.returns
returns c =
    let buffer = c.self.inside.buffer.items in
    let at = c.self.inside.at in
    let end = c.self.inside.end in
    let n = c.args.n in
    let passed : take at buffer ≡ c.args.self.now.passed = ap (λ (s : Seen). s.passed) c.self.view_is in
    let ahead : take (end - at) (drop at buffer) ≡ c.args.self.now.ahead = ap (λ (s : Seen). s.ahead) c.self.view_is in
    let parts = pass_more buffer at end n (omega arith) (omega arith) (let e = ap length ahead in omega (arith, c.requires)) in
    ap₂ (λ (x y : List ℕ). let s : Seen = record { passed = x; ahead = y } in s) (parts.0 ∙ ap₂ (λ x y. x ++ take n y) passed ahead)
    (parts.1 ∙ ap (drop n) ahead)
