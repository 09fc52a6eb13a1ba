use Rattle.std.proofs.Common.{arith}
use Rattle.std.proofs.lemmas.Bool.Decides.{nat_tests}
use Rattle.http_frames.proofs.SizeLineLaws.{returns_behind_blanks, never_behind}
use Rattle.http_frames.proofs.lines.after_blanks.Goals as goal

pub returns-in-13 : goal.returns-in-13
returns-in-13 c = λ digits blanks a stops. returns_behind_blanks digits blanks _ _ a c.in-13.is

pub returns-in_default : goal.returns-in_default
returns-in_default c = λ digits blanks a stops. never_behind digits blanks _ _ a stops (grind (arith, nat_tests)) (λ e. omega arith)
    (λ e. omega arith)
