-- The attempt, and the resource behind it.
use Rattle.std.proofs.Common.{◌++◌, codes, option_copied}
use Rattle.history_lines.proofs.TextLemmas.{same_part, two}
use Rattle.history_lines.specs.Words.{attempt_words}
use Rattle.history_lines.proofs.lines.push_done.Goals as goal

pub returns : goal.returns
returns c =
    let attempt = attempt_words c.args.manager c.args.tag.now (option_copied c.args.row) (option_copied c.args.vnfd) in
    let old = c.args.text.now.items in
    two old c.push-2.new.text.items c.push-3.new.text.items (codes "DONE" ++ attempt ++ codes " resourceId ")
    c.args.resource.now
    (two old c.push_attempt.new.text.items c.push-2.new.text.items (codes "DONE" ++ attempt) (codes " resourceId ")
    (two old c.push.new.text.items c.push_attempt.new.text.items (codes "DONE") attempt c.in_ok-push.ensures
    c.in_ok-push_attempt.ensures)
    c.in_ok-push-2.ensures)
    (same_part _ _ _ c.args.resource.now c.in_ok-push-3.ensures c.as_bytes.ensures.value)
