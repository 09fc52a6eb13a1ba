-- The one event that is spelled so follows, or it may not.
use Rattle.std.proofs.lemmas.Bool.{iff_false}
use Rattle.executor.proofs.JudgeLemmas.{few_events}
use Rattle.executor.proofs.SpellingLemmas.{no_next}
use Rattle.executor.proofs.open.judge.Goals as goal

pub returns-then-not-branch : goal.returns-then-not-branch
returns-then-not-branch c = λ m H small legal tables. (
  no_next c.no_spelling_begins_another.ensures m H _ c.in-Ok.event c.in-Ok.ensures.found.0 c.in-Ok.ensures.found.1
      (iff_false (c.in_ok-may_follow.ensures.judged m H small legal tables) c.if-not-branch.true),
  tables,
)

pub returns : goal.returns
returns c = λ m H small legal tables.
    let allowed = (c.in_ok-may_follow.ensures.judged m H small legal tables).0 c.if-not-branch.false in (
      c.in-Ok.event,
      record { spelled = c.in-Ok.ensures.found.1; event = c.in-Ok.ensures.found.0; allowed = allowed },
      c.apply.ensures.applies m H (few_events _ c.requires.small m H tables) legal allowed (c.reserve_for.ensures.kept m H tables),
    )
