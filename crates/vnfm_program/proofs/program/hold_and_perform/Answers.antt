-- The files were opened, or the numbers of the streams couldn't be taken; the run went over what was opened.
use Rattle.std.proofs.Common.{Some, refl, inl, inr, rules}
use Rattle.vnfm_program.proofs.Courses.{obeyed, opened_files, opened_none}
use Rattle.vnfm_program.proofs.program.hold_and_perform.Goals as goal

pub returns-in-Ok-open_files : goal.returns-in-Ok-open_files
returns-in-Ok-open_files g c = rw (← c.machine.view_is) (
    inl (obeyed _ _ (Some c.args.settings.now) _ _ _ _ _ _ c.requires
    (opened_files _ _ _ _ _ c.uses_files.ensures c.if-not-uses_files.false (inl (record {
      streams = λ tells. (c.in-Ok.ensures tells).held;
      opens = c.in-Ok-open_files.ensures.opened;
      kept = refl;
    })))
    refl refl c.perform-in-Ok-open_files.ensures))

pub returns-in-Ok : goal.returns-in-Ok
returns-in-Ok g c = rw (← c.machine.view_is) (
    inr (inr (record {
      settings = c.args.settings.now;
      set = c.requires;
      streams = λ tells. (c.in-Ok.ensures tells).held;
      opening = c.in-Err-open_files.ensures.starved;
      starves = c.starve.ensures;
      kept = search rules;
    })))

pub returns : goal.returns
returns g c = rw (← c.machine.view_is) (
    inl (obeyed _ _ (Some c.args.settings.now) _ _ _ _ _ _ c.requires
    (opened_files _ _ _ _ _ c.uses_files.ensures c.if-not-uses_files.false
    (inr (record { failed = λ tells. (c.in-Err.ensures tells).fault; kept = refl })))
    refl refl c.perform-in-Err.ensures))

pub returns-then-not-uses_files : goal.returns-then-not-uses_files
returns-then-not-uses_files g c =
    inl (obeyed _ _ (Some c.args.settings.now) _ _ _ _ _ _ c.requires
    (opened_none _ _ _ _ c.uses_files.ensures c.if-not-uses_files.true) refl refl c.perform.ensures)
