-- A command was performed, of what the words set.
use Rattle.std.proofs.Common.{Err, ap, inl, inr, refl, ◌∙◌}
use Rattle.std.proofs.lemmas.Result.{err_from_is_err_and}
use Rattle.vnfm_commands.proofs.RunLemmas.{command_is, of_words, spared_same, unset_runs, unset_starves}
use Rattle.vnfm_commands.proofs.commands.obey.Goals as goal

pub returns-clause-runs : goal.returns-clause-runs
returns-clause-runs g c =
    let does = c.perform.ensures.does in (
      does.0,
      record {
        words_are = of_words c.args.words.now c.in_ok-settings.settings does.0 c.in_ok-settings.ensures does.1;
        does =
            does.2;
      },
      does.3,
    )

pub returns-clause-unasked : goal.returns-clause-unasked
returns-clause-unasked g c = λ other. c.perform.ensures.unasked
    (λ is. other (record { settings = c.in_ok-settings.settings; set = c.in_ok-settings.ensures; serving = is }))

pub returns-clause-untouched_jobs : goal.returns-clause-untouched_jobs
returns-clause-untouched_jobs g c = λ other. c.perform.ensures.untouched_jobs
    (λ is. other (record { settings = c.in_ok-settings.settings; set = c.in_ok-settings.ensures; serving = is }))

pub returns-clause-unposted : goal.returns-clause-unposted
returns-clause-unposted g c = λ other. c.perform.ensures.unposted
    (λ is. other (record { settings = c.in_ok-settings.settings; set = c.in_ok-settings.ensures; serving = is }))

pub returns-clause-unheard : goal.returns-clause-unheard
returns-clause-unheard g c = λ onboards serves. c.perform.ensures.unheard
    (λ is. onboards (record { settings = c.in_ok-settings.settings; set = c.in_ok-settings.ensures; is = is }))
    (λ is. serves (record { settings = c.in_ok-settings.settings; set = c.in_ok-settings.ensures; serving = is }))

pub returns-clause-untimed : goal.returns-clause-untimed
returns-clause-untimed g c = λ onboards serves. c.perform.ensures.untimed
    (λ is. onboards (record { settings = c.in_ok-settings.settings; set = c.in_ok-settings.ensures; is = is }))
    (λ is. serves (record { settings = c.in_ok-settings.settings; set = c.in_ok-settings.ensures; serving = is }))

pub returns-clause-spared : goal.returns-clause-spared
returns-clause-spared g c = λ other. c.perform.ensures.spared
    (λ is. other (record { settings = c.in_ok-settings.settings; set = c.in_ok-settings.ensures; is = is }))

pub returns-clause-disk : goal.returns-clause-disk
returns-clause-disk g c = λ other another. c.perform.ensures.disk
    (λ is. other (record { settings = c.in_ok-settings.settings; set = c.in_ok-settings.ensures; is = is }))
    (λ is. another (record { settings = c.in_ok-settings.settings; set = c.in_ok-settings.ensures; is = is }))

pub returns-clause-uncalled : goal.returns-clause-uncalled
returns-clause-uncalled g c = λ are. c.perform.ensures.uncalled
    (command_is c.args.words.now c.in_ok-settings.settings are.settings _ c.in_ok-settings.ensures are.set are.is)

pub returns-clause-moves : goal.returns-clause-moves
returns-clause-moves g c = λ are. inl (c.perform.ensures.moves
    (command_is c.args.words.now c.in_ok-settings.settings are.settings _ c.in_ok-settings.ensures are.set are.is))

pub returns-in_err-settings-clause-moves : goal.returns-in_err-settings-clause-moves
returns-in_err-settings-clause-moves g c = λ are.
    let err = err_from_is_err_and c.from_residual.result c.from_residual.ensures.1 in
    inr (
      unset_starves c.in_err-settings.field-0.0 c.args.words.now _ (err.1 ∙ ap Err err.2) c.in_err-settings.ensures are,
      spared_same g.S.Site.state g.S.Site.counts _ _ refl,
      spared_same g.T.Site.state g.T.Site.counts _ _ refl,
    )

pub returns-in_err-settings-clause-runs : goal.returns-in_err-settings-clause-runs
returns-in_err-settings-clause-runs g c =
    let err = err_from_is_err_and c.from_residual.result c.from_residual.ensures.1 in
    unset_runs _ c.args.words.now c.in_err-settings.field-0.0 _ _ (err.1 ∙ ap Err err.2) c.in_err-settings.ensures
