-- What the status says, from the way that the run went.
use Rattle.std.proofs.Common.{◌≡◌, ◌∙◌, ℕ, ap, arith, rules, subst, sym}
use Rattle.command_line.specs.declared.options.Command.TheVariants.{Migrate, Trial}
use Rattle.vnfm_commands.specs.Course.{ending_of}
use Rattle.vnfm_commands.specs.Ending.{Ending, Output, output_of, status_of, told_status}
use Rattle.vnfm_commands.specs.Runs.{IsOrYields, MayEndWith}
use Rattle.vnfm_commands.proofs.DiskLemmas.{disk_as, lost_line, one_fault}
use Rattle.vnfm_cli.proofs.CheckLemmas.{left_alone, told_totals}
use Rattle.vnfm_cli.proofs.DoorLemmas.{course_fails, fails_with}
use Rattle.vnfm_cli.proofs.EndingLemmas.{is_status, put_told, seven_lost, status_told, told_by, told_or_yields, told_same, where_told}
use Rattle.vnfm_cli.proofs.ExactLemmas.{bad_record_ending, complete_ending, door_cause, ends_good, no_journal_ending, taken_ending}
use Rattle.vnfm_cli.proofs.ExactLemmas.{not_words, told_so, IsTold}
use Rattle.vnfm_cli.proofs.HeadlineLemmas.{acknowledged, leaves_fresh, leaves_sound}
use Rattle.vnfm_cli.proofs.MigrationLemmas.{migrates_as}
use Rattle.vnfm_cli.proofs.TrialLemmas.{is_tried}
use Rattle.vnfm_commands.specs.Words.{AreWordsOf}
use Rattle.vnfm_cli.proofs.top.run.Goals as goal

pub returns-clause-promises : goal.returns-clause-promises
returns-clause-promises g c =
    let runs = c.obey-ending.ensures.runs in
    let a = g.S.Site.state c.args.site.now in
    let b = g.S.Site.state c.obey-ending.new.site in
    let does = runs.1.does in
    let at = c.finish.ensures.status_is in
    let e : Ending = c.obey-ending.result in
    let put = c.finish.ensures.put in
    let before : Output = output_of g.W.Sink.state g.W.Sink.counts c.args.out.now in
    let after : Output = output_of g.W.Sink.state g.W.Sink.counts c.finish.new.out in
    let is : c.finish.result ≡ told_status c.finish.ensures.put (status_of (ending_of runs.0)) = rw (← runs.2) at in
    let Told : ℕ → Type 0 = IsTold g.S.Site.tells c.args.words.now a in
    let good = ends_good _ runs.0 _ _ does.beside in
    let told = told_so g.S.Site.tells c.args.words.now a b runs.0 runs.1.words_are does.site good in
    let failing = course_fails _ _ runs.0 _ _ runs.1.words_are does.beside in
    record {
      course = runs.0;
      runs = runs.1;
      ends = rw (← runs.2) c.finish.ensures;
      headline = λ tells m H start.
          leaves_sound c.files_are_one_thing.ensures.unmade c.a_file_has_one_history.ensures c.jobs_may_end.ensures
          c.sound_jobs_make_sound_pairs.ensures runs.0
          a b (does.site tells) does.legal m H start;
      acknowledged = λ tells m H start.
          acknowledged c.files_are_one_thing.ensures.unmade c.a_file_has_one_history.ensures c.jobs_may_end.ensures
          c.sound_jobs_make_sound_pairs.ensures _ tells runs.0
          _ _ a b (does.site tells) does.legal does.told m H start;
      beginning = λ tells m are fresh. leaves_fresh runs.0 c.args.words.now a b runs.1.words_are (does.site tells)
          (does.jobs tells) m are fresh;
      unchanged = λ tells are. left_alone runs.0 c.args.words.now a b are runs.1.words_are (does.site tells) (does.jobs tells)
          (does.counted tells);
      totals = λ tells told are done m H small has.
          told_totals c.a_file_has_one_history.ensures _ told runs.0 c.args.words.now c.finish.result m H a b before after are
          runs.1.words_are (does.site tells) does.legal (rw (← runs.2) c.finish.ensures) done small has;
      disk = λ other another. disk_as _ _ _ _ (c.obey-ending.ensures.disk other another)
          (λ is. at ∙ told_same _ _ 3 (ap status_of is) (omega arith))
          (λ is. where_told 3 (status_of e) _ (told_by e).1 (status_told put (status_of e) 3 (sym at ∙ is) (omega arith)));
      untouched_jobs = c.obey-ending.ensures.untouched_jobs;
      causes = record {
        usage = (
          (λ two. c.obey-ending.ensures.usage.0 (where_told 2 (status_of e) _ (told_by e).0
              (status_told put (status_of e) 2 (sym at ∙ two) (omega arith)))),
          (λ none. at ∙ told_same _ _ 2 (ap status_of (c.obey-ending.ensures.usage.1 none)) (omega arith)),
        );
        door = fails_with _ _ _ _ _
            (λ is. at ∙ told_same _ _ 4 (ap status_of (runs.2 ∙ is)) (omega arith))
            (λ four. sym runs.2 ∙ where_told 4 (status_of e) _ (told_by e).2
            (status_told put (status_of e) 4 (sym at ∙ four) (omega arith)))
            failing;
        only = rw at (is_status c.finish.ensures.put _);
        journal = λ tells other five. (subst Told (status_told _ _ 5 (sym is ∙ five) (omega arith)) told).0 tells other;
        no_journal = λ tells are none. subst (λ n. IsOrYields 5 n) (sym is)
            (told_or_yields _ _ 5 (omega arith) (no_journal_ending c.files_are_one_thing.ensures.unmade
            c.files_are_one_thing.ensures.foreign c.files_are_one_thing.ensures.headed c.a_legal_history_has_no_bad_record.ensures runs.0
            c.args.words.now a b are runs.1.words_are (does.site tells) none));
        record_is_bad = λ tells other eight. (subst Told (status_told _ _ 8 (sym is ∙ eight) (omega arith)) told).1 tells other;
        bad_record = λ tells are n bad. subst (λ n. IsOrYields 8 n) (sym is)
            (told_or_yields _ _ 8 (omega arith) (bad_record_ending c.files_are_one_thing.ensures.unmade
            c.files_are_one_thing.ensures.foreign c.files_are_one_thing.ensures.headed c.a_legal_history_has_no_bad_record.ensures runs.0
            c.args.words.now a b n are runs.1.words_are does.legal (does.site tells) bad));
        full = λ nine. (subst Told (status_told _ _ 9 (sym is ∙ nine) (omega arith)) told).2;
        refused = λ ten. (subst Told (status_told _ _ 10 (sym is ∙ ten) (omega arith)) told).3;
        taken = λ tells other eleven. (subst Told (status_told _ _ 11 (sym is ∙ eleven) (omega arith)) told).4 tells other;
        is_taken = λ tells m are not. subst (λ n. IsOrYields 11 n) (sym is)
            (told_or_yields _ _ 11 (omega arith) (taken_ending runs.0 c.args.words.now a b m are runs.1.words_are (does.site tells) not));
        sink = λ seven. lost_line _ _ _ c.finish.ensures.counts (seven_lost _ _ (sym at ∙ seven)).0;
      };
      complete = λ tells command other another are start disk door sink.
          let P : ℕ → Type 0 = λ status. MayEndWith command status in
          subst P (sym (put_told _ _ _ is (λ lost. sink (lost_line _ _ _ c.finish.ensures.counts lost))))
          (complete_ending c.files_are_one_thing.ensures.unmade c.files_are_one_thing.ensures.foreign c.files_are_one_thing.ensures.headed
          c.a_legal_history_has_no_bad_record.ensures _ tells command runs.0 c.args.words.now a b other another are start runs.1.words_are
          (does.site tells)
          (λ fault. disk (one_fault _ _ ((c.obey-ending.ensures.disk (not_words command Migrate c.args.words.now other are)
          (not_words command Trial c.args.words.now another are)).rose (runs.2 ∙ fault))))
          (λ fault. door (door_cause command c.args.words.now _ _ _ are failing fault)) good);
    }

pub returns-clause-unasked : goal.returns-clause-unasked
returns-clause-unasked g c = search rules

pub returns-clause-unposted : goal.returns-clause-unposted
returns-clause-unposted g c = search rules

pub returns-clause-unheard : goal.returns-clause-unheard
returns-clause-unheard g c = c.obey-ending.ensures.unheard

pub returns-clause-untimed : goal.returns-clause-untimed
returns-clause-untimed g c = c.obey-ending.ensures.untimed

pub returns-clause-spared : goal.returns-clause-spared
returns-clause-spared g c = c.obey-ending.ensures.spared

pub returns-clause-migration : goal.returns-clause-migration
returns-clause-migration g c =
    let laws = c.old_files_have_one_history.ensures in
    migrates_as laws.one laws.good laws.other laws.bad _ _ _ _ c.args.words.now c.finish.result _ _ _ _ c.obey-ending.ensures.moves
    c.finish.ensures

pub returns-clause-trial : goal.returns-clause-trial
returns-clause-trial g c = λ s set is.
    let are : AreWordsOf Trial c.args.words.now = record { settings = s; set = set; is = is } in
    let runs = c.obey-ending.ensures.runs in
    is_tried _ runs.0 c.args.words.now c.finish.result _ _ are runs.1.words_are (rw (← runs.2) c.finish.ensures)

pub returns-clause-uncalled : goal.returns-clause-uncalled
returns-clause-uncalled g c = c.obey-ending.ensures.uncalled
