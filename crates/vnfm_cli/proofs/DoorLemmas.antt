-- Which calls of the door failed in a run, by its course.
use Rattle.std.proofs.Common.{Result, ◌≡◌, ◌⊎◌, ℕ, Bool, true, false, List, [], ◌∷◌, Option, Some, None, Ok, Err, ap, subst, refl, inl, inr, ⊎_elim}
use Rattle.std.proofs.Common.{◌∙◌}
use Rattle.executor.specs.declared.manager.OpenFault.{OpenFault}
use Rattle.executor.specs.declared.manager.OpenFault.TheVariants as opening
use Rattle.journal_core.specs.declared.create.CreateFault.TheVariants as creating
use Rattle.lcm_replies.specs.Failing.{counts_by}
use Rattle.lcm_mouth.specs.Mouth.{MouthState}
use Rattle.lcm_trial.specs.declared.counts.Tried.{Tried}
use Rattle.lcm_trial.specs.declared.counts.TrialFault.{TrialFault}
use Rattle.lcm_trial.specs.declared.counts.TrialFault.TheVariants as trial
use Rattle.lcm_sessions.specs.Session.{Closing, Talk, counts_behind, is_cut, is_lost, life}
use Rattle.lcm_mouth.specs.World.{Peers, WorldTells}
use Rattle.lcm_events.specs.declared.events.Event.{Event}
use Rattle.lcm_events.specs.declared.states.Role.{Role}
use Rattle.lcm_sessions.specs.Doing.{Brings, BringsNothing, OnboardingAtDoor}
use Rattle.lcm_sessions.specs.Onboarding.{Ended, done, starving as lacking, breaking, Onboarding, unready, unheard, cut_off, heard}
use Rattle.lcm_sessions.specs.Onboarding.{judged_answer}
use Rattle.lcm_sessions.specs.Verdict.{Verdict, refused, full as no_room, accepted, verdict}
use Rattle.notify_outbox.specs.Dispatches.{Dispatch}
use Rattle.notify_outbox.specs.Rounds as outbox
use Rattle.notify_outbox.specs.Rounds.{RoundEnd}
use Rattle.site_traits.specs.Counts.{one_more}
use Rattle.site_traits.specs.Door.{DoorCounts, call_failed, closed, next_failed, opened as has_come}
use Rattle.command_line.specs.declared.options.Command.TheVariants.{Onboard}
use Rattle.vnfm_cli.specs.Causes.{FailsAtDoor}
use Rattle.journal_migration.specs.declared.migration.MigrateFault.{MigrateFault}
use Rattle.journal_migration.specs.declared.migration.MigrateFault.TheVariants as moving
use Rattle.vnfm_commands.specs.Course.{Course, misused, starved, making, migrating, migrating_ending, trying, trying_ending, unopened, opened, Opening, serving, onboarding, counting, Visit}
use Rattle.vnfm_commands.specs.Course.{unasked}
use Rattle.vnfm_commands.specs.Course.{served, Turning, Round, Close, finished, unreached, stopped, halted, undelivered, full}
use Rattle.vnfm_commands.specs.Course.{starving, broken, bad, IsOfWords, close_ending, ending_of, once_made, onboarding_ending}
use Rattle.vnfm_cli.specs.DoorFaults.{CountsFaults, CountsOnboarding, close_counts, rounds_counts, talk_counts, visit_counts}
use Rattle.vnfm_commands.specs.Outside.{Beside, Tells, session_peers, session_tells}
use Rattle.vnfm_commands.specs.Rounds.{CloseDoes, Receives, RoundGoes, RoundsDo, Visits}
use Rattle.vnfm_commands.specs.Runs.{CourseDoes}
use Rattle.vnfm_commands.specs.Words.{AreServing, AreWordsOf}
use Rattle.vnfm_commands.specs.declared.ending.Failure.TheVariants.{DoorFault as DoorFailure}

receives_counted : (t : WorldTells) (m saved : ℕ) (H : List Event) (came : Role) (talk : Talk) (a b : Peers) → Receives t m saved H came talk a b
    → b.mouth.wire.intake.counts ≡ talk_counts talk a.mouth.wire.intake.counts
receives_counted t m saved H came talk a b receives =
    receives.attends.counts ∙ ap closed (receives.attends.holds.faults ∙ ap (counts_behind talk.end) receives.counts)

visit_counted : (t : WorldTells) (m saved : ℕ) (H : List Event) (visit : Visit) (a b : Peers) → Visits t m saved H visit a b
    → b.mouth.wire.intake.counts ≡ visit_counts visit a.mouth.wire.intake.counts
visit_counted t m saved H unasked a b does = does.counts
visit_counted t m saved H (served came talk) a b does = receives_counted t m saved H came talk a b does.0

-- of a round it is the visit alone that the door sees
goes_counted : (t : Tells) (m saved : ℕ) (H : List Event) (visit : Visit) (turn : Turning) (ps : List Dispatch) (end : RoundEnd) (a b : Beside)
    → RoundGoes t m saved H visit turn ps end a b → b.mouth.wire.intake.counts ≡ visit_counts visit a.mouth.wire.intake.counts
goes_counted t m saved H visit turn ps end a b goes =
    ap (λ (x : MouthState). x.wire.intake.counts) (goes.posts.mouth ∙ goes.turns.mouth)
    ∙ visit_counted (session_tells t) m saved H visit (session_peers a) (session_peers goes.met) goes.visits.visits

rounds_counted : (t : Tells) (m saved : ℕ) (H : List Event) (rounds : List Round) (a b : Beside) → RoundsDo t m saved H rounds a b
    → b.mouth.wire.intake.counts ≡ rounds_counts rounds a.mouth.wire.intake.counts
rounds_counted t m saved H [] a b did = ap (λ (p : Beside). p.mouth.wire.intake.counts) did
rounds_counted t m saved H (r ∷ before) a c did =
    goes_counted t m saved (life (once_made m saved) H before) r.visit r.turn r.dispatches outbox.through did.0 c did.2
    ∙ ap (visit_counts r.visit) (rounds_counted t m saved H before a did.0 did.1)

close_counted : (t : Tells) (m saved : ℕ) (H : List Event) (close : Close) (a b : Beside) → CloseDoes t m saved H close a b
    → b.mouth.wire.intake.counts ≡ close_counts close a.mouth.wire.intake.counts
close_counted t m saved H finished a b does = ap (λ (p : Beside). p.mouth.wire.intake.counts) does
close_counted t m saved H unreached a b does = does.0.unreached.counts
close_counted t m saved H (stopped came talk) a b does = receives_counted (session_tells t) m saved H came talk (session_peers a)
    (session_peers b) does.0.0
close_counted t m saved H (halted visit turn end why) a b does =
    ap (λ (x : MouthState). x.wire.intake.counts) does.2.mouth ∙ visit_counted (session_tells t) m saved H visit (session_peers a)
    (session_peers does.0) does.1.visits
close_counted t m saved H (undelivered visit turn ps end why) a b does = goes_counted t m saved H visit turn ps end a b does.0

-- what came of onboarding
brought_counts : (tells : Type 0) (bytes : List ℕ) (failed : Bool) (a b : MouthState) → Brings tells bytes failed a b
    → b.wire.intake.counts ≡ closed (counts_by failed (has_come a.wire.intake.counts))
brought_counts tells bytes failed a b brings = brings.down ∙ ap closed (brings.fails.is ∙ ap (counts_by failed) brings.counts)

onboarding_counted : (tells : Type 0) (o : Onboarding) (a b : MouthState) → OnboardingAtDoor tells o a b
    → CountsOnboarding o a.wire.intake.counts b.wire.intake.counts
onboarding_counted tells unready a b at = ap (λ (m : MouthState). m.wire.intake.counts) at
onboarding_counted tells unheard a b at = at.counts
onboarding_counted tells (cut_off bytes) a b at = brought_counts tells bytes true a b at
onboarding_counted tells (heard bytes now ended) a b at = ⊎_elim
    (λ (some : Brings tells bytes false a b). inl (brought_counts tells bytes false a b some))
    (λ (none : BringsNothing tells bytes a b). inr none.counts)
    at

-- each call that failed is counted, and nothing else
pub course_counted : (t : Tells) (course : Course) (a b : Beside) → CourseDoes t course a b
    → CountsFaults course a.mouth.wire.intake.counts b.mouth.wire.intake.counts
course_counted t misused a b does = ap (λ (p : Beside). p.mouth.wire.intake.counts) does
course_counted t starved a b does = ap (λ (p : Beside). p.mouth.wire.intake.counts) does
course_counted t (making number result) a b does = ap (λ (p : Peers). p.mouth.wire.intake.counts) does.peers
course_counted t (migrating result) a b does = ap (λ (p : Peers). p.mouth.wire.intake.counts) does.peers
course_counted t (trying result) a b does = ap (λ (p : Beside). p.mouth.wire.intake.counts) does
course_counted t (unopened why) a b does = ap (λ (p : Peers). p.mouth.wire.intake.counts) does.peers
course_counted t (opened start (serving service)) a b does =
    let serves = does.2 in
    let P : Peers → Type 0 = λ p. CountsFaults (opened start (serving service)) p.mouth.wire.intake.counts b.mouth.wire.intake.counts in
    subst P does.1.peers
    (close_counted t start.number start.saved (life (once_made start.number start.saved) start.history service.rounds) service.close serves.between b serves.close
    ∙ ap (close_counts service.close) (rounds_counted t start.number start.saved start.history service.rounds does.0 serves.between serves.rounds))
course_counted t (opened start (onboarding o)) a b does =
    let brings = does.2 in
    let P : Peers → Type 0 = λ p. CountsOnboarding o p.mouth.wire.intake.counts b.mouth.wire.intake.counts in
    subst P does.1.peers (onboarding_counted t.door o does.0.mouth b.mouth brings.0.door)
course_counted t (opened start counting) a b does =
    ap (λ (p : Beside). p.mouth.wire.intake.counts) does.2 ∙ ap (λ (p : Peers). p.mouth.wire.intake.counts) does.1.peers

-- no call that failed in a talk is a wait
ended_next : (lost cut : Bool) (c : DoorCounts) → (counts_by lost (counts_by cut c)).next ≡ c.next
ended_next true true c = refl
ended_next true false c = refl
ended_next false true c = refl
ended_next false false c = refl

talk_next : (end : Option Closing) (c : DoorCounts) → (counts_behind end (has_come c)).next ≡ c.next
talk_next None c = refl
talk_next (Some closing) c = ended_next (is_lost closing) (is_cut closing.last) (has_come c)

visit_next : (visit : Visit) (c : DoorCounts) → (visit_counts visit c).next ≡ c.next
visit_next unasked c = refl
visit_next (served came talk) c = talk_next talk.end c

rounds_next : (rounds : List Round) (c : DoorCounts) → (rounds_counts rounds c).next ≡ c.next
rounds_next [] c = refl
rounds_next (r ∷ before) c = visit_next r.visit (rounds_counts before c) ∙ rounds_next before c

-- a run that can't end so leaves the counts
quiet : (words : List (List ℕ)) (P : Type 0) (a b : DoorCounts) → (P → ⊥) → (b.next ≡ a.next) × (b.faults ≡ a.faults)
    → FailsAtDoor words P a b
quiet words P a b never same = record {
  asked = λ is. absurd (never is);
  rose = λ is. absurd (never is);
  stays = λ _. same.0;
  faults = λ _. ((λ is. absurd (never is)), (λ _. same.1));
}

same_counts : (a b : DoorCounts) → b ≡ a → (b.next ≡ a.next) × (b.faults ≡ a.faults)
same_counts a b is = (ap (λ (c : DoorCounts). c.next) is, ap (λ (c : DoorCounts). c.faults) is)

-- onboarding that ends so, for one call that failed
loud : (words : List (List ℕ)) (P : Type 0) (a b : DoorCounts) → P → AreWordsOf Onboard words
    → (b.next ≡ one_more a.next) ⊎ (AreWordsOf Onboard words × (b.next ≡ a.next)) → b.faults ≡ one_more a.faults
    → FailsAtDoor words P a b
loud words P a b is on next faults = record {
  asked = λ _. inl on;
  rose = λ _. next;
  stays = λ never. absurd (never is);
  faults = λ _. ((λ _. faults), (λ never. absurd (never is)));
}

-- rounds end so exactly where waiting failed
serving_fails : (words : List (List ℕ)) (n : ℕ) (close : Close) (a b c : DoorCounts) → AreServing words → c.next ≡ a.next
    → b ≡ close_counts close c
    → FailsAtDoor words (close_ending n close ≡ Err DoorFailure) a b
serving_fails words n close a b c serves same is = by close (ap (λ (k : DoorCounts). k.next) is)
  where
    stays : (P : Type 0) → (P → ⊥) → b.next ≡ c.next → FailsAtDoor words P a b
    stays P never next = record {
      asked = λ p. absurd (never p);
      rose = λ p. absurd (never p);
      stays = λ _. next ∙ same;
      faults = λ other. absurd (other serves);
    }

    by : (x : Close) → b.next ≡ (close_counts x c).next → FailsAtDoor words (close_ending n x ≡ Err DoorFailure) a b
    by finished next = stays _ (λ p. cc p) next
    by unreached next = record {
      asked = λ _. inr serves;
      rose = λ _. inl (next ∙ ap one_more same);
      stays = λ never. absurd (never refl);
      faults =
          λ other. absurd (other serves);
    }
    by (stopped came talk) next = stays _ (λ p. cc p) (next ∙ talk_next talk.end c)
    by (halted visit turn end (full e more)) next = stays _ (λ p. cc p) (next ∙ visit_next visit c)
    by (halted visit turn end starving) next = stays _ (λ p. cc p) (next ∙ visit_next visit c)
    by (halted visit turn end broken) next = stays _ (λ p. cc p) (next ∙ visit_next visit c)
    by (halted visit turn end (bad n)) next = stays _ (λ p. cc p) (next ∙ visit_next visit c)
    by (undelivered visit turn ps end (full e more)) next = stays _ (λ p. cc p) (next ∙ visit_next visit c)
    by (undelivered visit turn ps end starving) next = stays _ (λ p. cc p) (next ∙ visit_next visit c)
    by (undelivered visit turn ps end broken) next = stays _ (λ p. cc p) (next ∙ visit_next visit c)
    by (undelivered visit turn ps end (bad n)) next = stays _ (λ p. cc p) (next ∙ visit_next visit c)

-- no verdict is a fault of the door
never_door : (v : Verdict) (ended : Ended) → onboarding_ending (judged_answer v ended) ≡ Err DoorFailure → ⊥
never_door (refused why) done is = cc is
never_door (no_room end more) done is = cc is
never_door (accepted vnfd) done is = cc is
never_door v lacking is = cc is
never_door v breaking is = cc is

-- onboarding ends so exactly where waiting or a read failed
onboarding_ends : (words : List (List ℕ)) (start : Opening) (o : Onboarding) (a b : DoorCounts) → AreWordsOf Onboard words
    → CountsOnboarding o a b
    → FailsAtDoor words (ending_of (opened start (onboarding o)) ≡ Err DoorFailure) a b
onboarding_ends words start unready a b on counted = quiet words _ a b (λ is. cc is) (same_counts a b counted)
onboarding_ends words start unheard a b on counted = let same = same_counts (next_failed a) b counted in
    loud words _ a b refl on (inl same.0) same.1
onboarding_ends words start (cut_off bytes) a b on counted = let same = same_counts (closed (call_failed (has_come a))) b counted in
    loud words _ a b refl on (inr (on, same.0)) same.1
onboarding_ends words start (heard bytes now ended) a b on counted =
    quiet words _ a b (never_door (verdict start.saved start.history now bytes) ended)
    (⊎_elim (same_counts (closed (has_come a)) b) (same_counts a b) counted)

-- no journal that wasn't opened is a fault of the door
never_opening : (why : OpenFault) → ending_of (unopened why) ≡ Err DoorFailure → ⊥
never_opening opening.Unmade is = cc is
never_opening (opening.Foreign place) is = cc is
never_opening (opening.BadRecord n) is = cc is
never_opening opening.Disk is = cc is
never_opening opening.Memory is = cc is

-- no journal that wasn't migrated is one either
never_moving : (result : Result ℕ MigrateFault) → migrating_ending result ≡ Err DoorFailure → ⊥
never_moving (Ok records) is = cc is
never_moving (Err (moving.Open opening.Unmade)) is = cc is
never_moving (Err (moving.Open (opening.Foreign place))) is = cc is
never_moving (Err (moving.Open (opening.BadRecord n))) is = cc is
never_moving (Err (moving.Open opening.Disk)) is = cc is
never_moving (Err (moving.Open opening.Memory)) is = cc is
never_moving (Err moving.Taken) is = cc is
never_moving (Err (moving.Full end more)) is = cc is
never_moving (Err moving.Disk) is = cc is

-- no trial is one
never_trying : (result : Result Tried TrialFault) → trying_ending result ≡ Err DoorFailure → ⊥
never_trying (Ok numbers) is = cc is
never_trying (Err trial.Room) is = cc is
never_trying (Err trial.Memory) is = cc is

-- a run ends with a fault of the door exactly where a call of it failed that isn't passed over
pub course_fails : (t : Tells) (words : List (List ℕ)) (course : Course) (a b : Beside) → IsOfWords words course → CourseDoes t course a b
    → FailsAtDoor words (ending_of course ≡ Err DoorFailure) a.mouth.wire.intake.counts b.mouth.wire.intake.counts
course_fails t words misused a b of does = quiet words _ _ _ (λ is. cc is) (same_counts _ _ (course_counted t misused a b does))
course_fails t words starved a b of does = quiet words _ _ _ (λ is. cc is) (same_counts _ _ (course_counted t starved a b does))
course_fails t words (making number (Ok made)) a b of does = quiet words _ _ _ (λ is. cc is)
    (same_counts _ _ (course_counted t (making number (Ok made)) a b does))
course_fails t words (making number (Err creating.Taken)) a b of does =
    quiet words _ _ _ (λ is. cc is) (same_counts _ _ (course_counted t (making number (Err creating.Taken)) a b does))
course_fails t words (making number (Err creating.Disk)) a b of does =
    quiet words _ _ _ (λ is. cc is) (same_counts _ _ (course_counted t (making number (Err creating.Disk)) a b does))
course_fails t words (migrating result) a b of does = quiet words _ _ _ (never_moving result)
    (same_counts _ _ (course_counted t (migrating result) a b does))
course_fails t words (trying result) a b of does = quiet words _ _ _ (never_trying result)
    (same_counts _ _ (course_counted t (trying result) a b does))
course_fails t words (unopened why) a b of does = quiet words _ _ _ (never_opening why)
    (same_counts _ _ (course_counted t (unopened why) a b does))
course_fails t words (opened start (serving service)) a b of does =
    serving_fails words _ service.close _ _ (rounds_counts service.rounds a.mouth.wire.intake.counts)
    (record { settings = of.settings; set = of.set; serving = of.is.command })
    (rounds_next service.rounds _) (course_counted t (opened start (serving service)) a b does)
course_fails t words (opened start (onboarding o)) a b of does =
    onboarding_ends words start o _ _ (record { settings = of.settings; set = of.set; is = of.is })
    (course_counted t (opened start (onboarding o)) a b does)
course_fails t words (opened start counting) a b of does = quiet words _ _ _ (λ is. cc is)
    (same_counts _ _ (course_counted t (opened start counting) a b does))

-- the same of another way to say how it ended
pub fails_with : (words : List (List ℕ)) (P Q : Type 0) (a b : DoorCounts) → (P → Q) → (Q → P) → FailsAtDoor words P a b
    → FailsAtDoor words Q a b
fails_with words P Q a b there back fails = record {
  asked = λ is. fails.asked (back is);
  rose = λ is. fails.rose (back is);
  stays = λ never. fails.stays (λ is. never (there is));
  faults = λ other. let counts = fails.faults other in ((λ is. counts.0 (back is)), (λ never. counts.1 (λ is. never (there is))));
}
