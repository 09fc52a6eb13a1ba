-- How the door counts the calls of it that failed, by the way that a run went (own rule).
use Rattle.std.specs.Prelude.{◌≡◌, ◌⊎◌, List, [], ◌∷◌}
use Rattle.lcm_sessions.specs.Onboarding.{Onboarding, unready, unheard, cut_off, heard}
use Rattle.lcm_sessions.specs.Session.{Talk, counts_behind}
use Rattle.site_traits.specs.Door.{DoorCounts, call_failed, closed, next_failed, opened as has_come}
use Rattle.vnfm_commands.specs.Course.{Course, opened, serving, onboarding, Visit, unasked, served, Round, Close}
use Rattle.vnfm_commands.specs.Course.{finished, unreached, stopped, halted, undelivered}

-- behind a connection on which this talk was held: one fault more where the read for the next request failed, and one
-- where telling did
abbrev pub talk_counts : Talk → DoorCounts → DoorCounts
talk_counts talk c = closed (counts_behind talk.end (has_come c))

abbrev pub visit_counts : Visit → DoorCounts → DoorCounts
visit_counts unasked c = c
visit_counts (served came talk) c = talk_counts talk c

abbrev pub rounds_counts : List Round → DoorCounts → DoorCounts
rounds_counts [] c = c
rounds_counts (r ∷ before) c = visit_counts r.visit (rounds_counts before c)

-- behind the end of the rounds: a wait that failed counts as a fault and as a failed wait
abbrev pub close_counts : Close → DoorCounts → DoorCounts
close_counts finished c = c
close_counts unreached c = next_failed c
close_counts (stopped came talk) c = talk_counts talk c
close_counts (halted visit turn end why) c = visit_counts visit c
close_counts (undelivered visit turn ps end why) c = visit_counts visit c

-- onboarding counts a wait or a read that failed
abbrev pub CountsOnboarding : Onboarding → DoorCounts → DoorCounts → Type 0
CountsOnboarding unready a b = b ≡ a
CountsOnboarding unheard a b = b ≡ next_failed a
CountsOnboarding (cut_off bytes) a b = b ≡ closed (call_failed (has_come a))
CountsOnboarding (heard bytes now ended) a b = (b ≡ closed (has_come a)) ⊎ (b ≡ a)

-- each call of the door that failed in a run that went so counts as one fault, a wait as a failed wait too, and nothing
-- else counts
abbrev pub CountsFaults : Course → DoorCounts → DoorCounts → Type 0
CountsFaults (opened start (serving service)) a b = b ≡ close_counts service.close (rounds_counts service.rounds a)
CountsFaults (opened start (onboarding o)) a b = CountsOnboarding o a b
CountsFaults other a b = b ≡ a
