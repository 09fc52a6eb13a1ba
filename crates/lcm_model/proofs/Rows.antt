-- What the definitions give on the fixture, by computing.
use Rattle.std.proofs.Common.{ℕ, ◌≡◌, List, [], ◌∷◌, ◌++◌, Some, None, true, false, codes, length, refl, map, replicate, lit<}
use Rattle.lcm_events.specs.declared.asks.Aim.TheVariants as aims
use Rattle.lcm_events.specs.declared.asks.Ask.TheVariants.{ScaleToLevel, Heal, Operate, Terminate}
use Rattle.lcm_events.specs.declared.asks.OpKind.TheVariants as kinds
use Rattle.lcm_events.specs.declared.asks.StopType.TheVariants.{Forceful, Graceful}
use Rattle.lcm_events.specs.declared.asks.Vnfc.{Vnfc}
use Rattle.lcm_events.specs.declared.attempts.Outcome.TheVariants.{Done, NotBegun}
use Rattle.lcm_events.specs.declared.attempts.Way.TheVariants.{Forward, Undo}
use Rattle.lcm_events.specs.declared.changes.Change.{Change}
use Rattle.lcm_events.specs.declared.changes.DefKind.TheVariants.{Storage, Compute, Port}
use Rattle.lcm_events.specs.declared.changes.Verb.TheVariants.{Create, Remove, Start, Stop}
use Rattle.lcm_events.specs.declared.events.Event.{Event}
use Rattle.lcm_events.specs.declared.events.EventKind.TheVariants.{Asked, CallFailed, CancelAsked, Denied, GrantTried, Granted, Intent}
use Rattle.lcm_events.specs.declared.events.EventKind.TheVariants.{Moved, Posted, Settled, Subscribed}
use Rattle.lcm_events.specs.declared.events.GrantTry.TheVariants.{Later, NotCovering, Trouble}
use Rattle.lcm_events.specs.declared.events.PostOutcome.TheVariants.{NotTaken, Delivered}
use Rattle.lcm_events.specs.declared.filters.Filter.{Filter}
use Rattle.lcm_events.specs.declared.places.Place.{Place}
use Rattle.lcm_events.specs.declared.states.CancelMode.TheVariants as modes
use Rattle.lcm_events.specs.declared.states.OpState.TheVariants.{Starting, Processing, Completed, FailedTemp, RollingBack, RolledBack}
use Rattle.lcm_events.specs.declared.states.Role.TheVariants.{Element}
use Rattle.lcm_events.specs.declared.states.Task.TheVariants.{Cancel, Rollback}
use Rattle.lcm_model.specs.declared.actions.Action.TheVariants.{AbortAndLook, AskForGrant, Begin, Look, MoveTo, Poll}
use Rattle.lcm_model.specs.declared.refusals.Refusal.TheVariants as refusals
use Rattle.lcm_model.specs.declared.refusals.TaskRefusal.TheVariants.{NotSupported, WrongState}
use Rattle.lcm_model.specs.Moves.{moves}
use Rattle.lcm_model.specs.Attempts.{net, is_unsettled}
use Rattle.lcm_model.specs.Operations.{goes_on}
use Rattle.lcm_model.specs.Lives.{is_kept, is_live_of}
use Rattle.lcm_model.specs.Grants.{covers, distinct_places}
use Rattle.lcm_model.specs.Holding.{effect_in, runs, top_in, stands, top}
use Rattle.lcm_model.specs.Levels.{added, is_aspect, count, level_of}
use Rattle.lcm_model.specs.Vnfcs.{def_of, link_def, is_in_step}
use Rattle.lcm_model.specs.Instances.{moving, inventory, is_instantiated, is_started, levels}
use Rattle.lcm_model.specs.Plans.{change}
use Rattle.lcm_model.specs.Descriptors.{IsValid}
use Rattle.lcm_model.specs.Refusals.{delete_refusal, task_refusal}
use Rattle.lcm_model.specs.Notices.{next_notice, notices}
use Rattle.lcm_model.specs.Allowed.{IsAllowed}
use Rattle.lcm_model.specs.Work.{has_net, is_through}
use Rattle.lcm_model.specs.Next.{GrantLater, appended, is_at_net, is_free, next_action}
use Rattle.lcm_model.specs.Fixture.{asks, at, attempt, begun, completes, does_first, granted, half_way, instantiate, planned, refused}
use Rattle.lcm_model.specs.Fixture.{router, running, scale_given_up, scale_in, scale_out, somewhere}

-- The descriptor.

the_router_is_valid : IsValid router
unfolding is_unsettled goes_on effect_in top_in moving is_kept is_live_of is_through has_net is_at_net is_free added is_aspect
the_router_is_valid = record {
  named = refl;
  counts = refl;
  sorted = refl;
  vdus = refl;
  storages = refl;
  links = refl;
  ports = refl;
  aspects = refl;
  levels = refl;
}

eleven_workers_at_level_ten : count router 0 (10 ∷ []) ≡ 11
unfolding is_unsettled goes_on effect_in top_in moving is_kept is_live_of is_through has_net is_at_net is_free added is_aspect
eleven_workers_at_level_ten = refl

one_of_the_other_vdu_at_level_ten : count router 1 (10 ∷ []) ≡ 1
unfolding is_unsettled goes_on effect_in top_in moving is_kept is_live_of is_through has_net is_at_net is_free added is_aspect
one_of_the_other_vdu_at_level_ten = refl

level_normal_is_one : level_of router (codes "normal") ≡ Some (1 ∷ [])
unfolding is_unsettled goes_on effect_in top_in moving is_kept is_live_of is_through has_net is_at_net is_free added is_aspect
level_normal_is_one = refl

there_is_no_level_huge : level_of router (codes "huge") ≡ None
unfolding is_unsettled goes_on effect_in top_in moving is_kept is_live_of is_through has_net is_at_net is_free added is_aspect
there_is_no_level_huge = refl

-- The plans.

instantiate_makes_thirteen_changes : planned begun instantiate ≡ map (change Create) (
    link_def 0 ∷ link_def 1
    ∷ def_of Storage 0 1 0 ∷ def_of Storage 0 2 0 ∷ def_of Storage 1 1 1
    ∷ def_of Compute 0 1 0 ∷ def_of Compute 0 2 0 ∷ def_of Compute 1 1 0
    ∷ def_of Port 0 1 0 ∷ def_of Port 0 1 1 ∷ def_of Port 0 2 0 ∷ def_of Port 0 2 1 ∷ def_of Port 1 1 2 ∷ [])
unfolding is_unsettled goes_on effect_in top_in moving is_kept is_live_of is_through has_net is_at_net is_free added is_aspect
instantiate_makes_thirteen_changes = refl

scale_out_makes_one_machine : planned running (scale_out 1) ≡ map (change Create) (
    def_of Storage 0 3 0 ∷ def_of Compute 0 3 0 ∷ def_of Port 0 3 0 ∷ def_of Port 0 3 1 ∷ [])
unfolding is_unsettled goes_on effect_in top_in moving is_kept is_live_of is_through has_net is_at_net is_free added is_aspect
scale_out_makes_one_machine = refl

scale_to_small_removes_one_machine : planned running (ScaleToLevel (aims.Level (codes "small"))) ≡ map (change Remove) (
    def_of Port 0 2 0 ∷ def_of Port 0 2 1 ∷ def_of Compute 0 2 0 ∷ def_of Storage 0 2 0 ∷ [])
unfolding is_unsettled goes_on effect_in top_in moving is_kept is_live_of is_through has_net is_at_net is_free added is_aspect
scale_to_small_removes_one_machine = refl

scale_out_by_nine_makes_thirty_six_changes : length (planned running (scale_out 9)) ≡ 36
unfolding is_unsettled goes_on effect_in top_in moving is_kept is_live_of is_through has_net is_at_net is_free added is_aspect
scale_out_by_nine_makes_thirty_six_changes = refl

heal_of_all_makes_new_serials : planned running (Heal None []) ≡
    map (change Create) (
    def_of Storage 0 3 0 ∷ def_of Storage 0 4 0 ∷ def_of Storage 1 2 1
    ∷ def_of Compute 0 3 0 ∷ def_of Compute 0 4 0 ∷ def_of Compute 1 2 0
    ∷ def_of Port 0 3 0 ∷ def_of Port 0 3 1 ∷ def_of Port 0 4 0 ∷ def_of Port 0 4 1 ∷ def_of Port 1 2 2 ∷ [])
    ++ map (change Remove) (
    def_of Port 0 1 0 ∷ def_of Port 0 1 1 ∷ def_of Port 0 2 0 ∷ def_of Port 0 2 1 ∷ def_of Port 1 1 2
    ∷ def_of Compute 0 1 0 ∷ def_of Compute 0 2 0 ∷ def_of Compute 1 1 0
    ∷ def_of Storage 0 1 0 ∷ def_of Storage 0 2 0 ∷ def_of Storage 1 1 1 ∷ [])
unfolding is_unsettled goes_on effect_in top_in moving is_kept is_live_of is_through has_net is_at_net is_free added is_aspect
heal_of_all_makes_new_serials = refl

terminate_gracefully_makes_sixteen_changes : planned running (Terminate Graceful None) ≡
    map (change Stop) (def_of Compute 0 1 0 ∷ def_of Compute 0 2 0 ∷ def_of Compute 1 1 0 ∷ [])
    ++ map (change Remove) (
    def_of Port 0 1 0 ∷ def_of Port 0 1 1 ∷ def_of Port 0 2 0 ∷ def_of Port 0 2 1 ∷ def_of Port 1 1 2
    ∷ def_of Compute 0 1 0 ∷ def_of Compute 0 2 0 ∷ def_of Compute 1 1 0
    ∷ def_of Storage 0 1 0 ∷ def_of Storage 0 2 0 ∷ def_of Storage 1 1 1
    ∷ link_def 0 ∷ link_def 1 ∷ [])
unfolding is_unsettled goes_on effect_in top_in moving is_kept is_live_of is_through has_net is_at_net is_free added is_aspect
terminate_gracefully_makes_sixteen_changes = refl

terminate_forcefully_stops_nothing : length (planned running (Terminate Forceful None)) ≡ 13
unfolding is_unsettled goes_on effect_in top_in moving is_kept is_live_of is_through has_net is_at_net is_free added is_aspect
terminate_forcefully_stops_nothing = refl

stop_makes_three_changes : planned running (Operate false None) ≡
    map (change Stop) (def_of Compute 0 1 0 ∷ def_of Compute 0 2 0 ∷ def_of Compute 1 1 0 ∷ [])
unfolding is_unsettled goes_on effect_in top_in moving is_kept is_live_of is_through has_net is_at_net is_free added is_aspect
stop_makes_three_changes = refl

a_compute_runs : runs running 1 (def_of Compute 0 1 0) ≡ true
unfolding is_unsettled goes_on effect_in top_in moving is_kept is_live_of is_through has_net is_at_net is_free added is_aspect
a_compute_runs = refl

a_storage_stands_and_does_not_run : map (λ f. f running 1 (def_of Storage 0 1 0)) (stands ∷ runs ∷ []) ≡ true ∷ false ∷ []
unfolding is_unsettled goes_on effect_in top_in moving is_kept is_live_of is_through has_net is_at_net is_free added is_aspect
a_storage_stands_and_does_not_run = refl

-- Instantiate, step by step.

the_grant_is_asked_for_first : next_action (asks 1 instantiate begun) 1 ≡ Some AskForGrant
unfolding is_unsettled goes_on effect_in top_in moving is_kept is_live_of is_through has_net is_at_net is_free added is_aspect
the_grant_is_asked_for_first = refl

a_told_location_is_polled : next_action (at (GrantTried 1 (Later (codes "/grant/v1/grants/g1"))) ∷ asks 1 instantiate begun) 1 ≡ Some Poll
unfolding is_unsettled goes_on effect_in top_in moving is_kept is_live_of is_through has_net is_at_net is_free added is_aspect
a_told_location_is_polled = refl

an_answer_later_tells_where : appended 1 AskForGrant (GrantLater (Some (codes "/grant/v1/grants/g1")))
    ≡ GrantTried 1 (Later (codes "/grant/v1/grants/g1")) ∷ []
an_answer_later_tells_where = refl

an_answer_later_that_tells_no_place_is_trouble : appended 1 AskForGrant (GrantLater None) ≡ GrantTried 1 Trouble ∷ []
an_answer_later_that_tells_no_place_is_trouble = refl

an_answer_later_to_a_poll_appends_nothing : appended 1 Poll (GrantLater None) ≡ []
an_answer_later_to_a_poll_appends_nothing = refl

what_was_never_asked_for_has_no_action : next_action (asks 1 instantiate begun) 2 ≡ None
unfolding is_unsettled goes_on effect_in top_in moving is_kept is_live_of is_through has_net is_at_net is_free added is_aspect
what_was_never_asked_for_has_no_action = refl

a_denial_rolls_back : next_action (at (Denied 1) ∷ asks 1 instantiate begun) 1 ≡ Some (MoveTo RolledBack)
unfolding is_unsettled goes_on effect_in top_in moving is_kept is_live_of is_through has_net is_at_net is_free added is_aspect
a_denial_rolls_back = refl

a_grant_that_misses_some_rolls_back : next_action (at (GrantTried 1 NotCovering) ∷ asks 1 instantiate begun) 1 ≡ Some (MoveTo RolledBack)
unfolding is_unsettled goes_on effect_in top_in moving is_kept is_live_of is_through has_net is_at_net is_free added is_aspect
a_grant_that_misses_some_rolls_back = refl

five_tries_in_trouble_roll_back : next_action (replicate 5 (at (GrantTried 1 Trouble)) ++ asks 1 instantiate begun) 1
    ≡ Some (MoveTo RolledBack)
unfolding is_unsettled goes_on effect_in top_in moving is_kept is_live_of is_through has_net is_at_net is_free added is_aspect
five_tries_in_trouble_roll_back = refl

four_tries_in_trouble_ask_again : next_action (replicate 4 (at (GrantTried 1 Trouble)) ++ asks 1 instantiate begun) 1 ≡ Some AskForGrant
unfolding is_unsettled goes_on effect_in top_in moving is_kept is_live_of is_through has_net is_at_net is_free added is_aspect
four_tries_in_trouble_ask_again = refl

the_first_change_is_begun : next_action (granted 1 13 (asks 1 instantiate begun)) 1 ≡ Some (Begin (attempt 1 0 1 Forward))
unfolding is_unsettled goes_on effect_in top_in moving is_kept is_live_of is_through has_net is_at_net is_free added is_aspect
the_first_change_is_begun = refl

an_open_attempt_is_looked_at : next_action (at (Intent (attempt 1 3 1 Forward)) ∷ half_way) 1 ≡ Some (Begin (attempt 1 4 1 Forward))
unfolding is_unsettled goes_on effect_in top_in moving is_kept is_live_of is_through has_net is_at_net is_free added is_aspect
an_open_attempt_is_looked_at = refl

the_next_change_is_begun : next_action half_way 1 ≡ Some (Begin (attempt 1 3 1 Forward))
unfolding is_unsettled goes_on effect_in top_in moving is_kept is_live_of is_through has_net is_at_net is_free added is_aspect
the_next_change_is_begun = refl

all_changes_done_complete_it : next_action (does_first 1 13 (granted 1 13 (asks 1 instantiate begun))) 1 ≡ Some (MoveTo Completed)
unfolding is_unsettled goes_on effect_in top_in moving is_kept is_live_of is_through has_net is_at_net is_free added is_aspect
all_changes_done_complete_it = refl

nothing_follows_completed : next_action running 1 ≡ None
unfolding is_unsettled goes_on effect_in top_in moving is_kept is_live_of is_through has_net is_at_net is_free added is_aspect
nothing_follows_completed = refl

instantiate_went_through_these_states : moves running 1 ≡ Completed ∷ Processing ∷ Starting ∷ []
unfolding is_unsettled goes_on effect_in top_in moving is_kept is_live_of is_through has_net is_at_net is_free added is_aspect
instantiate_went_through_these_states = refl

a_running_instance_is_instantiated : is_instantiated running 1 ≡ true
unfolding is_unsettled goes_on effect_in top_in moving is_kept is_live_of is_through has_net is_at_net is_free added is_aspect
a_running_instance_is_instantiated = refl

a_running_instance_is_started : is_started running 1 ≡ true
unfolding is_unsettled goes_on effect_in top_in moving is_kept is_live_of is_through has_net is_at_net is_free added is_aspect
a_running_instance_is_started = refl

a_running_instance_has_the_default_level : levels router running 1 ≡ 1 ∷ []
unfolding is_unsettled goes_on effect_in top_in moving is_kept is_live_of is_through has_net is_at_net is_free added is_aspect
a_running_instance_has_the_default_level = refl

a_running_instance_is_in_step : is_in_step router (inventory running 1) (1 ∷ []) true ≡ true
unfolding is_unsettled goes_on effect_in top_in moving is_kept is_live_of is_through has_net is_at_net is_free added is_aspect
a_running_instance_is_in_step = refl

-- A call that failed, and a retry.

lost : List Event
unfolding is_unsettled goes_on effect_in top_in moving is_kept is_live_of is_through has_net is_at_net is_free added is_aspect
lost = at (Settled (attempt 1 0 1 Forward) NotBegun) ∷ at (CallFailed (attempt 1 0 1 Forward)) ∷ at (Intent (attempt 1 0 1 Forward))
    ∷ granted 1 13 (asks 1 instantiate begun)

a_lost_call_stops_the_work : next_action lost 1 ≡ Some (MoveTo FailedTemp)
unfolding lost is_unsettled goes_on effect_in top_in moving is_kept is_live_of is_through has_net is_at_net is_free added is_aspect
a_lost_call_stops_the_work = refl

a_retry_makes_a_second_attempt : next_action (at (Moved 1 Processing) ∷ at (Moved 1 FailedTemp) ∷ lost) 1
    ≡ Some (Begin (attempt 1 0 2 Forward))
unfolding lost is_unsettled goes_on effect_in top_in moving is_kept is_live_of is_through has_net is_at_net is_free added is_aspect
a_retry_makes_a_second_attempt = refl

a_call_that_failed_and_arrived_is_no_trouble :
    next_action (at (Settled (attempt 1 0 1 Forward) (Done (codes "r1"))) ∷ at (CallFailed (attempt 1 0 1 Forward))
    ∷ at (Intent (attempt 1 0 1 Forward))
    ∷ granted 1 13 (asks 1 instantiate begun)) 1 ≡ Some (Begin (attempt 1 1 1 Forward))
unfolding is_unsettled goes_on effect_in top_in moving is_kept is_live_of is_through has_net is_at_net is_free added is_aspect
a_call_that_failed_and_arrived_is_no_trouble = refl

-- A forceful cancel while a job runs.

forced : List Event
unfolding is_unsettled goes_on effect_in top_in moving is_kept is_live_of is_through has_net is_at_net is_free added is_aspect
forced = at (CancelAsked 1 modes.Forceful) ∷ at (Intent (attempt 1 3 1 Forward)) ∷ half_way

a_forceful_cancel_aborts : next_action forced 1 ≡ Some (AbortAndLook (attempt 1 3 1 Forward))
unfolding forced is_unsettled goes_on effect_in top_in moving is_kept is_live_of is_through has_net is_at_net is_free added is_aspect
a_forceful_cancel_aborts = refl

a_job_that_was_done_all_the_same_counts : net (at (Settled (attempt 1 3 1 Forward) (Done (codes "r4"))) ∷ forced) 1 3 ≡ 1
unfolding forced is_unsettled goes_on effect_in top_in moving is_kept is_live_of is_through has_net is_at_net is_free added is_aspect
a_job_that_was_done_all_the_same_counts = refl

a_cancelled_operation_stops : next_action (at (Settled (attempt 1 3 1 Forward) (Done (codes "r4"))) ∷ forced) 1 ≡ Some (MoveTo FailedTemp)
unfolding forced is_unsettled goes_on effect_in top_in moving is_kept is_live_of is_through has_net is_at_net is_free added is_aspect
a_cancelled_operation_stops = refl

a_cancel_while_asking_rolls_back : next_action (at (CancelAsked 1 modes.Forceful) ∷ asks 1 instantiate begun) 1 ≡ Some (MoveTo RolledBack)
unfolding is_unsettled goes_on effect_in top_in moving is_kept is_live_of is_through has_net is_at_net is_free added is_aspect
a_cancel_while_asking_rolls_back = refl

a_graceful_cancel_waits_for_the_grant : next_action (at (CancelAsked 1 modes.Graceful) ∷ asks 1 instantiate begun) 1 ≡ Some AskForGrant
unfolding is_unsettled goes_on effect_in top_in moving is_kept is_live_of is_through has_net is_at_net is_free added is_aspect
a_graceful_cancel_waits_for_the_grant = refl

-- A scale out that failed at its third change, is rolled back, cancelled and tried again.

stuck : List Event
unfolding is_unsettled goes_on effect_in top_in moving is_kept is_live_of is_through has_net is_at_net is_free added is_aspect
stuck = at (Moved 2 FailedTemp) ∷ at (Settled (attempt 2 2 1 Forward) NotBegun) ∷ at (CallFailed (attempt 2 2 1 Forward))
    ∷ at (Intent (attempt 2 2 1 Forward))
    ∷ does_first 2 2 (granted 2 4 (asks 2 (scale_out 1) running))

rolling_back : List Event
unfolding is_unsettled goes_on effect_in top_in moving is_kept is_live_of is_through has_net is_at_net is_free added is_aspect
rolling_back = at (Moved 2 RollingBack) ∷ stuck

the_last_change_made_is_undone_first : next_action rolling_back 2 ≡ Some (Begin (attempt 2 1 2 Undo))
unfolding rolling_back stuck is_unsettled goes_on effect_in top_in moving is_kept is_live_of is_through has_net is_at_net is_free added
    is_aspect
the_last_change_made_is_undone_first = refl

undone : List Event
unfolding is_unsettled goes_on effect_in top_in moving is_kept is_live_of is_through has_net is_at_net is_free added is_aspect
undone = at (Moved 2 FailedTemp) ∷ at (Settled (attempt 2 1 2 Undo) (Done (codes "r15"))) ∷ at (CancelAsked 2 modes.Graceful)
    ∷ at (Intent (attempt 2 1 2 Undo)) ∷ rolling_back

an_undo_takes_the_net_back : net undone 2 1 ≡ 0
unfolding undone rolling_back stuck is_unsettled goes_on effect_in top_in moving is_kept is_live_of is_through has_net is_at_net is_free
    added is_aspect
an_undo_takes_the_net_back = refl

what_was_undone_stands_no_more : stands undone 1 (def_of Compute 0 3 0) ≡ false
unfolding undone rolling_back stuck is_unsettled goes_on effect_in top_in moving is_kept is_live_of is_through has_net is_at_net is_free
    added is_aspect
what_was_undone_stands_no_more = refl

what_was_not_undone_stands : stands undone 1 (def_of Storage 0 3 0) ≡ true
unfolding undone rolling_back stuck is_unsettled goes_on effect_in top_in moving is_kept is_live_of is_through has_net is_at_net is_free
    added is_aspect
what_was_not_undone_stands = refl

a_retry_after_a_rollback_makes_the_third_attempt : next_action (at (Moved 2 Processing) ∷ undone) 2 ≡ Some (Begin (attempt 2 1 3 Forward))
unfolding undone rolling_back stuck is_unsettled goes_on effect_in top_in moving is_kept is_live_of is_through has_net is_at_net is_free
    added is_aspect
a_retry_after_a_rollback_makes_the_third_attempt = refl

the_rest_is_undone_next :
    next_action (at (Settled (attempt 2 1 2 Undo) (Done (codes "r15"))) ∷ at (Intent (attempt 2 1 2 Undo)) ∷ rolling_back) 2
    ≡ Some (Begin (attempt 2 0 2 Undo))
unfolding rolling_back stuck is_unsettled goes_on effect_in top_in moving is_kept is_live_of is_through has_net is_at_net is_free added
    is_aspect
the_rest_is_undone_next = refl

-- A scale out that was given up, and its heal.

an_instance_with_half_a_machine_is_out_of_step : refused scale_given_up (scale_out 1) ≡ Some refusals.OutOfStep
unfolding is_unsettled goes_on effect_in top_in moving is_kept is_live_of is_through has_net is_at_net is_free added is_aspect
an_instance_with_half_a_machine_is_out_of_step = refl

a_failed_scale_keeps_the_levels : levels router scale_given_up 1 ≡ 1 ∷ []
unfolding is_unsettled goes_on effect_in top_in moving is_kept is_live_of is_through has_net is_at_net is_free added is_aspect
a_failed_scale_keeps_the_levels = refl

third_worker : Vnfc
unfolding is_unsettled goes_on effect_in top_in moving is_kept is_live_of is_through has_net is_at_net is_free added is_aspect
third_worker = record { vdu = 0; serial = 3 }

a_heal_removes_half_a_machine : planned scale_given_up (Heal None (third_worker ∷ [])) ≡ change Remove (def_of Storage 0 3 0) ∷ []
unfolding third_worker is_unsettled goes_on effect_in top_in moving is_kept is_live_of is_through has_net is_at_net is_free added is_aspect
a_heal_removes_half_a_machine = refl

healed : List Event
unfolding is_unsettled goes_on effect_in top_in moving is_kept is_live_of is_through has_net is_at_net is_free added is_aspect
healed = completes 3 1 (Heal None (record { vdu = 0; serial = 3 } ∷ [])) scale_given_up

a_used_serial_is_not_used_again : top healed 1 0 ≡ 3
unfolding healed is_unsettled goes_on effect_in top_in moving is_kept is_live_of is_through has_net is_at_net is_free added is_aspect
a_used_serial_is_not_used_again = refl

the_next_scale_out_makes_the_fourth : planned healed (scale_out 1) ≡ map (change Create) (
    def_of Storage 0 4 0 ∷ def_of Compute 0 4 0 ∷ def_of Port 0 4 0 ∷ def_of Port 0 4 1 ∷ [])
unfolding healed is_unsettled goes_on effect_in top_in moving is_kept is_live_of is_through has_net is_at_net is_free added is_aspect
the_next_scale_out_makes_the_fourth = refl

-- Stopped.

stopped : List Event
unfolding is_unsettled goes_on effect_in top_in moving is_kept is_live_of is_through has_net is_at_net is_free added is_aspect
stopped = completes 2 3 (Operate false None) running

a_stopped_instance_is_in_step : is_in_step router (inventory stopped 1) (1 ∷ []) false ≡ true
unfolding stopped is_unsettled goes_on effect_in top_in moving is_kept is_live_of is_through has_net is_at_net is_free added is_aspect
a_stopped_instance_is_in_step = refl

a_stopped_instance_is_not_scaled : refused stopped (scale_out 1) ≡ Some refusals.Stopped
unfolding stopped is_unsettled goes_on effect_in top_in moving is_kept is_live_of is_through has_net is_at_net is_free added is_aspect
a_stopped_instance_is_not_scaled = refl

a_heal_starts_what_stays : planned stopped (Heal None (record { vdu = 1; serial = 1 } ∷ [])) ≡
    map (change Create) (def_of Storage 1 2 1 ∷ def_of Compute 1 2 0 ∷ def_of Port 1 2 2 ∷ [])
    ++ map (change Start) (def_of Compute 0 1 0 ∷ def_of Compute 0 2 0 ∷ [])
    ++ map (change Remove) (def_of Port 1 1 2 ∷ def_of Compute 1 1 0 ∷ def_of Storage 1 1 1 ∷ [])
unfolding stopped is_unsettled goes_on effect_in top_in moving is_kept is_live_of is_through has_net is_at_net is_free added is_aspect
a_heal_starts_what_stays = refl

-- Terminated.

terminated : List Event
unfolding is_unsettled goes_on effect_in top_in moving is_kept is_live_of is_through has_net is_at_net is_free added is_aspect
terminated = completes 2 16 (Terminate Graceful None) running

a_terminated_instance_is_not_instantiated : is_instantiated terminated 1 ≡ false
unfolding terminated is_unsettled goes_on effect_in top_in moving is_kept is_live_of is_through has_net is_at_net is_free added is_aspect
a_terminated_instance_is_not_instantiated = refl

a_terminated_instance_may_be_deleted : delete_refusal terminated 1 ≡ None
unfolding terminated is_unsettled goes_on effect_in top_in moving is_kept is_live_of is_through has_net is_at_net is_free added is_aspect
a_terminated_instance_may_be_deleted = refl

-- Refusals.

no_steps_are_refused : refused running (scale_out 0) ≡ Some refusals.NoSteps
unfolding is_unsettled goes_on effect_in top_in moving is_kept is_live_of is_through has_net is_at_net is_free added is_aspect
no_steps_are_refused = refl

ten_more_steps_are_too_many : refused running (scale_out 10) ≡ Some refusals.AboveMaximum
unfolding is_unsettled goes_on effect_in top_in moving is_kept is_live_of is_through has_net is_at_net is_free added is_aspect
ten_more_steps_are_too_many = refl

two_steps_in_lead_below_zero : refused running (scale_in 2) ≡ Some refusals.BelowZero
unfolding is_unsettled goes_on effect_in top_in moving is_kept is_live_of is_through has_net is_at_net is_free added is_aspect
two_steps_in_lead_below_zero = refl

nine_more_steps_are_accepted : refused running (scale_out 9) ≡ None
unfolding is_unsettled goes_on effect_in top_in moving is_kept is_live_of is_through has_net is_at_net is_free added is_aspect
nine_more_steps_are_accepted = refl

one_operation_at_a_time : refused (asks 2 (scale_out 9) running) (scale_in 1) ≡ Some refusals.Ongoing
unfolding is_unsettled goes_on effect_in top_in moving is_kept is_live_of is_through has_net is_at_net is_free added is_aspect
one_operation_at_a_time = refl

an_instance_in_use_is_not_deleted : delete_refusal (asks 1 instantiate begun) 1 ≡ Some refusals.Ongoing
unfolding is_unsettled goes_on effect_in top_in moving is_kept is_live_of is_through has_net is_at_net is_free added is_aspect
an_instance_in_use_is_not_deleted = refl

an_instantiated_instance_is_not_instantiated_again : refused running instantiate ≡ Some refusals.Instantiated
unfolding is_unsettled goes_on effect_in top_in moving is_kept is_live_of is_through has_net is_at_net is_free added is_aspect
an_instantiated_instance_is_not_instantiated_again = refl

an_unknown_machine_is_not_healed : refused running (Heal None (record { vdu = 0; serial = 9 } ∷ [])) ≡ Some refusals.UnknownVnfc
unfolding is_unsettled goes_on effect_in top_in moving is_kept is_live_of is_through has_net is_at_net is_free added is_aspect
an_unknown_machine_is_not_healed = refl

a_started_instance_has_nothing_to_start : refused running (Operate true None) ≡ Some refusals.NothingToDo
unfolding is_unsettled goes_on effect_in top_in moving is_kept is_live_of is_through has_net is_at_net is_free added is_aspect
a_started_instance_has_nothing_to_start = refl

the_present_level_is_nothing_to_do : refused running (ScaleToLevel (aims.Level (codes "normal"))) ≡ Some refusals.NothingToDo
unfolding is_unsettled goes_on effect_in top_in moving is_kept is_live_of is_through has_net is_at_net is_free added is_aspect
the_present_level_is_nothing_to_do = refl

terminate_is_not_rolled_back : task_refusal kinds.Terminate FailedTemp Rollback ≡ Some NotSupported
unfolding is_unsettled goes_on effect_in top_in moving is_kept is_live_of is_through has_net is_at_net is_free added is_aspect
terminate_is_not_rolled_back = refl

what_is_completed_is_not_cancelled : task_refusal kinds.Instantiate Completed Cancel ≡ Some (WrongState Completed)
unfolding is_unsettled goes_on effect_in top_in moving is_kept is_live_of is_through has_net is_at_net is_free added is_aspect
what_is_completed_is_not_cancelled = refl

-- What is not allowed.

nothing_begins_before_the_grant : IsAllowed 7 (asks 1 instantiate begun) (Intent (attempt 1 0 1 Forward)) → ⊥
unfolding is_unsettled goes_on effect_in top_in moving is_kept is_live_of is_through has_net is_at_net is_free added is_aspect
nothing_begins_before_the_grant a = let works : Starting ≡ Processing = a.works in cc

links_are_not_removed_first : IsAllowed 7 (at (Moved 1 RollingBack) ∷ at (Moved 1 FailedTemp) ∷ half_way) (Intent (attempt 1 0 2 Undo)) → ⊥
unfolding is_unsettled goes_on effect_in top_in moving is_kept is_live_of is_through has_net is_at_net is_free added is_aspect
links_are_not_removed_first a = let turn : false ≡ true = a.turn.1 in cc

an_open_attempt_does_not_complete :
    IsAllowed 7 (at (Intent (attempt 1 12 1 Forward)) ∷ does_first 1 12 (granted 1 13 (asks 1 instantiate begun))) (Moved 1 Completed) → ⊥
unfolding is_unsettled goes_on effect_in top_in moving is_kept is_live_of is_through has_net is_at_net is_free added is_aspect
an_open_attempt_does_not_complete a = let quiet : (attempt 1 12 1 Forward ∷ []) ≡ [] = a.1.0.none_open in cc

an_attempt_is_not_begun_twice : IsAllowed 7 (at (Intent (attempt 1 3 1 Forward)) ∷ half_way) (Intent (attempt 1 3 2 Forward)) → ⊥
unfolding is_unsettled goes_on effect_in top_in moving is_kept is_live_of is_through has_net is_at_net is_free added is_aspect
an_attempt_is_not_begun_twice a = let none : (attempt 1 3 1 Forward ∷ []) ≡ [] = a.none_open in cc

a_change_is_not_made_twice : IsAllowed 7 half_way (Intent (attempt 1 2 2 Forward)) → ⊥
unfolding is_unsettled goes_on effect_in top_in moving is_kept is_live_of is_through has_net is_at_net is_free added is_aspect
a_change_is_not_made_twice a = let waits : net half_way 1 2 ≡ 0 = a.turn.0 in cc

a_graceful_cancel_begins_nothing : IsAllowed 7 (at (CancelAsked 1 modes.Graceful) ∷ half_way) (Intent (attempt 1 3 1 Forward)) → ⊥
unfolding is_unsettled goes_on effect_in top_in moving is_kept is_live_of is_through has_net is_at_net is_free added is_aspect
a_graceful_cancel_begins_nothing a = let cancelled : true ≡ false = a.no_cancel in cc

an_operation_is_asked_with_its_plan :
    IsAllowed 7 begun (Asked (record { occ = 1; instance = 1; role = Element; ask = instantiate; changes = [] })) → ⊥
unfolding is_unsettled goes_on effect_in top_in moving is_kept is_live_of is_through has_net is_at_net is_free added is_aspect
an_operation_is_asked_with_its_plan a = let short : [] ≡ planned begun instantiate = a.planned.1 in cc

-- What is allowed.

the_next_change_may_begin : IsAllowed 7 half_way (Intent (attempt 1 3 1 Forward))
unfolding is_unsettled goes_on effect_in top_in moving is_kept is_live_of is_through has_net is_at_net is_free added is_aspect
the_next_change_may_begin = record {
  works = refl;
  no_trouble = refl;
  no_cancel = refl;
  room = lit< tt;
  none_open = refl;
  number = refl;
  turn = (refl, refl);
}

-- Notices.

everything : Filter
unfolding is_unsettled goes_on effect_in top_in moving is_kept is_live_of is_through has_net is_at_net is_free added is_aspect
everything = record { vnfds = []; instances = []; names = []; notices = []; operations = []; states = [] }

watched : List Event
unfolding is_unsettled goes_on effect_in top_in moving is_kept is_live_of is_through has_net is_at_net is_free added is_aspect
watched = at (Moved 1 Processing) ∷ at (Granted 1 (codes "g1") (somewhere ∷ []) (replicate 13 0))
    ∷ asks 1 instantiate (at (Subscribed 1 Element (codes "http://127.0.0.1:9900/n") everything) ∷ begun)

what_was_before_the_subscription_is_not_told : notices 7 watched 1 ≡ 6 ∷ 4 ∷ []
unfolding watched everything is_unsettled goes_on effect_in top_in moving is_kept is_live_of is_through has_net is_at_net is_free added
    is_aspect
what_was_before_the_subscription_is_not_told = refl

the_first_notice_is_due : next_notice 7 watched 1 ≡ Some 4
unfolding watched everything is_unsettled goes_on effect_in top_in moving is_kept is_live_of is_through has_net is_at_net is_free added
    is_aspect
the_first_notice_is_due = refl

four_tries_do_not_pass_it : next_notice 7 (replicate 4 (at (Posted 1 4 NotTaken)) ++ watched) 1 ≡ Some 4
unfolding watched everything is_unsettled goes_on effect_in top_in moving is_kept is_live_of is_through has_net is_at_net is_free added
    is_aspect
four_tries_do_not_pass_it = refl

five_tries_pass_it : next_notice 7 (replicate 5 (at (Posted 1 4 NotTaken)) ++ watched) 1 ≡ Some 6
unfolding watched everything is_unsettled goes_on effect_in top_in moving is_kept is_live_of is_through has_net is_at_net is_free added
    is_aspect
five_tries_pass_it = refl

what_was_delivered_is_passed : next_notice 7 (at (Posted 1 4 Delivered) ∷ watched) 1 ≡ Some 6
unfolding watched everything is_unsettled goes_on effect_in top_in moving is_kept is_live_of is_through has_net is_at_net is_free added
    is_aspect
what_was_delivered_is_passed = refl

places_stand_in_the_order_of_changes :
    distinct_places (somewhere ∷ record { vim = codes "vim2"; zone = [] } ∷ somewhere ∷ [])
    ≡ somewhere ∷ record { vim = codes "vim2"; zone = [] } ∷ []
unfolding is_unsettled goes_on effect_in top_in moving is_kept is_live_of is_through has_net is_at_net is_free added is_aspect
places_stand_in_the_order_of_changes = refl

one_row : List ℕ → List (List ℕ × Place)
one_row id = (id, somewhere) ∷ []

only_stops : List Change
unfolding is_unsettled goes_on effect_in top_in moving is_kept is_live_of is_through has_net is_at_net is_free added is_aspect
only_stops = change Stop (def_of Compute 0 1 0) ∷ []

a_grant_that_misses_a_change_does_not_cover : covers only_stops [] [] [] ≡ false
unfolding only_stops is_unsettled goes_on effect_in top_in moving is_kept is_live_of is_through has_net is_at_net is_free added is_aspect
a_grant_that_misses_a_change_does_not_cover = refl

a_grant_that_names_a_change_twice_does_not_cover : covers only_stops [] [] (one_row (codes "d0") ++ one_row (codes "d0")) ≡ false
unfolding only_stops one_row is_unsettled goes_on effect_in top_in moving is_kept is_live_of is_through has_net is_at_net is_free added
    is_aspect
a_grant_that_names_a_change_twice_does_not_cover = refl
