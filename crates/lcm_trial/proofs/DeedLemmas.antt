-- The deeds of a turn are those of the stages of a trial.
use Rattle.std.proofs.Common.{◌≡◌, ◌∙◌, ◌+◌, ℕ, List, [], ◌∷◌, Option, Some, ap, map, refl, subst, sym}
use Rattle.std.specs.Option.{option_map_or}
use Rattle.std.specs.Prelude.{option_and_then, option_map}
use Rattle.grant_desk.specs.GrantAll.{answer_to}
use Rattle.lcm_events.specs.declared.acts.Act.{Act}
use Rattle.lcm_events.specs.declared.attempts.Tag.{Tag}
use Rattle.lcm_events.specs.declared.events.Event.{Event}
use Rattle.lcm_model.specs.Next.{next_action}
use Rattle.lcm_model.specs.declared.actions.Action.{Action}
use Rattle.lcm_model.specs.declared.actions.Action.TheVariants.{AbortAndLook, AskForGrant, Begin, Look, MoveTo, Poll}
use Rattle.occ_work.specs.Around.{Around, ReachTells, telling}
use Rattle.occ_work.specs.Deeds.{Deed, Exchange, IsDeed, IsExchangeOf, aborted, asked, began, looked, nothing, once_done, polled}
use Rattle.occ_work.specs.Turns.{DeedsDo, once_all_done}
use Rattle.site_traits.specs.Answer.{Answer}
use Rattle.site_traits.specs.KeptJobs.{resource_name}
use Rattle.site_traits.specs.declared.jobs.BeginAnswer.{BeginAnswer}
use Rattle.site_traits.specs.declared.jobs.LookAnswer.{LookAnswer}
use Rattle.site_traits.specs.declared.jobs.LookAnswer.TheVariants as look
use Rattle.site_traits.specs.declared.orchestrator.Call.{Call}
use Rattle.site_traits.specs.declared.orchestrator.Call.TheVariants as call
use Rattle.trial_outside.specs.Planned.{planned}
use Rattle.lcm_trial.specs.Playing.{IsAround}
use Rattle.lcm_trial.specs.Stages.{Stage, acted, all_acted, begins_after, deed_at, deed_with, done_at, exchange_at, grants_after}
use Rattle.lcm_trial.specs.Stages.{jobs_after, place_of}
use Rattle.lcm_trial.proofs.AbortLemmas.{aborts_some}
use Rattle.lcm_trial.proofs.OutsideLemmas.{AbortsSome, IsAnswered, IsHandled, IsPlannedPeer, IsPlannedSite, WasAnswered, WasHandled}
use Rattle.lcm_trial.proofs.OutsideLemmas.{peer_before, site_before}

-- both the site and the orchestrator tell
abbrev pub both_tell : ReachTells
both_tell = telling (Unit {0}) (Unit {0})

-- an exchange with the orchestrator, and an infrastructure, that went as planned is the one of the stage
exchange_is : (s : Stage) (o : ℕ) (action : Action) (x : Exchange) (b : Around) → IsExchangeOf 1 s.history o action x
    → WasAnswered x b.orchestrator → WasHandled x b.infrastructure → IsAround s b → exchange_at s o action ≡ Some x
exchange_is s o (MoveTo to) nothing b is told handled at = refl
exchange_is s o AskForGrant (asked body ended heard) b is told handled at =
    ap (λ (words : Option (List ℕ)). option_and_then (λ (w : List ℕ). option_map (asked w call.Came) (answer_to s.grants w)) words) is
    ∙ ap (λ (n : ℕ). option_map (asked body call.Came) (answer_to n body)) (sym at.grants)
    ∙ ap (λ (given : Option Answer). option_map (asked body call.Came) given) told.1
    ∙ ap (λ (e : Call). Some (asked body e heard)) (sym told.0)
exchange_is s o (Begin t) (began tag work answer) b is told handled at =
    ap (λ (w : Option Act). option_map (λ (work : Act). began t work (planned (s.begins + 1))) w) is.1
    ∙ ap (λ (n : ℕ). Some (began t work (planned (n + 1)))) (sym at.begins)
    ∙ ap (λ (a : BeginAnswer). Some (began t work a)) (sym handled)
    ∙ ap (λ (u : Tag). Some (began u work answer)) (sym is.0)
exchange_is s o (Look t) (looked tag answer) b is told handled at =
    let place : place_of t s.jobs ≡ Some handled.0 =
    ap (λ (u : Tag). place_of u s.jobs) (sym is) ∙ ap (λ (ts : List Tag). place_of tag ts) (sym at.jobs) ∙ handled.1 in
    ap (λ (k : Option ℕ). option_map (λ (place : ℕ). looked t (look.Done (resource_name place))) k) place
    ∙ ap (λ (a : LookAnswer). Some (looked t a)) (sym handled.2)
    ∙ ap (λ (u : Tag). Some (looked u answer)) (sym is)
exchange_is s o Poll (polled at ended heard) b is told handled around = absurd told
exchange_is s o (AbortAndLook t) (aborted aborts tag answer) b is told handled around = absurd handled
exchange_is s o action x b is told handled around = absurd is

-- aborts are of some attempts
aborts_are_some : (m : ℕ) (H : List Event) (o : ℕ) (action : Action) (x : Exchange) → next_action H o ≡ Some action
    → IsExchangeOf m H o action x → AbortsSome x
aborts_are_some m H o (AbortAndLook t) (aborted [] tag answer) next is = aborts_some H o t (sym is.1) next
aborts_are_some m H o (MoveTo to) (aborted [] tag answer) next is = is
aborts_are_some m H o AskForGrant (aborted [] tag answer) next is = is
aborts_are_some m H o Poll (aborted [] tag answer) next is = is
aborts_are_some m H o (Begin t) (aborted [] tag answer) next is = is
aborts_are_some m H o (Look t) (aborted [] tag answer) next is = is
aborts_are_some m H o action (aborted (a ∷ aborts) tag answer) next is = tt
aborts_are_some m H o action nothing next is = tt
aborts_are_some m H o action (asked body ended heard) next is = tt
aborts_are_some m H o action (polled at ended heard) next is = tt
aborts_are_some m H o action (began tag work answer) next is = tt
aborts_are_some m H o action (looked tag answer) next is = tt

-- what is around is that of the stage behind the deed
around_after : (s : Stage) (d : Deed) (b c : Around) → IsAnswered d.exchange b.orchestrator c.orchestrator
    → IsHandled d.exchange b.infrastructure c.infrastructure → IsAround s b → IsAround (done_at s d) c
unfolding done_at
around_after s d b c peer site at = record {
  jobs = site.jobs ∙ ap (λ (ts : List Tag). jobs_after d.exchange ts) at.jobs;
  begins = site.begins ∙ ap (λ (n : ℕ). begins_after d.exchange n) at.begins;
  grants = peer.grants ∙ ap (λ (n : ℕ). grants_after d.exchange n) at.grants;
}

-- the occurrences that deeds were done for
abbrev pub occurrences : List Deed → List ℕ
occurrences deeds = map (λ d. d.occ) deeds

-- the stage behind these deeds has their history, and what is around is its
pub record Follows (deeds : List Deed) (s : Stage) (c : Around) : Type 0 where
  pub history : (all_acted (occurrences deeds) s).history ≡ once_all_done 0 s.history deeds
  pub around : IsAround (all_acted (occurrences deeds) s) c

none_followed : (s : Stage) (a c : Around) → c ≡ a → IsAround s a → Follows [] s c
unfolding all_acted
none_followed s a c same at =
    let P : Around → Type 0 = λ x. IsAround s x in
    record { history = refl; around = subst P (sym same) at }

acts_so : (s : Stage) (d : Deed) → deed_at s d.occ ≡ Some d → acted d.occ s ≡ done_at s d
unfolding acted
acts_so s d is = ap (λ (x : Option Deed). option_map_or (done_at s) x s) is

done_history : (s : Stage) (d : Deed) → (done_at s d).history ≡ once_done 0 s.history d
unfolding done_at
done_history s d = refl

one_more_followed : (d : Deed) (before : List Deed) (s : Stage) (b c : Around) → Follows before s b
    → IsDeed 1 (once_all_done 0 s.history before) d → IsAnswered d.exchange b.orchestrator c.orchestrator
    → IsHandled d.exchange b.infrastructure c.infrastructure → Follows (d ∷ before) s c
unfolding all_acted
one_more_followed d before s b c so deed peer site =
    let u : Stage = all_acted (occurrences before) s in
    let N : List Event → Type 0 = λ H. next_action H d.occ ≡ Some d.action in
    let X : List Event → Type 0 = λ H. IsExchangeOf 1 H d.occ d.action d.exchange in
    let next : next_action u.history d.occ ≡ Some d.action = subst N (sym so.history) deed.next in
    let own : IsExchangeOf 1 u.history d.occ d.action d.exchange = subst X (sym so.history) deed.exchange in
    let is : exchange_at u d.occ d.action ≡ Some d.exchange =
    exchange_is u d.occ d.action d.exchange b own peer.was site.was so.around in
    let it : deed_at u d.occ ≡ Some d =
    ap (λ (a : Option Action). option_and_then (λ (action : Action). option_map (deed_with d.occ action) (exchange_at u d.occ action)) a)
    next ∙ ap (λ (x : Option Exchange). option_map (deed_with d.occ d.action) x) is in
    let acts : acted d.occ u ≡ done_at u d = acts_so u d it in
    let P : Stage → Type 0 = λ v. IsAround v c in
    record {
      history = ap (λ (v : Stage). v.history) acts ∙ done_history u d ∙ ap (λ (H : List Event). once_done 0 H d) so.history;
      around = subst P (sym acts) (around_after u d b c peer site so.around);
    }

-- deeds lead from a stage to the one behind them, where all that the outside answered is as planned in the end
pub all_followed : (deeds : List Deed) (s : Stage) (a c : Around) → DeedsDo both_tell 1 0 s.history deeds a c → IsAround s a
    → IsPlannedPeer c.orchestrator → IsPlannedSite c.infrastructure → Follows deeds s c
all_followed [] s a c do_these at peer site = none_followed s a c do_these at
all_followed (d ∷ before) s a c do_these at peer site =
    let b : Around = do_these.0 in
    let deed = do_these.2 in
    let made = do_these.3 in
    let spoken = peer_before d.exchange b.orchestrator c.orchestrator (made.told tt) made.counts peer in
    let handled = site_before d.exchange b.infrastructure c.infrastructure made.handled
    (aborts_are_some 1 (once_all_done 0 s.history before) d.occ d.action d.exchange deed.next deed.exchange) site in
    one_more_followed d before s b c (all_followed before s a b do_these.1 at spoken.before handled.before) deed spoken handled
