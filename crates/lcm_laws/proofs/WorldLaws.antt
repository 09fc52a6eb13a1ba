-- What stands is on what stands, in every legal history.
use Rattle.std.proofs.Common.{◌≡◌, ◌-◌, ◌&&◌, ◌==◌, ◌∙◌, ℕ, List, [], ◌∷◌, Bool, true, false, cond, not, Option, None, Some, refl, ap, sym}
use Rattle.std.proofs.Common.{subst, arith, inl, inr, eqb-true, eq-eqb, slice_get}
use Rattle.lcm_events.specs.declared.asks.Ask.{Ask}
use Rattle.lcm_events.specs.declared.asks.Ask.TheVariants.{Heal, Instantiate, Operate, Scale, ScaleToLevel, Terminate}
use Rattle.lcm_events.specs.declared.attempts.Outcome.{Outcome}
use Rattle.lcm_events.specs.declared.attempts.Outcome.TheVariants.{Done}
use Rattle.lcm_events.specs.declared.attempts.Tag.{Tag}
use Rattle.lcm_events.specs.declared.attempts.Way.TheVariants.{Forward, Undo}
use Rattle.lcm_events.specs.declared.changes.Change.{Change}
use Rattle.lcm_events.specs.declared.changes.Def.{Def}
use Rattle.lcm_events.specs.declared.changes.DefKind.TheVariants.{Compute}
use Rattle.lcm_events.specs.declared.changes.Verb.TheVariants.{Create}
use Rattle.lcm_events.specs.declared.descriptor.Vnfd.{Vnfd}
use Rattle.lcm_events.specs.declared.events.Event.{Event}
use Rattle.lcm_events.specs.declared.events.EventKind.{EventKind}
use Rattle.lcm_events.specs.declared.events.EventKind.TheVariants.{Asked, Intent, Moved, Settled}
use Rattle.lcm_events.specs.declared.events.Operation.{Operation}
use Rattle.lcm_events.specs.declared.states.OpState.{OpState}
use Rattle.lcm_model.specs.declared.refusals.Refusal.TheVariants as refusals
use Rattle.lcm_model.specs.Words.{IsIn, when}
use Rattle.lcm_model.specs.Moves.{is_final, state}
use Rattle.lcm_model.specs.Attempts.{done_count, net}
use Rattle.lcm_model.specs.Operations.{operation, verb_done}
use Rattle.lcm_model.specs.Holding.{effect, effect_in, stands}
use Rattle.lcm_model.specs.Lives.{descriptor}
use Rattle.lcm_model.specs.Vnfcs.{is_def_of, is_in_step, links}
use Rattle.lcm_model.specs.Needs.{needs}
use Rattle.lcm_model.specs.Plans.{Case, makes_links, new_by}
use Rattle.lcm_model.specs.Refusals.{Situation, ask_refusal, case_in, content_refusal, instantiation_refusal, needs_started, needs_step}
use Rattle.lcm_model.specs.Refusals.{plan_refusal, situation, state_refusal}
use Rattle.lcm_model.specs.Allowed.{IsAllowedWithin, IsLegalWithin, IsPlanOf}
use Rattle.lcm_laws.specs.Asking.{IsUntouched}
use Rattle.lcm_laws.specs.Standing.{IsOfInstance}
use Rattle.lcm_laws.proofs.Histories.{event, legal_induction}
use Rattle.lcm_laws.proofs.Lists.{and_right, by_test, none_of-front, none_of-rest, when-none}
use Rattle.lcm_laws.proofs.AboutLaws.{unasked_untouched}
use Rattle.lcm_laws.proofs.AskLaws.{new_none}
use Rattle.lcm_laws.proofs.BoundLaws.{moved_touched}
use Rattle.lcm_laws.proofs.CoverLaws.{all_in}
use Rattle.lcm_laws.proofs.HoldLaws.{moved_from, one_value, stands_elsewhere}
use Rattle.lcm_laws.proofs.MakerLaws.{asked_stands}
use Rattle.lcm_laws.proofs.NeedLaws.{IsDone, IsPlannedOver, Rooted, Tracks, tracks_done}
use Rattle.lcm_laws.proofs.NetLaws.{made_at_most_once, open_fits}
use Rattle.lcm_laws.proofs.OrderLaws.{ordered, turn_at}
use Rattle.lcm_laws.proofs.PlanHistory.{descriptor_valid}
use Rattle.lcm_laws.proofs.PlannedLaws.{asked_absent}
use Rattle.lcm_laws.proofs.RootLaws.{rooted_now, work_finds}
use Rattle.lcm_laws.proofs.SettledLaws.{net-done, net-other_occ, one_going, open_operation, stands-nothing, what_is_done, works_on}
use Rattle.lcm_laws.proofs.StandLaws.{descriptor-next, stands_of}

-- an operation that goes on, with its plan and what it has done of it
pub record Follows (H : List Event) (i o : ℕ) (a : Operation) : Type 0 where
  pub p : Case
  pub described : descriptor H i ≡ Some p.vnfd
  pub over : IsPlannedOver p a
  pub tracks : Tracks H i o a p.held.stands

-- what stands of the instance is on what stands
abbrev IsRooted : List Event → ℕ → Type 0
IsRooted H i = (d : Vnfd) → descriptor H i ≡ Some d → Rooted d (stands H i)

abbrev AllFollow : List Event → ℕ → Type 0
AllFollow H i = (o : ℕ) (a : Operation) → operation H o ≡ Some a → a.instance ≡ i → is_final (state H o) ≡ false → Follows H i o a

record World (H : List Event) (i : ℕ) : Type 0 where
  rooted : IsRooted H i
  follows : AllFollow H i

-- where an event leaves what stands, it is still rooted
rooted_kept : (width m : ℕ) (H : List Event) (time : ℕ) (k : EventKind) (i : ℕ) → IsLegalWithin width m H → IsAllowedWithin width m H k
    → ((x : Def) → stands (event time k ∷ H) i x ≡ stands H i x) → IsRooted H i → IsRooted (event time k ∷ H) i
rooted_kept width m H time k i legal allowed same h d described =
    let back : (x : Def) → stands (event time k ∷ H) i x ≡ true → descriptor H i ≡ Some d = λ x s. (
    let of : IsOfInstance H i x = stands_of width m H legal i x (sym (same x) ∙ s) in
    let later : descriptor (event time k ∷ H) i ≡ Some of.0 = descriptor-next width m H time k i of.0 legal allowed of.1 in
    of.1 ∙ ap Some (one_value (descriptor (event time k ∷ H) i) of.0 d later described)
    ) in
    record {
      on = λ x s y among. same y ∙ (h d (back x s)).on x (sym (same x) ∙ s) y among;
      linked = λ x is s y among. same y ∙ (h d (back x s)).linked x is (sym (same x) ∙ s) y among;
    }

tracks_kept : (H H' : List Event) (i o : ℕ) (a : Operation) (S : Def → Bool) → ((x : Def) → stands H' i x ≡ stands H i x)
    → ((c : ℕ) (k : Change) → slice_get a.changes c ≡ Some k → net H' o c ≡ net H o c) → Tracks H i o a S → Tracks H' i o a S
tracks_kept H H' i o a S same nets t = record {
  came = λ x s. (elim (t.came x (sym (same x) ∙ s)) [
    | inl before ↦ inl before
    | inr has ↦ inr (has.0, has.1, has.2, has.3, has.4, nets has.0 has.1 has.2 ∙ has.5)
  ]);
  kept = λ x s c k ec def remove. nets c k ec ∙ t.kept x (sym (same x) ∙ s) c k ec def remove;
  stay = λ x s f. same x ∙ t.stay x s (λ c k ec def remove. sym (nets c k ec) ∙ f c k ec def remove);
  made = λ x has. same x ∙ t.made x (has.0, has.1, has.2, has.3, has.4, sym (nets has.0 has.1 has.2) ∙ has.5);
}

follows_kept : (width m : ℕ) (H : List Event) (time : ℕ) (k : EventKind) (i o : ℕ) (a : Operation) → IsLegalWithin width m H
    → IsAllowedWithin width m H k
    → ((x : Def) → stands (event time k ∷ H) i x ≡ stands H i x)
    → ((c : ℕ) (j : Change) → slice_get a.changes c ≡ Some j → net (event time k ∷ H) o c ≡ net H o c) → Follows H i o a
    → Follows (event time k ∷ H) i o a
follows_kept width m H time k i o a legal allowed same nets f = record {
  p = f.p;
  described = descriptor-next width m H time k i f.p.vnfd legal allowed f.described;
  over = f.over;
  tracks = tracks_kept H (event time k ∷ H) i o a f.p.held.stands same nets f.tracks;
}

-- an operation is asked for
step_needed : (ask : Ask) (p : Case) (v s : ℕ) → IsIn s (new_by ask p v) → makes_links ask ≡ false → needs_step ask ≡ true
step_needed (Scale way aspect steps) p v s h e = refl
step_needed (ScaleToLevel aim) p v s h e = refl
step_needed (Operate started stop) p v s h e = refl
step_needed (Terminate mode timeout) p v s h e = absurd h
step_needed (Instantiate flavour level) p v s h e = cc
step_needed (Heal cause named) p v s h e = cc

both_false : (a b : Bool) → (a && not b) ≡ false → a ≡ true → b ≡ true
both_false true true e h = refl
both_false true false e h = cc
both_false false b e h = cc

pub in_step : (d : Vnfd) (now : Situation) (ask : Ask) → ask_refusal d now ask ≡ None → needs_step ask ≡ true
    → is_in_step d now.held now.levels now.started ≡ true
in_step d now ask e need =
    let state : state_refusal d now ask ≡ None = none_of-front (state_refusal d now ask) (plan_refusal d now ask ∷ [])
    (none_of-rest (content_refusal d ask) (state_refusal d now ask ∷ plan_refusal d now ask ∷ []) e) in
    let out = when (needs_step ask && not (is_in_step d now.held now.levels now.started)) refusals.OutOfStep in
    let stopped = when (needs_started ask && not now.started) refusals.Stopped in
    let busy = when now.busy refusals.Ongoing in
    both_false (needs_step ask) (is_in_step d now.held now.levels now.started)
    (when-none (needs_step ask && not (is_in_step d now.held now.levels now.started)) refusals.OutOfStep
    (none_of-front out (stopped ∷ []) (none_of-rest busy (out ∷ stopped ∷ [])
    (none_of-rest (instantiation_refusal ask now.instantiated) (busy ∷ out ∷ stopped ∷ []) state)))) need

planned_over : (width m : ℕ) (H : List Event) (b : Operation) (d : Vnfd) → IsLegalWithin width m H → IsAllowedWithin width m H (Asked b)
    → descriptor H b.instance ≡ Some d
    → IsPlanOf H b (Some d) → IsRooted H b.instance → IsPlannedOver (case_in d (situation d H b.instance) b.ask) b
planned_over width m H b d legal allowed described h rooted = record {
  planned = h.1;
  valid = descriptor_valid width m H b.instance d legal described;
  makes = λ k has is. asked_absent width m H b legal allowed k has is;
  others = λ k has other. asked_stands width m H b allowed k has other;
  rooted = rooted d described;
  linked = λ v s made no_links y among.
      (let step = in_step d (situation d H b.instance) b.ask h.0 (step_needed b.ask
      (case_in d (situation d H b.instance) b.ask) v s made no_links) in
      all_in (stands H b.instance) y (links d) (and_right _ _ step) among);
  own = λ x s.
      (let of : IsOfInstance H b.instance x = stands_of width m H legal b.instance x s in
      subst (λ (e : Vnfd). is_def_of e x ≡ true) (one_value (descriptor H b.instance) of.0 d of.1 described) of.2);
  low = λ x s. (stands_of width m H legal b.instance x s).3;
}

less_zero : (n k : ℕ) → n ≡ 0 → n - k ≡ 0
less_zero n k e = omega (arith, e)

-- nothing of it is made yet
tracks_new : (H : List Event) (i o : ℕ) (a : Operation) → ((c : ℕ) → net H o c ≡ 0) → Tracks H i o a (stands H i)
tracks_new H i o a nets = record {
  came = λ x s. inl s;
  kept = λ x s c k ec def remove. nets c;
  stay = λ x s f. s;
  made = λ x has. (let none = nets has.0 in let one = has.5 in absurd (omega (arith, none, one)));
}

follows_of : (width m : ℕ) (H : List Event) (b : Operation) (d : Option Vnfd) → IsLegalWithin width m H
    → IsAllowedWithin width m H (Asked b) → descriptor H b.instance ≡ d
    → IsPlanOf H b d → IsRooted H b.instance → Follows H b.instance b.occ b
follows_of width m H b None legal allowed described h rooted = absurd h
follows_of width m H b (Some d) legal allowed described h rooted =
    let new : IsUntouched H b.occ = unasked_untouched width m H legal b.occ
    (new_none width m H b.occ (operation H b.occ) legal allowed.number refl) in
    record {
      p = case_in d (situation d H b.instance) b.ask;
      described = described;
      over = planned_over width m H b d legal allowed described h rooted;
      tracks = tracks_new H b.instance b.occ b (λ c. less_zero (done_count Forward H b.occ c) (done_count Undo H b.occ c)
          (new.none_done Forward c));
    }

follows_asked : (width m : ℕ) (H : List Event) (time : ℕ) (b : Operation) (i : ℕ) → IsLegalWithin width m H
    → IsAllowedWithin width m H (Asked b) → World H i
    → AllFollow (event time (Asked b) ∷ H) i
unfolding effect_in
follows_asked width m H time b i legal allowed w o a found at goes = by_test (b.occ == o)
    (λ same.
    let is : Some b ≡ Some a = subst (λ (t : Bool). cond t (Some b) (operation H o) ≡ Some a) same found in
    let one : b ≡ a = cc in
    let ours : b.instance ≡ i = ap (λ (z : Operation). z.instance) one ∙ at in
    let rooted : IsRooted H b.instance = subst (λ (n : ℕ). IsRooted H n) (sym ours) w.rooted in
    let here : Follows H b.instance b.occ b = follows_of width m H b (descriptor H b.instance) legal allowed refl allowed.planned rooted in
    let at_i : Follows H i b.occ b = subst (λ (n : ℕ). Follows H n b.occ b) ours here in
    let at_o : Follows H i o b = subst (λ (n : ℕ). Follows H i n b) (eqb-true b.occ o same) at_i in
    let at_a : Follows H i o a = subst (λ (z : Operation). Follows H i o z) one at_o in
    follows_kept width m H time (Asked b) i o a legal allowed (λ x. refl) (λ c j e. refl) at_a)
    (λ other.
    let before : operation H o ≡ Some a = subst (λ (t : Bool). cond t (Some b) (operation H o) ≡ Some a) other found in
    follows_kept width m H time (Asked b) i o a legal allowed (λ x. refl) (λ c j e. refl) (w.follows o a before at goes))

-- an attempt of an operation of the instance ends
follows_ended : (width m : ℕ) (H : List Event) (time : ℕ) (u : Tag) (out : Outcome) (i : ℕ) (a : Operation) → IsLegalWithin width m H
    → IsAllowedWithin width m H (Settled u out)
    → operation H u.occ ≡ Some a → a.instance ≡ i → Follows H i u.occ a → Follows (event time (Settled u out) ∷ H) i u.occ a
follows_ended width m H time u out i a legal opened found at f = elim (what_is_done H time u out a found) [
  | inl nothing ↦ follows_kept width m H time (Settled u out) i u.occ a legal opened
      (λ x. stands-nothing H time u out i x nothing.0) nothing.1 f
  | inr change ↦
      (let eff : effect_in H (Settled u (Done change.0)) ≡ Some (effect u change.0 a change.1) =
      subst (λ (q : Outcome). effect_in H (Settled u q) ≡ Some (effect u change.0 a change.1)) change.2 change.4 in
      let done : IsDone H time u change.0 i a change.1 = record {
        opened = opened;
        at = at;
        is = change.3;
        eff = eff;
        after = net-done width m H time u change.0 legal opened;
        before = open_fits width m H legal u opened;
      } in
      subst (λ (q : Outcome). Follows (event time (Settled u q) ∷ H) i u.occ a) (sym change.2) (record {
        p = f.p;
        described = descriptor-next width m H time (Settled u (Done change.0)) i f.p.vnfd legal opened f.described;
        over = f.over;
        tracks = tracks_done H time u change.0 i a change.1 f.p done f.over (ordered width m H legal u.occ a found) f.tracks;
      }))
]

world_ours : (width m : ℕ) (H : List Event) (time : ℕ) (u : Tag) (out : Outcome) (i : ℕ) (mine : Operation) → IsLegalWithin width m H
    → IsAllowedWithin width m H (Settled u out)
    → operation H u.occ ≡ Some mine → is_final (state H u.occ) ≡ false → mine.instance ≡ i → World H i
    → World (event time (Settled u out) ∷ H) i
world_ours width m H time u out i mine legal opened found goes at w =
    let now : Follows (event time (Settled u out) ∷ H) i u.occ mine =
    follows_ended width m H time u out i mine legal opened found at (w.follows u.occ mine found at goes) in
    let later = event time (Settled u out) ∷ H in
    record {
      rooted = λ d described.
          (let same : now.p.vnfd ≡ d = one_value (descriptor later i) now.p.vnfd d now.described described in
          subst (λ (e : Vnfd). Rooted e (stands later i)) same
          (rooted_now later i u.occ mine now.p now.over now.tracks (ordered width m later (opened, legal) u.occ mine found)
          (λ c. (made_at_most_once width m later (opened, legal) u.occ c).net)));
      follows = λ o a asked ours still.
          (let one : u.occ ≡ o = one_going width m H i o u.occ a mine legal asked ours still found at goes in
          let here : operation H o ≡ Some mine = subst (λ (n : ℕ). operation H n ≡ Some mine) one found in
          let op : mine ≡ a = one_value (operation H o) mine a here asked in
          subst (λ (z : Operation). Follows later i o z) op (subst (λ (n : ℕ). Follows later i n mine) one now));
    }

world_settled : (width m : ℕ) (H : List Event) (time : ℕ) (u : Tag) (out : Outcome) (i : ℕ) → IsLegalWithin width m H
    → IsAllowedWithin width m H (Settled u out) → World H i
    → World (event time (Settled u out) ∷ H) i
world_settled width m H time u out i legal opened w =
    let mine = open_operation width m H u legal opened in
    by_test (mine.0.instance == i)
    (λ ours. world_ours width m H time u out i mine.0 legal opened mine.1 mine.2 (eqb-true mine.0.instance i ours) w)
    (λ away.
    let same : (x : Def) → stands (event time (Settled u out) ∷ H) i x ≡ stands H i x =
    λ x. stands_elsewhere H time u out i x mine.0 mine.1 away in
    record {
      rooted = rooted_kept width m H time (Settled u out) i legal opened same w.rooted;
      follows = λ o a found at goes.
          (let other : (u.occ == o) ≡ false = by_test (u.occ == o)
          (λ e.
          let here : operation H u.occ ≡ Some a = subst (λ (n : ℕ). operation H n ≡ Some a) (sym (eqb-true u.occ o e)) found in
          let one : mine.0 ≡ a = one_value (operation H u.occ) mine.0 a mine.1 here in
          let ours : (mine.0.instance == i) ≡ true = eq-eqb mine.0.instance i (ap (λ (z : Operation). z.instance) one ∙ at) in cc)
          (λ e. e) in
          follows_kept width m H time (Settled u out) i o a legal opened same (λ c k e. net-other_occ H time u out o c other)
          (w.follows o a found at goes));
    })

world_step : (width m : ℕ) (H : List Event) (time : ℕ) (k : EventKind) (i : ℕ) → IsLegalWithin width m H → IsAllowedWithin width m H k
    → World H i → World (event time k ∷ H) i
unfolding effect_in
world_step width m H time (Settled u out) i legal allowed w = world_settled width m H time u out i legal allowed w
world_step width m H time (Asked b) i legal allowed w = record {
  rooted = rooted_kept width m H time (Asked b) i legal allowed (λ x. refl) w.rooted;
  follows = follows_asked width m H time b i legal allowed w;
}
world_step width m H time (Moved occ to) i legal allowed w = record {
  rooted = rooted_kept width m H time (Moved occ to) i legal allowed (λ x. refl) w.rooted;
  follows = λ o a found at goes.
      follows_kept width m H time (Moved occ to) i o a legal allowed (λ x. refl) (λ c j e. refl)
      (w.follows o a found at (moved_touched H time occ to o (moved_from H occ to allowed.1) goes));
}
world_step width m H time k i legal allowed w = record {
  rooted = rooted_kept width m H time k i legal allowed (λ x. refl) w.rooted;
  follows = λ o a found at goes. follows_kept width m H time k i o a legal allowed (λ x. refl) (λ c j e. refl)
      (w.follows o a found at goes);
}

world : (width m : ℕ) (H : List Event) → IsLegalWithin width m H → (i : ℕ) → World H i
world width m H legal i =
    legal_induction width m (λ H. World H i) (record { rooted = λ d e. cc; follows = λ o a found at goes. cc })
    (λ H time k legal allowed w. world_step width m H time k i legal allowed w) H legal

-- what stands is on what stands
pub stands_on : (width m : ℕ) (H : List Event) → IsLegalWithin width m H → (i : ℕ) (d : Vnfd) → descriptor H i ≡ Some d
    → (x : Def) → stands H i x ≡ true → (y : Def) → IsIn y (needs d Create x) → stands H i y ≡ true
stands_on width m H legal i d described = ((world width m H legal i).rooted d described).on

-- where a compute stands, all links stand
pub computes_linked : (width m : ℕ) (H : List Event) → IsLegalWithin width m H → (i : ℕ) (d : Vnfd) → descriptor H i ≡ Some d
    → (x : Def) → x.kind ≡ Compute → stands H i x ≡ true → (y : Def) → IsIn y (links d) → stands H i y ≡ true
computes_linked width m H legal i d described = ((world width m H legal i).rooted d described).linked

-- when an attempt may begin, its operation goes on
pub follows_at : (width m : ℕ) (H : List Event) (t : Tag) → IsLegalWithin width m H → IsAllowedWithin width m H (Intent t)
    → (a : Operation) → operation H t.occ ≡ Some a → Follows H a.instance t.occ a
follows_at width m H t legal allowed a found =
    (world width m H legal a.instance).follows t.occ a found refl (subst (λ (s : OpState). is_final s ≡ false) (sym allowed.works)
    (works_on t.way))

-- when an attempt may begin, what its work needs stands
pub work_needs : (width m : ℕ) (H : List Event) (t : Tag) → IsLegalWithin width m H → IsAllowedWithin width m H (Intent t)
    → (a : Operation) (k : Change) (d : Vnfd) → operation H t.occ ≡ Some a → slice_get a.changes t.change ≡ Some k
    → descriptor H a.instance ≡ Some d
    → (y : Def) → IsIn y (needs d (verb_done t.way k.verb) k.def) → stands H a.instance y ≡ true
work_needs width m H t legal allowed a k d found is described y among =
    let f : Follows H a.instance t.occ a = follows_at width m H t legal allowed a found in
    let same : d ≡ f.p.vnfd = one_value (descriptor H a.instance) d f.p.vnfd described f.described in
    let at_turn = turn_at width m H t a k allowed found is in
    work_finds H a.instance t a k f.p t.way k.verb y (record { found = found; is = is; net = at_turn.0; through = at_turn.1 }) f.over
    f.tracks
    (ordered width m H legal t.occ a found) refl refl (subst (λ (e : Vnfd). IsIn y (needs e (verb_done t.way k.verb) k.def)) same among)
