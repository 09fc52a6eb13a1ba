-- The turn so far, one act more, and how it ends.
use Rattle.std.proofs.Common.{◌≡◌, ◌≤◌, ◌<◌, ◌+◌, ◌++◌, ◌∙◌, ℕ, List, [], ◌∷◌, None, Some, Ok, Err, refl, ap, sym, subst, length, map, find}
use Rattle.std.proofs.Common.{reverse, arith, nat_lt, suc, inl, inr, ◌⊎◌, append_assoc, length-append}
use mathlib.Core.List.{reverse-cons}
use Rattle.std.proofs.lemmas.List.{length-map, length-reverse}
use Rattle.executor.specs.Managed.{IsReady, Managed}
use Rattle.executor.specs.Work.{Idles, WorksWithJobs, WorksWithJobsJoin, WorksWithJobsLeadOn, went}
use Rattle.executor.proofs.WorkLemmas.{with_jobs}
use Rattle.executor.specs.declared.manager.WorkFault.{WorkFault}
use Rattle.lcm_events.specs.declared.events.Event.{Event}
use Rattle.lcm_model.specs.Allowed.{IsLegal}
use Rattle.occ_work.specs.Acting.{Acts, recording}
use Rattle.occ_work.specs.Around.{Reach, ReachTells, around}
use Rattle.occ_table.specs.Going.{active}
use Rattle.occ_table.proofs.GoingLaws.{active-rises}
use Rattle.occ_work.specs.Deeds.{Deed, Exchange, IsDeed, aborted, asked, began, looked, nothing, polled, IsExchangeOf, IsTried}
use Rattle.occ_work.specs.Deeds.{IsUnexchanged, answered, ending, kinds_of, once_done, point}
use Rattle.lcm_model.specs.declared.actions.Action.{Action}
use Rattle.lcm_model.specs.declared.actions.Action.TheVariants.{AbortAndLook, AskForGrant, Begin, Look, MoveTo, Poll}
use Rattle.occ_work.specs.Counting.{CountsEndings}
use Rattle.occ_work.specs.Turns.{DeedsDo, EndsTurn, TurnEnd, Turns, above, endings, once_all_done, stopped, through}
use Rattle.occ_work.specs.declared.ends.Acted.{Acted}
use Rattle.occ_work.specs.declared.ends.Turn.{Turn}
use Rattle.lcm_model.specs.Work.{window}
use Rattle.occ_work.proofs.OrderLemmas.{all_above_zero, few_active, first-above, none-above, others_stay}

abbrev pub numbers_of : List Deed → List ℕ
numbers_of deeds = reverse (map (λ d. d.occ) deeds)

-- The acts so far: these deeds were done, for all occurrences that were active up to this number, and none ended in a fault.
pub record SoFar (t : ReachTells) (m n : Managed) (now after : ℕ) (turn : Turn) (H : List Event) (w v : Reach) : Type 0 where
  pub deeds : List Deed
  pub works : WorksWithJobs t.site m.ledger.manager H (went (once_all_done now H deeds)) n w.site v.site
  pub saved : n.ledger.saved ≡ m.ledger.saved
  pub deeds_do : DeedsDo t m.ledger.manager now H deeds (around w) (around v)
  pub order : numbers_of deeds ++ above after (active (once_all_done now H deeds)) ≡ active H
  pub counts : CountsEndings turn (endings now H deeds)

abbrev pub TurnSoFar : ReachTells → Managed → Managed → ℕ → ℕ → Turn → Reach → Reach → Type 0
TurnSoFar t m n now after turn w v = (H : List Event) → IsReady t.site m H w.site → SoFar t m n now after turn H w v

-- no act was made yet
pub none_yet : (t : ReachTells) (m : Managed) (now : ℕ) (w : Reach) → Idles t.site w.site
    → TurnSoFar t m m now 0 (record { acted = 0; waiting = 0; unreached = 0 }) w w
none_yet t m now w idles = λ H ready. record {
  deeds = [];
  works = with_jobs t.site m.ledger.manager H (went H) m w.site w.site (idles m H ready);
  saved = refl;
  deeds_do = refl;
  order = all_above_zero m.ledger.manager H ready.keeps.kept.legal;
  counts = record { acted = refl; waiting = refl; unreached = refl };
}

-- the manager is ready for one more
pub ready_so_far : (t : ReachTells) (m n : Managed) (now after : ℕ) (turn : Turn) (w v : Reach) → TurnSoFar t m n now after turn w v
    → WorksWithJobsLeadOn t.site w.site v.site
    → (H : List Event) × IsReady t.site m H w.site → (G : List Event) × IsReady t.site n G v.site
ready_so_far t m n now after turn w v so_far leads ready =
    let it = so_far ready.0 ready.1 in
    (once_all_done now ready.0 it.deeds, leads m.ledger.manager ready.0 (went (once_all_done now ready.0 it.deeds)) n it.works refl)

-- an act that ended well is a deed
was_done : (m : ℕ) (H : List Event) (d : Deed) (done : Acted) → IsTried m H d (Ok done) → IsDeed m H d
was_done m H d done tried = of tried.exchange where
  never : (action : Action) (x : Exchange) → IsUnexchanged action x (Ok done) → ⊥
  never (Begin t) nothing is = is
  never (Begin t) (asked body ended heard) is = is
  never (Begin t) (polled at ended heard) is = is
  never (Begin t) (began tag work answer) is = is
  never (Begin t) (looked tag answer) is = is
  never (Begin t) (aborted aborts tag answer) is = is
  never (MoveTo to) nothing is = is
  never (MoveTo to) x is = is
  never AskForGrant nothing is = is
  never AskForGrant x is = is
  never Poll nothing is = is
  never Poll x is = is
  never (Look t) nothing is = is
  never (Look t) x is = is
  never (AbortAndLook t) nothing is = is
  never (AbortAndLook t) x is = is

  of : IsExchangeOf m H d.occ d.action d.exchange ⊎ IsUnexchanged d.action d.exchange (Ok done) → IsDeed m H d
  of (inl is) = record { next = tried.next; exchange = is }
  of (inr un) = absurd (never d.action d.exchange un)

counted_ends : (now : ℕ) (H : List Event) (deeds : List Deed) → length (endings now H deeds) ≡ length deeds
counted_ends now H [] = refl
counted_ends now H (d ∷ before) = ap suc (counted_ends now H before)

-- one number more behind those before
numbers_on : (d : Deed) (deeds : List Deed) (o : ℕ) (rest all : List ℕ) → d.occ ≡ o → numbers_of deeds ++ o ∷ rest ≡ all
    → numbers_of (d ∷ deeds) ++ rest ≡ all
numbers_on d deeds o rest all own before =
    ap (λ (ns : List ℕ). ns ++ rest) (reverse-cons d.occ (map (λ d. d.occ) deeds))
    ∙ (append_assoc (numbers_of deeds) (d.occ ∷ []) rest
    ∙ (ap (λ (n : ℕ). numbers_of deeds ++ n ∷ rest) own ∙ before))

-- the occurrence whose turn it is stands behind those before
its_turn : (m now after : ℕ) (H : List Event) (deeds : List Deed) (o : ℕ) → IsLegal m (once_all_done now H deeds)
    → find (λ k. nat_lt after k) (active (once_all_done now H deeds)) ≡ Some o
    → numbers_of deeds ++ above after (active (once_all_done now H deeds)) ≡ active H
    → numbers_of deeds ++ o ∷ above o (active (once_all_done now H deeds)) ≡ active H
its_turn m now after H deeds o legal next order =
    let G : List Event = once_all_done now H deeds in
    ap (λ (ns : List ℕ). numbers_of deeds ++ ns) (sym (first-above after (active G) o (active-rises window m G legal) next)) ∙ order

-- there are few acts
few_deeds : (now : ℕ) (H : List Event) (deeds : List Deed) (rest : List ℕ) → numbers_of deeds ++ rest ≡ active H
    → length (endings now H deeds) ≤ length H
few_deeds now H deeds rest order =
    let one = few_active H in
    let two : length (numbers_of deeds ++ rest) ≡ length (active H) = ap length order in
    let three : length (numbers_of deeds ++ rest) ≡ length (numbers_of deeds) + length rest = length-append (numbers_of deeds) rest in
    let four : length (numbers_of deeds) ≡ length (map (λ (d : Deed). d.occ) deeds) = length-reverse (map (λ (d : Deed). d.occ) deeds) in
    let five : length (map (λ (d : Deed). d.occ) deeds) ≡ length deeds = length-map deeds (λ (d : Deed). d.occ) in
    let six = counted_ends now H deeds in
    omega (arith, one, two, three, four, five, six)

grown_long : (H G : List Event) (more : List Event) → G ≡ more ++ H → length H ≤ length G
grown_long H G more is =
    let one : length G ≡ length (more ++ H) = ap length is in
    let two : length (more ++ H) ≡ length more + length H = length-append more H in
    omega (arith, one, two)

-- one act more
pub one_act_more : (t : ReachTells) (m n p : Managed) (now after o : ℕ) (turn counted : Turn) (done : Acted) (w u v : Reach)
    → TurnSoFar t m n now after turn w u
    → WorksWithJobsLeadOn t.site w.site u.site → WorksWithJobsJoin t.site w.site u.site v.site
    → ((G : List Event) → IsReady t.site n G u.site → (find (λ k. nat_lt after k) (active G) ≡ Some o) × (length G < 268435456))
    → ((G : List Event) → IsReady t.site n G u.site → (d : Deed) × (d.occ ≡ o) × Acts t (point n.ledger.manager n.ledger.saved now G) d
    (Ok done) p u v)
    → ((ends : List Acted) → length ends < 4294967295 → CountsEndings turn ends → CountsEndings counted (done ∷ ends))
    → TurnSoFar t m p now o counted w v
one_act_more t m n p now after o turn counted done w u v so_far leads joins next act counts = λ H ready.
    let it = so_far H ready in
    let G : List Event = once_all_done now H it.deeds in
    let upon = leads m.ledger.manager H (went G) n it.works refl in
    let which = next G upon in
    let did = act G upon in
    let d : Deed = did.0 in
    let number : n.ledger.manager ≡ m.ledger.manager = it.works.at_file.number in
    let acts : Acts t (point m.ledger.manager m.ledger.saved now G) d (Ok done) p u v =
    subst (λ (k : ℕ). Acts t (point k m.ledger.saved now G) d (Ok done) p u v) number
    (subst (λ (k : ℕ). Acts t (point n.ledger.manager k now G) d (Ok done) p u v) it.saved did.2) in
    let order = its_turn m.ledger.manager now after H it.deeds o (subst (λ (k : ℕ). IsLegal k G) number upon.keeps.kept.legal) which.0
    it.order in
    let few = few_deeds now H it.deeds (o ∷ above o (active G)) order in
    let long = grown_long H G it.works.at_file.grows.to_stood.more it.works.at_file.grows.to_stood.is in
    let small = which.1 in
    let end_is : done ≡ ending d.action (answered G d) = acts.ended in
    record {
      deeds = d ∷ it.deeds;
      works = joins m.ledger.manager H G (went (once_done now G d)) n p it.works acts.records.works;
      saved = acts.records.saved;
      deeds_do = (around u, it.deeds_do, was_done m.ledger.manager G d done acts.tried, acts.exchanged);
      order =
          ap (λ (ns : List ℕ). numbers_of (d ∷ it.deeds) ++ ns)
          (subst (λ (k : ℕ). above k (active (once_done now G d)) ≡ above k (active G)) did.1
          (others_stay now G d.occ d.action (answered G d)))
          ∙ numbers_on d it.deeds o (above o (active G)) (active H) did.1 order;
      counts = subst (λ (e : Acted). CountsEndings counted (e ∷ endings now H it.deeds)) end_is
          (counts (endings now H it.deeds) (omega (arith, few, long, small)) it.counts);
    }

-- all acts were made
pub went_through : (t : ReachTells) (m n : Managed) (now after : ℕ) (turn : Turn) (w v : Reach) → TurnSoFar t m n now after turn w v
    → WorksWithJobsLeadOn t.site w.site v.site
    → ((G : List Event) → IsReady t.site n G v.site → find (λ k. nat_lt after k) (active G) ≡ None)
    → (H : List Event) → IsReady t.site m H w.site
    → (deeds : List Deed) × (end : TurnEnd) × Turns t (point m.ledger.manager m.ledger.saved now H) deeds end n w v
    × EndsTurn (Ok turn) (endings now H deeds) end
went_through t m n now after turn w v so_far leads none H ready =
    let it = so_far H ready in
    let G : List Event = once_all_done now H it.deeds in
    let over = none-above after (active G) (none G (leads m.ledger.manager H (went G) n it.works refl)) in (
      it.deeds,
      through,
      record {
        works = it.works;
        saved = it.saved;
        between = around v;
        deeds_do = it.deeds_do;
        end_does = refl;
        order = nil_right (numbers_of it.deeds) ∙ (ap (λ (ns : List ℕ). numbers_of it.deeds ++ ns) (sym over) ∙ it.order);
      },
      it.counts,
    ) where
      nil_right : (ns : List ℕ) → ns ≡ ns ++ []
      nil_right [] = refl
      nil_right (n ∷ ns) = ap (λ (ks : List ℕ). n ∷ ks) (nil_right ns)

-- an act ended in a fault
pub was_stopped : (t : ReachTells) (m n p : Managed) (now after o : ℕ) (turn : Turn) (why : WorkFault) (w u v : Reach)
    → TurnSoFar t m n now after turn w u
    → WorksWithJobsLeadOn t.site w.site u.site → WorksWithJobsJoin t.site w.site u.site v.site
    → ((G : List Event) → IsReady t.site n G u.site → find (λ k. nat_lt after k) (active G) ≡ Some o)
    → ((G : List Event) → IsReady t.site n G u.site → (d : Deed) × (d.occ ≡ o) × Acts t (point n.ledger.manager n.ledger.saved now G) d
    (Err why) p u v)
    → (H : List Event) → IsReady t.site m H w.site
    → (deeds : List Deed) × (end : TurnEnd) × Turns t (point m.ledger.manager m.ledger.saved now H) deeds end p w v
    × EndsTurn (Err why) (endings now H deeds) end
was_stopped t m n p now after o turn why w u v so_far leads joins next act H ready =
    let it = so_far H ready in
    let G : List Event = once_all_done now H it.deeds in
    let upon = leads m.ledger.manager H (went G) n it.works refl in
    let did = act G upon in
    let d : Deed = did.0 in
    let number : n.ledger.manager ≡ m.ledger.manager = it.works.at_file.number in
    let acts : Acts t (point m.ledger.manager m.ledger.saved now G) d (Err why) p u v =
    subst (λ (k : ℕ). Acts t (point k m.ledger.saved now G) d (Err why) p u v) number
    (subst (λ (k : ℕ). Acts t (point n.ledger.manager k now G) d (Err why) p u v) it.saved did.2) in
    let order = its_turn m.ledger.manager now after H it.deeds o (subst (λ (k : ℕ). IsLegal k G) number upon.keeps.kept.legal)
    (next G upon) it.order in (
      it.deeds,
      stopped d why,
      record {
        works = joins m.ledger.manager H G (recording now (kinds_of G d) G (Err why)) n p it.works acts.records.works;
        saved = acts.records.saved;
        between = around u;
        deeds_do = it.deeds_do;
        end_does = (acts.tried, acts.exchanged, acts.records.room);
        order = (above o (active G), numbers_on d it.deeds o (above o (active G)) (active H) did.1 order);
      },
      refl,
    )
