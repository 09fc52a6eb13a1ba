-- What was told of stays.
use Rattle.std.proofs.Common.{◌≤◌, ℕ, List, [], ◌∷◌, ◌++◌, arith, refl, sym, subst, ⊎_elim}
use Rattle.executor.specs.Chain.{AreTold, AreWithin, HasFrom, StaysSince}
use Rattle.executor.specs.Managed.{Managed}
use Rattle.executor.specs.Work.{AtSite, Extends, HasSome, Work, aimed, stood, went}
use Rattle.executor.proofs.WorkLemmas.{extends_trans}
use Rattle.lcm_events.specs.declared.events.Event.{Event}
use Rattle.site_traits.specs.Site.{Pair, SiteState}

-- a history from one on is one from what that begins with
some_from : (m : ℕ) (G H K : List Event) (p : Pair) → Extends G H → HasSome m H K p → HasFrom m G p
some_from m G H K p from some = record { history = some.history; from = extends_trans G H some.history from some.from; file = some.file }

-- one history stays through work behind it
stays_on : (m : ℕ) (G H : List Event) (moment : ℕ) (w : Work) (n : Managed) (a b c : SiteState) → AtSite m H w n b c → Extends G H
    → StaysSince m G moment a b → StaysSince m G moment a c
stays_on m G H moment w n a b c at from stays =
    let later = at.any_moment.later in
    let past = stays.before in
    record {
      behind = stays.behind;
      before = omega (arith, later, past);
      left = λ p left. ⊎_elim
          (λ (old : b.since moment p). stays.left p old)
          (λ (new : HasSome m H (aimed w) p). some_from m G H (aimed w) p from new)
          (at.any_moment.before moment p stays.before left);
    }

-- and so do all that were told of
told_on : (tells : Type 0) (m : ℕ) (H : List Event) (w : Work) (n : Managed) (histories : List (List Event)) (before now : List ℕ)
    (a b c : SiteState)
    → (tells → AtSite m H w n b c) → AreWithin H histories → AreTold tells m histories before now a b
    → AreTold tells m histories before now a c
told_on tells m H w n [] before now a b c at within are = are
told_on tells m H w n (G ∷ earlier) before now a b c at within are = (
  are.0,
  are.1,
  are.2,
  λ told. stays_on m G H are.0 w n a b c (at told) within.0 (are.3 told),
  told_on tells m H w n earlier before are.1 a b c at within.1 are.4,
)

-- what was told of since a state of the site was so since an earlier one
pub told_since : (tells : Type 0) (m : ℕ) (histories : List (List Event)) (before now : List ℕ) (a b c : SiteState)
    → (tells → a.moment ≤ b.moment)
    → AreTold tells m histories before now b c → AreTold tells m histories before now a c
told_since tells m [] before now a b c later are = are
told_since tells m (G ∷ earlier) before now a b c later are = (
  are.0,
  are.1,
  are.2,
  λ told.
      let one = later told in
      let other = (are.3 told).behind in
      record { behind = omega (arith, one, other); before = (are.3 told).before; left = (are.3 told).left },
  told_since tells m earlier before are.1 a b c later are.4,
)

-- one chain behind another
told_then : (tells : Type 0) (m : ℕ) (later earlier : List (List Event)) (before between now : List ℕ) (a b : SiteState)
    → AreTold tells m earlier before between a b → AreTold tells m later between now a b → AreTold tells m (later ++ earlier) before now a b
told_then tells m [] earlier before between now a b first second =
    subst (λ (noted : List ℕ). AreTold tells m earlier before noted a b) (sym second) first
told_then tells m (G ∷ later) earlier before between now a b first second =
    (second.0, second.1, second.2, second.3, told_then tells m later earlier before between second.1 a b first second.4)

-- two works in a row have one chain
pub chains_join : (tells : Type 0) (m : ℕ) (H G : List Event) (w : Work) (n o : Managed) (later earlier : List (List Event))
    (before between now : List ℕ) (a b c : SiteState)
    → (tells → AtSite m H (went G) n a b) → AreWithin G earlier → AreTold tells m earlier before between a b
    → (tells → AtSite m G w o b c) → AreTold tells m later between now b c → AreTold tells m (later ++ earlier) before now a c
chains_join tells m H G w n o later earlier before between now a b c one within first other second =
    told_then tells m later earlier before between now a c (told_on tells m G w o earlier before between a b c other within first)
    (told_since tells m later between now a b c (λ told. (one told).any_moment.later) second)

-- what stands behind work stays from its end on
pub standing_stays : (m : ℕ) (H : List Event) (w : Work) (n : Managed) (a b : SiteState) → AtSite m H w n a b
    → StaysSince m (stood w) b.moment a b
standing_stays m H w n a b at = record {
  behind = at.any_moment.later;
  before = omega arith;
  left = λ p left. some_from m (stood w) (stood w) (aimed w) p (record { more = []; is = refl }) (at.at_exit p left);
}
