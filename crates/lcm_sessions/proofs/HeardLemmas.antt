-- What onboarding does, by what was heard at the door.
use Rattle.std.proofs.Common.{◌≡◌, ℕ, Bool, List, [], take, min, true, false, Result, Ok, Err, inl, inr, refl, ap, subst, sym, ◌∙◌, ⊎_elim}
use Rattle.executor.specs.Managed.{Managed, IsReady}
use Rattle.executor.specs.Work.{Idles, Works}
use Rattle.lcm_replies.specs.Failing.{counts_by}
use Rattle.lcm_replies.specs.Hearing.{heard_of}
use Rattle.lcm_mouth.specs.Mouth.{MouthState}
use Rattle.lcm_mouth.specs.World.{WorldTells, World, world}
use Rattle.lcm_events.specs.declared.events.Event.{Event}
use Rattle.lcm_events.specs.declared.states.Role.{Role}
use Rattle.lcm_sessions.specs.Doing.{Brings, BringsNothing, HearsDescriptor, OnboardingAtDoor, Onboards, OnlyDoorFails}
use Rattle.lcm_sessions.specs.Onboarding.{Ended, done, starving, breaking, Onboarding, unready, unheard, cut_off, heard, answer_of}
use Rattle.lcm_sessions.specs.Onboarding.{ended_by, judged_answer, worked}
use Rattle.lcm_sessions.specs.Verdict.{Verdict, refused, full, accepted, onboarded, verdict}
use Rattle.lcm_sessions.specs.declared.answer.Onboarded.{Onboarded}
use Rattle.lcm_sessions.specs.declared.answer.OnboardFault.{OnboardFault}
use Rattle.lcm_sessions.specs.declared.answer.OnboardFault.TheVariants as fault
use Rattle.lcm_sessions.specs.declared.hearing.Unheard.{Unheard}
use Rattle.lcm_sessions.specs.declared.hearing.Unheard.TheVariants.{Waiting, Reading}
use Rattle.site_traits.specs.Clock.{Gives}
use Rattle.site_traits.specs.Door.{Conn, DoorState, Comes, ConnIs, HangsUp, closed, opened}
use Rattle.site_traits.specs.Site.{SiteState}

heard_out : (n : ℕ) (failed : Bool) (c : Conn) → (heard_of n failed c).out ≡ c.out
heard_out n true c = refl
heard_out n false c = refl

-- nothing was written to a connection that came, was read and was ended
pub brought_out : (n : ℕ) (failed : Bool) (role : Role) (a b c d : DoorState) → Comes role a b → ConnIs (heard_of n failed b.conn) b c
    → HangsUp c d → d.conn.out ≡ []
brought_out n failed role a b c d comes hears gone =
    let out : Conn → List ℕ = λ (x : Conn). x.out in
    ap out gone.conn ∙ ap out hears.conn ∙ heard_out n failed b.conn ∙ ap out comes.conn

-- bytes were heard, judged and recorded
pub onboards_heard : (t : WorldTells) (m z : ℕ) (H : List Event) (n : Managed) (count now value : ℕ) (room : List ℕ)
    (answer : Result Onboarded OnboardFault) (w v : World)
    → HearsDescriptor t.door (Ok count) room w.mouth v.mouth
    → answer ≡ judged_answer (verdict z H now (take count room)) (ended_by answer)
    → Works t.site m H (worked H (onboarded now (verdict z H now (take count room))) (ended_by answer)) n w.site v.site → n.ledger.saved ≡ z
    → (t.clock → Gives value w.clock v.clock) → now ≡ min value 253402300799999 → v.mouth.told ≡ w.mouth.told
    → (o : Onboarding) × Onboards t m z H o n w v × (answer ≡ answer_of z H o)
onboards_heard t m z H n count now value room answer w v hears told works saved gives moment unnoted = (
  heard (take count room) now (ended_by answer),
  record {
    works = works;
    saves = saved;
    brings = record {
      door = hears;
      clock =
          λ tells. record { value = value; gives = gives tells; moment_is = moment };
      unnoted = unnoted;
    };
  },
  told,
)

-- what a mouth keeps account of doesn't matter to what was heard
pub hears_noted : (tells : Type 0) (count : ℕ) (room : List ℕ) (a b c : MouthState)
    → HearsDescriptor tells (Ok count) room a b → c ≡ record b { account = c.account }
    → HearsDescriptor tells (Ok count) room a c
hears_noted tells count room a b c hears noted =
    subst (λ (d : MouthState). HearsDescriptor tells (Ok count) room a d) (sym noted) (⊎_elim
    (λ (some : Brings tells (take count room) false a b). inl (record {
      came = some.came;
      between = some.between;
      comes = some.comes;
      counts = some.counts;
      behind = some.behind;
      hears = some.hears;
      fails = some.fails;
      gone = some.gone;
      down = some.down;
      silent = some.silent;
    }))
    (λ (none : BringsNothing tells (take count room) a b).
    inr (record { none = none.none; nobody = none.nobody; counts = none.counts }))
    hears)

-- nothing was heard
pub onboards_unheard : (t : WorldTells) (m : Managed) (H : List Event) (why : Unheard) (room : List ℕ) (s : SiteState) (c d : MouthState)
    (ks : List ℕ)
    → HearsDescriptor t.door (Err why) room c d → d.told ≡ c.told → Idles t.site s → IsReady t.site m H s
    → (o : Onboarding) × Onboards t m.ledger.manager m.ledger.saved H o m (world s c ks) (world s d ks) ×
    (Err fault.Door ≡ answer_of m.ledger.saved H o)
onboards_unheard t m H Waiting room s c d ks hears unnoted idles ready = (
  unheard,
  record {
    works = idles m H ready;
    saves = refl;
    brings = record { door = hears; clock = λ tells. refl; unnoted = unnoted };
  },
  refl,
)
onboards_unheard t m H Reading room s c d ks hears unnoted idles ready = (
  cut_off hears.0,
  record { works = idles m H ready; saves = refl; brings = record { door = hears.1; clock = λ tells. refl; unnoted = unnoted } },
  refl,
)

-- a connection that came, was read and was ended leaves one fault more where a read of it failed, and else none
brought_counts : (tells : Type 0) (bytes : List ℕ) (failed : Bool) (a b : MouthState) → Brings tells bytes failed a b
    → b.wire.intake.counts ≡ closed (counts_by failed (opened a.wire.intake.counts))
brought_counts tells bytes failed a b brings = brings.down ∙ ap closed (brings.fails.is ∙ ap (counts_by failed) brings.counts)

-- no verdict is a fault of the door
never_door : (v : Verdict) (ended : Ended) → judged_answer v ended ≡ Err fault.Door → ⊥
never_door (refused why) done is = cc is
never_door (full end more) done is = cc is
never_door (accepted vnfd) done is = cc is
never_door v starving is = cc is
never_door v breaking is = cc is

-- a call of the door failed exactly where onboarding answers so
pub onboarding_fails : (tells : Type 0) (z : ℕ) (H : List Event) (o : Onboarding) (a b : MouthState) → OnboardingAtDoor tells o a b
    → OnlyDoorFails (answer_of z H o ≡ Err fault.Door) a.wire.intake.counts b.wire.intake.counts
onboarding_fails tells z H unready a b at = record { rose = λ is. absurd (cc is); stays = λ never. (rw at refl, rw at refl) }
onboarding_fails tells z H unheard a b at = record {
  rose = λ is. (rw at.counts refl, inr (rw at.counts refl));
  stays =
      λ never. absurd (never refl);
}
onboarding_fails tells z H (cut_off bytes) a b at =
    let counts = brought_counts tells bytes true a b at in
    record { rose = λ is. (rw counts refl, inl (rw counts refl)); stays = λ never. absurd (never refl) }
onboarding_fails tells z H (heard bytes now ended) a b at = record {
  rose = λ is. absurd (never_door (verdict z H now bytes) ended is);
  stays = λ never. ⊎_elim
      (λ (some : Brings tells bytes false a b). let counts = brought_counts tells bytes false a b some in (rw counts refl, rw counts refl))
      (λ (none : BringsNothing tells bytes a b). (rw none.counts refl, rw none.counts refl))
      at;
}
