-- Works in a row are one, and nothing is a work.
use Rattle.std.proofs.Common.{◌≡◌, ◌∙◌, ℕ, List, [], ◌∷◌, ◌++◌, false, length, length-append, sym, subst, refl, ap, append_assoc, arith}
use Rattle.executor.specs.History.{HasHistory}
use Rattle.executor.specs.Managed.{Managed, StandsFor, IsReady}
use Rattle.executor.specs.Work.{Extends, HasEverywhere, HasSome, HasSomeSound, StaysSound, Work, Works, WorksAtFile, WorksWithJobs, aimed}
use Rattle.executor.specs.Work.{failed, stood, went}
use Rattle.journal_records.specs.File.{HasRecords}
use Rattle.lcm_events.specs.declared.events.Event.{Event}
use Rattle.lcm_jobs.specs.Sound.{IsSound}
use Rattle.lcm_jobs.proofs.KeepLemmas.{sound_on}
use Rattle.lcm_model.specs.Work.{window}
use Rattle.journal_core.specs.Load.{SyncsAndReads}
use Rattle.site_traits.specs.Jobs.{Job}
use Rattle.site_traits.specs.Site.{HasItsJobs, Pair, SiteState, KeepsJobs, LeavesOnly, Same, FileStep, pair_of}
use Rattle.site_traits.specs.Moments as moments
use Rattle.site_traits.specs.Moments.{followed, goes_on, keeps_refl, keeps_then, kept_jobs, started, weakened}

pub extends_refl : (H : List Event) → Extends H H
extends_refl H = record { more = []; is = refl }

pub extends_one : (e : Event) (H : List Event) → Extends H (e ∷ H)
extends_one e H = record { more = e ∷ []; is = refl }

pub extends_trans : (H G K : List Event) → Extends H G → Extends G K → Extends H K
extends_trans H G K first second = record {
  more = second.more ++ first.more;
  is = second.is ∙ ap (λ t. second.more ++ t) first.is ∙ sym (append_assoc second.more first.more H);
}

pub some_of : (m : ℕ) (H G K : List Event) (p : Pair) → Extends H G → Extends G K → HasHistory m G p.image → HasSome m H K p
some_of m H G K p from to file = record { history = G; from = from; to = to; file = file }

-- a history between two is one between two that are further apart
pub some_wider : (m : ℕ) (H G K L : List Event) (p : Pair) → Extends H G → Extends K L → HasSome m G K p → HasSome m H L p
some_wider m H G K L p before behind some = record {
  history = some.history;
  from = extends_trans H G some.history before some.from;
  to = extends_trans some.history K L some.to behind;
  file = some.file;
}

-- the same of a history with sound jobs
sound_wider : (m : ℕ) (H G K L : List Event) (p : Pair) → Extends H G → Extends K L → HasSomeSound m G K p → HasSomeSound m H L p
sound_wider m H G K L p before behind some = record {
  history = some.history;
  from = extends_trans H G some.history before some.from;
  to = extends_trans some.history K L some.to behind;
  file = some.file;
  sound = some.sound;
}

-- histories of which each is the other and more events are one
pub extends_back : (G K : List Event) → Extends G K → Extends K G → K ≡ G
extends_back G K one other = of one.more one.is where
  of : (more : List Event) → K ≡ more ++ G → K ≡ G
  of [] is = is
  of (e ∷ more) is =
      let longer = ap length is in
      let shorter = ap length other.is in
      absurd (omega (arith, longer, shorter, length-append more G, length-append other.more K))

-- where a stop now leaves just this history, and jobs that are sound with it, the site's jobs are sound with it
pub sound_now : (m : ℕ) (G : List Event) (b : SiteState) → ((p : Pair) → b.since b.moment p → HasSomeSound m G G p) → IsSound m G b.jobs
sound_now m G b here =
    let now = here (pair_of b.image b.jobs) b.now in
    subst (λ (K : List Event). IsSound m K b.jobs) (extends_back G now.history now.from now.to) now.sound

-- what is read, and whatever a stop leaves now, has the history that the manager stands for
pub everywhere : (m : Managed) (H : List Event) (s : SiteState) → StandsFor m H s → HasEverywhere m.ledger.manager H s
everywhere m H s stands =
    let R : List (List ℕ) → Type 0 = λ rs. HasRecords m.ledger.manager rs s.image in
    let here : HasHistory m.ledger.manager H s.image = record { file = subst R stands.records stands.journal.file; events = stands.events }
    in
    let Q : List ℕ → Type 0 = λ image. HasHistory m.ledger.manager H image in
    record { here = here; left = λ p left. subst Q (sym (stands.journal.settled.image p left)) here }

-- and so it has some history from that one to that one
pub some_everywhere : (m : Managed) (H : List Event) (s : SiteState) → StandsFor m H s → (p : Pair) → s.since s.moment p
    → HasSome m.ledger.manager H H p
some_everywhere m H s stands p left = some_of m.ledger.manager H H H p (extends_refl H) (extends_refl H)
    ((everywhere m H s stands).left p left)

-- and where the site's jobs are sound with it, sound ones
pub sound_everywhere : (m : Managed) (H : List Event) (s : SiteState) → StandsFor m H s → IsSound m.ledger.manager H s.jobs
    → (p : Pair) → s.since s.moment p → HasSomeSound m.ledger.manager H H p
sound_everywhere m H s stands sound p left = record {
  history = H;
  from = extends_refl H;
  to = extends_refl H;
  file = (everywhere m H s stands).left p left;
  sound = subst (λ (js : List Job). IsSound m.ledger.manager H js) (sym (s.stay p left)) sound;
}

-- work that does nothing
pub idle : (tells : Type 0) (m : Managed) (H : List Event) (s : SiteState) → IsReady tells m H s
    → Works tells m.ledger.manager H (went H) m s s
idle tells m H s ready = record {
  number = refl;
  keeps = ready.keeps;
  closed = ready.usable;
  grows = record { to_stood = extends_refl H; to_aimed = extends_refl H; legal = ready.keeps.kept.legal };
  site = λ told.
      let here = some_everywhere m H s (ready.stands told) in
      record { any_moment = started (HasSome m.ledger.manager H H) s here; at_exit = here; stands = λ fine. ready.stands told };
  sound = λ told sound.
      let left = sound_everywhere m H s (ready.stands told) sound in
      record { any_moment = started (HasSomeSound m.ledger.manager H H) s left; at_exit = left };
  jobs = λ told. keeps_refl s;
}

-- what work that leaves the jobs alone did to the file
pub file_of : (tells : Type 0) (m : ℕ) (H : List Event) (w : Work) (n : Managed) (a b : SiteState) → Works tells m H w n a b
    → WorksAtFile tells m H w n a b
file_of tells m H w n a b works = record {
  number = works.number;
  keeps = works.keeps;
  closed = works.closed;
  grows = works.grows;
  site =
      works.site;
}

-- work that leaves the jobs alone is one with jobs
pub with_jobs : (tells : Type 0) (m : ℕ) (H : List Event) (w : Work) (n : Managed) (a b : SiteState) → Works tells m H w n a b
    → WorksWithJobs tells m H w n a b
with_jobs tells m H w n a b works = record { at_file = file_of tells m H w n a b works; sound = works.sound }

-- and one with jobs that leaves them alone is such work
pub without_jobs : (tells : Type 0) (m : ℕ) (H : List Event) (w : Work) (n : Managed) (a b : SiteState) → WorksWithJobs tells m H w n a b
    → (tells → KeepsJobs a b)
    → Works tells m H w n a b
without_jobs tells m H w n a b works alone = record {
  number = works.at_file.number;
  keeps = works.at_file.keeps;
  closed = works.at_file.closed;
  grows = works.at_file.grows;
  site = works.at_file.site;
  sound = works.sound;
  jobs = alone;
}

-- behind work in which the disk didn't fail the manager is ready for more
pub ready_again : (tells : Type 0) (m : ℕ) (H : List Event) (w : Work) (n : Managed) (a b : SiteState) → WorksAtFile tells m H w n a b
    → failed w ≡ false → IsReady tells n (stood w) b
ready_again tells m H w n a b works fine = record {
  usable = works.closed ∙ fine;
  keeps = works.keeps;
  stands = λ told. (works.site told).stands fine;
}

-- what two works in a row leave of sound jobs
pub stays_joined : (m : ℕ) (H G : List Event) (w : Work) (a b c : SiteState) → Extends H G → Extends G (aimed w)
    → StaysSound m H (went G) a b
    → (IsSound m G b.jobs → StaysSound m G w b c) → StaysSound m H w a c
stays_joined m H G w a b c from on first second =
    let two = second (sound_now m G b first.at_exit) in
    let before : LeavesOnly (HasSomeSound m H (aimed w)) a b =
    weakened (HasSomeSound m H (aimed w)) (HasSomeSound m H G) a b first.any_moment
    (λ p some. sound_wider m H H G (aimed w) p (extends_refl H) on some) in
    record {
      any_moment = followed (HasSomeSound m H (aimed w)) (HasSomeSound m G (aimed w)) a b c before two.any_moment
          (λ p some. sound_wider m H G (aimed w) (aimed w) p from (extends_refl (aimed w)) some);
      at_exit = two.at_exit;
    }

-- works in a row are one, as far as the file goes
pub joined_at_file : (tells : Type 0) (m : ℕ) (H G : List Event) (w : Work) (n o : Managed) (a b c : SiteState)
    → WorksAtFile tells m H (went G) n a b → WorksAtFile tells m G w o b c → WorksAtFile tells m H w o a c
joined_at_file tells m H G w n o a b c first second =
    let from : Extends H G = first.grows.to_stood in
    let on : Extends G (aimed w) = extends_trans G (stood w) (aimed w) second.grows.to_stood second.grows.to_aimed in
    record {
      number = second.number;
      keeps = second.keeps;
      closed = second.closed;
      grows = record {
        to_stood = extends_trans H G (stood w) from second.grows.to_stood;
        to_aimed = second.grows.to_aimed;
        legal =
            second.grows.legal;
      };
      site = λ told.
          let one = first.site told in
          let two = second.site told in
          let before : LeavesOnly (HasSome m H (aimed w)) a b =
          weakened (HasSome m H (aimed w)) (HasSome m H G) a b one.any_moment
          (λ p some. some_wider m H H G (aimed w) p (extends_refl H) on some) in
          record {
            any_moment = followed (HasSome m H (aimed w)) (HasSome m G (aimed w)) a b c before two.any_moment
                (λ p some. some_wider m H G (aimed w) (aimed w) p from (extends_refl (aimed w)) some);
            at_exit = two.at_exit;
            stands = two.stands;
          };
    }

-- works in a row are one
pub joined_with_jobs : (tells : Type 0) (m : ℕ) (H G : List Event) (w : Work) (n o : Managed) (a b c : SiteState)
    → WorksWithJobs tells m H (went G) n a b → WorksWithJobs tells m G w o b c → WorksWithJobs tells m H w o a c
joined_with_jobs tells m H G w n o a b c first second =
    let grows = second.at_file.grows in
    record {
      at_file = joined_at_file tells m H G w n o a b c first.at_file second.at_file;
      sound = λ told sound. stays_joined m H G w a b c first.at_file.grows.to_stood
          (extends_trans G (stood w) (aimed w) grows.to_stood grows.to_aimed)
          (first.sound told sound) (second.sound told);
    }

-- and so are those that leave the jobs alone
pub joined : (tells : Type 0) (m : ℕ) (H G : List Event) (w : Work) (n o : Managed) (a b c : SiteState)
    → Works tells m H (went G) n a b → Works tells m G w o b c → Works tells m H w o a c
joined tells m H G w n o a b c first second =
    without_jobs tells m H w o a c
    (joined_with_jobs tells m H G w n o a b c (with_jobs tells m H (went G) n a b first) (with_jobs tells m G w o b c second))
    (λ told. keeps_then a b c (first.jobs told) (second.jobs told))

-- work that leaves the jobs alone leaves sound jobs, where each history that it leads to is sound with those at its start
pub kept_sound : (tells : Type 0) (m : ℕ) (H : List Event) (w : Work) (n : Managed) (a b : SiteState) → tells
    → WorksAtFile tells m H w n a b → KeepsJobs a b
    → ((K : List Event) → Extends H K → Extends K (aimed w) → IsSound m K a.jobs) → StaysSound m H w a b
kept_sound tells m H w n a b told works alone each =
    let site = works.site told in
    let sound : (K : List Event) (p : Pair) → Extends H K → HasSome m K (aimed w) p → HasItsJobs a p → HasSomeSound m K (aimed w) p =
    λ K p from some its. record {
      history = some.history;
      from = some.from;
      to = some.to;
      file = some.file;
      sound = sound_on window m some.history a.jobs p.jobs (each some.history (extends_trans H K some.history from some.from) some.to)
          its.jobs;
    } in
    let both = moments.joined (HasSome m H (aimed w)) (HasItsJobs a) a b site.any_moment alone.any_moment in
    record {
      any_moment = weakened (HasSomeSound m H (aimed w)) (λ p. HasSome m H (aimed w) p × HasItsJobs a p) a b both
          (λ p left. sound H p (extends_refl H) left.0 left.1);
      at_exit = λ p left. sound (stood w) p works.grows.to_stood (site.at_exit p left)
          (moments.is_since (HasItsJobs a) a b alone.any_moment p left);
    }

-- the opening of a journal that has a history leaves it, and jobs that are sound with it where they were so
opened : (m : ℕ) (H : List Event) (a b : SiteState) → SyncsAndReads a b → ((p : Pair) → a.since a.moment p → HasHistory m H p.image)
    → LeavesOnly (HasSome m H H) a b
opened m H a b reads start =
    let some : (p : Pair) → HasHistory m H p.image → HasSome m H H p = λ p has. some_of m H H H p (extends_refl H) (extends_refl H) has in
    let P : List ℕ → Type 0 = λ image. HasHistory m H image in
    goes_on (HasSome m H H) (FileStep Same) a a b (started (HasSome m H H) a (λ p left. some p (start p left))) reads.on_file.passes
    (λ q p left step. some p (subst P (sym step.image) (start q left)))

opened_sound : (m : ℕ) (H : List Event) (a b : SiteState) → SyncsAndReads a b → ((p : Pair) → a.since a.moment p → HasHistory m H p.image)
    → IsSound m H a.jobs → LeavesOnly (HasSomeSound m H H) a b
opened_sound m H a b reads start sound =
    let P : List ℕ → Type 0 = λ image. HasHistory m H image in
    let Q : List Job → Type 0 = λ js. IsSound m H js in
    let some : (p : Pair) → HasHistory m H p.image → IsSound m H p.jobs → HasSomeSound m H H p =
    λ p has sound. record { history = H; from = extends_refl H; to = extends_refl H; file = has; sound = sound } in
    let so : (p : Pair) → a.since a.moment p → IsSound m H p.jobs = λ p left. subst Q (sym (a.stay p left)) sound in
    goes_on (HasSomeSound m H H) (FileStep Same) a a b (started (HasSomeSound m H H) a (λ p left. some p (start p left) (so p left)))
    reads.on_file.passes
    (λ q p left step. some p (subst P (sym step.image) (start q left)) (sound_on window m H q.jobs p.jobs (so q left) step.jobs))

-- the opening of a journal, and then work on it
pub opened_then : (tells : Type 0) (m : ℕ) (H : List Event) (w : Work) (n : Managed) (a b c : SiteState) → tells → SyncsAndReads a b
    → WorksWithJobs tells m H w n b c
    → ((p : Pair) → a.since a.moment p → HasHistory m H p.image)
    → LeavesOnly (HasSome m H (aimed w)) a c × (IsSound m H a.jobs → StaysSound m H w a c)
opened_then tells m H w n a b c told reads works start =
    let site = works.at_file.site told in
    let grows = works.at_file.grows in
    let on : Extends H (aimed w) = extends_trans H (stood w) (aimed w) grows.to_stood grows.to_aimed in
    let wider : (p : Pair) → HasSome m H H p → HasSome m H (aimed w) p =
    λ p some. some_wider m H H H (aimed w) p (extends_refl H) on some in
    let before : LeavesOnly (HasSome m H (aimed w)) a b =
    weakened (HasSome m H (aimed w)) (HasSome m H H) a b (opened m H a b reads start) wider in (
      followed (HasSome m H (aimed w)) (HasSome m H (aimed w)) a b c before site.any_moment (λ p has. has),
      λ sound.
          let run = opened_sound m H a b reads start sound in
          stays_joined m H H w a b c (extends_refl H) on (record {
            any_moment = run;
            at_exit =
                moments.is_since (HasSomeSound m H H) a b run;
          }) (works.sound told),
    )

-- the opening of a journal leaves the jobs alone, and so does work behind it
pub opened_jobs : (tells : Type 0) (a b c : SiteState) → tells → SyncsAndReads a b
    → KeepsJobs a b × ((m : ℕ) (H : List Event) (w : Work) (n : Managed) → Works tells m H w n b c → KeepsJobs a c)
opened_jobs tells a b c told reads =
    let opened : KeepsJobs a b = moments.keeps_one Same a b reads.on_file in
    (opened, λ m H w n works. keeps_then a b c opened (works.jobs told))
