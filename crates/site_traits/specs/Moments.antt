-- What follows of the words on moments: how a run of calls of a site goes on, and what a stop since its start may
-- leave. Each holds of any fact of pairs, so none can be the clause of a call; every crate that says what a stop leaves
-- cites them (own rules).
use Rattle.std.proofs.Common.{◌≡◌, ◌∙◌, sym, subst, ℕ, List, inl, inr, ⊎_elim, refl, arith}
use Rattle.lcm_events.specs.declared.acts.Act.{Act}
use Rattle.lcm_events.specs.declared.attempts.Tag.{Tag}
use Rattle.site_traits.specs.declared.jobs.BeginAnswer.TheVariants as begin
use Rattle.site_traits.specs.declared.jobs.LookAnswer.TheVariants as look
use Rattle.site_traits.specs.declared.jobs.AbortAnswer.TheVariants as abort
use Rattle.site_traits.specs.Jobs.{Job, Advances, MayArrive}
use Rattle.site_traits.specs.Site.{Pair, SiteState, Passes, LeavesOnly, IsSettled, Same, FileStep, OnFile, Reads}
use Rattle.site_traits.specs.Site.{JobStep, OnJobs, Begins, Looks, Aborts, HasItsJobs, KeepsJobs}
use Rattle.site_traits.specs.Advancing.{advances-refl, advances-then}

-- no call
pub passes-refl : (step : Pair → Pair → Type 0) (a : SiteState) → ((p : Pair) → step p p) → Passes step a a
passes-refl step a stays = record {
  later = omega arith;
  during = λ p left. (p, left, stays p);
  nothing_else = λ t p le left. inl left;
  keeps = λ t p le left. left;
}

-- two calls with these steps are one with the step that they make together
pub passes-then : (f g h : Pair → Pair → Type 0) (a b c : SiteState) → Passes f a b → Passes g b c
    → ((p : Pair) → g p p) → ((p : Pair) → f p p) → ((p q r : Pair) → f p q → g q r → h p r) → Passes h a c
passes-then f g h a b c ab bc g_stays f_stays joins =
    let a_b = ab.later in
    let b_c = bc.later in
    record {
      later = omega arith;
      during = λ p left. ⊎_elim
          (λ (mid : b.since a.moment p). let from = ab.during p mid in
          (from.0, from.1, joins from.0 p p from.2 (g_stays p)))
          (λ (end : c.since b.moment p).
          let mid = bc.during p end in
          let from = ab.during mid.0 (b.earlier a.moment b.moment mid.0 a_b mid.1) in
          (from.0, from.1, joins from.0 mid.0 p from.2 mid.2))
          (bc.nothing_else a.moment p a_b left);
      nothing_else = λ t p le left. ⊎_elim
          (λ (mid : b.since t p). ⊎_elim (λ (first : a.since t p). inl first)
          (λ (second : b.since a.moment p). inr (bc.keeps a.moment p a_b second)) (ab.nothing_else t p le mid))
          (λ (end : c.since b.moment p). inr (c.earlier a.moment b.moment p a_b end))
          (bc.nothing_else t p (omega arith) left);
      keeps = λ t p le left. bc.keeps t p (omega arith) (ab.keeps t p le left);
    }

-- a run that leaves only what has P says so of each pair that a stop now may leave
pub is_since : (P : Pair → Type 0) (a b : SiteState) → LeavesOnly P a b → (p : Pair) → b.since b.moment p → P p
is_since P a b run p left = let le = run.later in run.each p (b.earlier a.moment b.moment p le left)

-- before the first call
pub started : (P : Pair → Type 0) (a : SiteState) → ((p : Pair) → a.since a.moment p → P p) → LeavesOnly P a a
started P a here = record { later = omega arith; each = here; before = λ t p le left. inl left }

-- one call more
pub goes_on : (P : Pair → Type 0) (step : Pair → Pair → Type 0) (a b c : SiteState) → LeavesOnly P a b → Passes step b c
    → ((q p : Pair) → b.since b.moment q → step q p → P p) → LeavesOnly P a c
goes_on P step a b c so_far call leads =
    let during : (p : Pair) → c.since b.moment p → P p = λ p left. let from = call.during p left in
    leads from.0 p from.1 from.2 in
    let ab = so_far.later in
    let bc = call.later in
    record {
      later = omega arith;
      each = λ p left. ⊎_elim (so_far.each p) (during p) (call.nothing_else a.moment p ab left);
      before = λ t p le left. ⊎_elim (so_far.before t p le) (λ (now : c.since b.moment p). inr (during p now))
          (call.nothing_else t p (omega arith) left);
    }

-- one run more
pub followed : (P Q : Pair → Type 0) (a b c : SiteState) → LeavesOnly P a b → LeavesOnly Q b c
    → ((p : Pair) → Q p → P p) → LeavesOnly P a c
followed P Q a b c first second leads =
    let ab = first.later in
    let bc = second.later in
    record {
      later = omega arith;
      each = λ p left. ⊎_elim (first.each p) (leads p) (second.before a.moment p ab left);
      before = λ t p le left. ⊎_elim (first.before t p le) (λ (now : Q p). inr (leads p now))
          (second.before t p (omega arith) left);
    }

-- what leaves only pairs with Q leaves only pairs with what Q leads to
pub weakened : (P Q : Pair → Type 0) (a b : SiteState) → LeavesOnly Q a b → ((p : Pair) → Q p → P p) → LeavesOnly P a b
weakened P Q a b run leads = record {
  later = run.later;
  each = λ p left. leads p (run.each p left);
  before = λ t p le left. ⊎_elim (λ (old : a.since t p). inl old) (λ (now : Q p). inr (leads p now))
      (run.before t p le left);
}

-- what leaves only pairs with P and only pairs with Q leaves only pairs with both
pub joined : (P Q : Pair → Type 0) (a b : SiteState) → LeavesOnly P a b → LeavesOnly Q a b
    → LeavesOnly (λ p. P p × Q p) a b
joined P Q a b first second = record {
  later = first.later;
  each = λ p left. (first.each p left, second.each p left);
  before = λ t p le left. ⊎_elim
      (λ (old : a.since t p). inl old)
      (λ (one : P p). ⊎_elim (λ (old : a.since t p). inl old) (λ (other : Q p). inr (one, other))
      (second.before t p le left))
      (first.before t p le left);
}

pub on_file-refl : (step : List ℕ → List ℕ → Type 0) (a : SiteState) → ((i : List ℕ) → step i i) → OnFile step a a
on_file-refl step a stays = record {
  passes = passes-refl (FileStep step) a
      (λ p. record { image = stays p.image; jobs = advances-refl p.jobs });
  answers = refl;
}

-- two calls on the file
pub on_file-then : (f g h : List ℕ → List ℕ → Type 0) (a b c : SiteState) → OnFile f a b → OnFile g b c
    → ((i : List ℕ) → g i i) → ((i : List ℕ) → f i i) → ((i j k : List ℕ) → f i j → g j k → h i k) → OnFile h a c
on_file-then f g h a b c ab bc g_stays f_stays joins = record {
  passes = passes-then (FileStep f) (FileStep g) (FileStep h) a b c ab.passes bc.passes
      (λ p. record { image = g_stays p.image; jobs = advances-refl p.jobs })
      (λ p. record { image = f_stays p.image; jobs = advances-refl p.jobs })
      (λ p q r pq qr. record {
        image = joins p.image q.image r.image pq.image qr.image;
        jobs =
            advances-then p.jobs q.jobs r.jobs pq.jobs qr.jobs;
      });
  answers = bc.answers ∙ ab.answers;
}

-- a call on the file and one that only reads or syncs
pub on_file-reads : (step : List ℕ → List ℕ → Type 0) (a b c : SiteState) → OnFile step a b → OnFile Same b c
    → ((i : List ℕ) → step i i) → OnFile step a c
on_file-reads step a b c ab bc stays =
    on_file-then step Same step a b c ab bc (λ i. refl) stays
    (λ i j k ij jk. let P : List ℕ → Type 0 = λ v. step i v in subst P (sym jk) ij)

pub reads-refl : (a : SiteState) → Reads a a
reads-refl a = record { on_file = on_file-refl Same a (λ i. refl); same = refl; settled = λ settled. settled }

-- two calls that only read the file
pub reads-then : (a b c : SiteState) → Reads a b → Reads b c → Reads a c
reads-then a b c ab bc = record {
  on_file = on_file-reads Same a b c ab.on_file bc.on_file (λ i. refl);
  same = bc.same ∙ ab.same;
  settled = λ settled. bc.settled (ab.settled settled);
}

-- a call that only reads leaves only what a stop before it might have left
pub reads-keep : (P : Pair → Type 0) (a b c : SiteState) → LeavesOnly P a b → OnFile Same b c
    → ((q p : Pair) → q.image ≡ p.image → P q → P p) → LeavesOnly P a c
reads-keep P a b c so_far call same =
    goes_on P (FileStep Same) a b c so_far call.passes
    (λ q p left step. same q p (sym step.image) (is_since P a b so_far q left))

-- between two calls a stop leaves the jobs as they are
stays_so : (a : SiteState) (p : Pair) → a.since a.moment p → HasItsJobs a p
stays_so a p left = record {
  jobs = (let P : List Job → Type 0 = λ v. Advances a.jobs v in
      subst P (sym (a.stay p left)) (advances-refl a.jobs));
}

-- no call leaves the jobs alone
pub keeps_refl : (a : SiteState) → KeepsJobs a a
keeps_refl a = record { any_moment = started (HasItsJobs a) a (stays_so a); answers = refl }

-- after calls that leave the jobs alone only running ones have ended
pub kept_jobs : (a b : SiteState) → KeepsJobs a b → Advances a.jobs b.jobs
kept_jobs a b keeps = (is_since (HasItsJobs a) a b keeps.any_moment
    (record { image = b.image; jobs = b.jobs }) b.now).jobs

-- a call on the file more leaves the jobs alone
pub keeps_file : (step : List ℕ → List ℕ → Type 0) (a b c : SiteState) → KeepsJobs a b → OnFile step b c → KeepsJobs a c
keeps_file step a b c keeps call = record {
  any_moment = goes_on (HasItsJobs a) (FileStep step) a b c keeps.any_moment call.passes
      (λ q p left on. record {
        jobs = advances-then a.jobs q.jobs p.jobs
            (is_since (HasItsJobs a) a b keeps.any_moment q left).jobs on.jobs;
      });
  answers = call.answers ∙ keeps.answers;
}

-- one call on the file leaves the jobs alone
pub keeps_one : (step : List ℕ → List ℕ → Type 0) (a b : SiteState) → OnFile step a b → KeepsJobs a b
keeps_one step a b call = keeps_file step a a b (keeps_refl a) call

-- and so do two runs of such calls
pub keeps_then : (a b c : SiteState) → KeepsJobs a b → KeepsJobs b c → KeepsJobs a c
keeps_then a b c first second = record {
  any_moment = followed (HasItsJobs a) (HasItsJobs b) a b c first.any_moment second.any_moment
      (λ p its. record { jobs = advances-then a.jobs b.jobs p.jobs (kept_jobs a b first) its.jobs });
  answers = second.answers ∙ first.answers;
}

-- a call on the jobs leaves nothing pending where nothing was
pub settled_on : (step : List Job → List Job → Type 0) (a b : SiteState) → OnJobs step a b → IsSettled a → IsSettled b
settled_on step a b call settled = record {
  image = λ p left.
      let le = call.passes.later in
      let from = call.passes.during p (b.earlier a.moment b.moment p le left) in
      from.2.image ∙ settled.image from.0 from.1 ∙ sym call.same;
}

-- no call on the jobs
pub on_jobs-refl : (step : List Job → List Job → Type 0) (a : SiteState) → ((js : List Job) → step js js)
    → OnJobs step a a
on_jobs-refl step a stays = record {
  passes = passes-refl (JobStep step) a
      (λ p. record { image = refl; jobs = stays p.jobs });
  same = refl;
}

-- a begin that failed and put no job
pub lost_begin : (tag : Tag) (act : Act) (a : SiteState) → Begins tag act begin.Failed a a
lost_begin tag act a = record {
  on_jobs = on_jobs-refl (MayArrive tag act) a (λ js. inl (advances-refl js));
  begins = inl (advances-refl a.jobs);
  answers = refl;
}

-- a look that failed and left all
pub lost_look : (tag : Tag) (a : SiteState) → Looks tag look.Failed a a
lost_look tag a = record { on_jobs = on_jobs-refl Advances a (λ js. advances-refl js); looks = tt; answers = refl }

-- an abort that failed and left all
pub lost_abort : (tag : Tag) (a : SiteState) → Aborts tag abort.Failed a a
lost_abort tag a = record { on_jobs = on_jobs-refl Advances a (λ js. advances-refl js); answers = refl }
