-- What stands beside what among the jobs: each open attempt whose job is done is settled in thought, and then the history says it.
use Rattle.std.proofs.Common.{◌≡◌, ◌∙◌, ◌⊎◌, ℕ, List, [], ◌∷◌, Bool, true, false, Option, None, Some, not, refl, ap, sym, subst, filter}
use Rattle.std.proofs.Common.{inl, inr}
use Rattle.std.specs.Option.{option_map_or}
use Rattle.lcm_events.specs.Same.{same_tag}
use Rattle.lcm_events.proofs.SameLaws.{same_tag-refl, same_tag-true}
use Rattle.lcm_events.specs.declared.attempts.Outcome.TheVariants as outcome
use Rattle.lcm_events.specs.declared.attempts.Tag.{Tag}
use Rattle.lcm_events.specs.declared.changes.Def.{Def}
use Rattle.lcm_events.specs.declared.changes.DefKind.TheVariants.{Compute}
use Rattle.lcm_events.specs.declared.descriptor.Vnfd.{Vnfd}
use Rattle.lcm_events.specs.declared.events.Event.{Event}
use Rattle.lcm_events.specs.declared.events.EventKind.TheVariants.{Settled}
use Rattle.lcm_model.specs.Attempts.{is_open, open_tags}
use Rattle.lcm_model.specs.Holding.{stands}
use Rattle.lcm_model.specs.Lives.{descriptor}
use Rattle.lcm_model.specs.Words.{IsIn}
use Rattle.lcm_laws.proofs.Histories.{event}
use Rattle.lcm_laws.proofs.Lists.{by_test}
use Rattle.lcm_laws.proofs.Members.{of_filter}
use Rattle.lcm_laws.proofs.NetLaws.{another, open_tags-settled}
use Rattle.lcm_laws.proofs.StandLaws.{descriptor-next}
use Rattle.lcm_laws.proofs.WorldLaws.{computes_linked, stands_on}
use Rattle.site_traits.specs.declared.jobs.Phase.{Phase}
use Rattle.site_traits.specs.declared.jobs.Phase.TheVariants.{Aborted, Broken, Done, Running}
use Rattle.site_traits.specs.Jobs.{Job, phase_of}
use Rattle.lcm_jobs.specs.Alternating.{did_it}
use Rattle.lcm_jobs.specs.Beside.{IsBeside}
use Rattle.lcm_jobs.specs.Idle.{stands_among}
use Rattle.lcm_jobs.specs.Sound.{IsSoundWithin}
use Rattle.lcm_jobs.specs.Standing.{is_job_done}
use Rattle.lcm_jobs.proofs.IdleLemmas.{among_next, expected, expects, leaves}
use Rattle.lcm_jobs.proofs.KeepLemmas.{sound_more}
use Rattle.lcm_jobs.proofs.OnLemmas.{is_on, open_on}
use Rattle.lcm_jobs.proofs.Parts.{any_in, in_any}

-- a history with no open attempt whose job is done, in which the same stands among the jobs
record Settles (width m : ℕ) (H : List Event) (js : List Job) (i : ℕ) (d : Vnfd) : Type 0 where
  past : List Event
  sound : IsSoundWithin width m past js
  described : descriptor past i ≡ Some d
  among : (x : Def) → stands_among past i x js ≡ stands_among H i x js
  none : (t : Tag) → IsIn t (open_tags past) → is_job_done js t ≡ false

done_name : (p : Option Phase) → option_map_or did_it p false ≡ true → (name : List ℕ) × (p ≡ Some (Done name))
done_name None e = cc
done_name (Some Running) e = cc
done_name (Some (Done name)) e = (name, refl)
done_name (Some (Broken code)) e = cc
done_name (Some Aborted) e = cc

not_both : (b : Bool) → b ≡ true → b ≡ false → ⊥
not_both true e f = cc
not_both false e f = cc

-- every open attempt is one of these, or its job isn't done
abbrev AreLeft : List Event → List Job → List Tag → Type 0
AreLeft H js ts = (t : Tag) → IsIn t (open_tags H) → (is_job_done js t ≡ false) ⊎ IsIn t ts

-- these can be settled, from each history on
abbrev Go : ℕ → ℕ → List Job → ℕ → Vnfd → List Tag → Type 0
Go width m js i d ts = (H : List Event) → IsSoundWithin width m H js → descriptor H i ≡ Some d → AreLeft H js ts → Settles width m H js i d

-- all but the first are left, where its job isn't done or it isn't open
passed : (H : List Event) (js : List Job) (u : Tag) (us : List Tag) → AreLeft H js (u ∷ us)
    → (is_job_done js u ≡ false) ⊎ (is_open H u ≡ false) → AreLeft H js us
passed H js u us rest why t h = by (rest t h) why where
  by : (is_job_done js t ≡ false) ⊎ IsIn t (u ∷ us) → (is_job_done js u ≡ false) ⊎ (is_open H u ≡ false)
      → (is_job_done js t ≡ false) ⊎ IsIn t us
  by (inl e) why = inl e
  by (inr (inr later)) why = inr later
  by (inr (inl is)) (inl undone) = inl (subst (λ (v : Tag). is_job_done js v ≡ false) is undone)
  by (inr (inl is)) (inr shut) = absurd (not_both (is_open H u) (subst (λ (v : Tag). is_open H v ≡ true) (sym is)
      (in_any t (open_tags H) h)) shut)

clash : (b : Bool) → b ≡ true → not b ≡ true → ⊥
clash true e f = cc
clash false e f = cc

-- and once it is settled
left : (H : List Event) (js : List Job) (u : Tag) (us : List Tag) (name : List ℕ) → AreLeft H js (u ∷ us)
    → AreLeft (event 0 (Settled u (outcome.Done name)) ∷ H) js us
left H js u us name rest t h = by (rest t from.0) from.1 where
  from : IsIn t (open_tags H) × (another u t ≡ true)
  from = of_filter (another u) t (open_tags H) (subst (λ (ts : List Tag). IsIn t ts) (open_tags-settled H 0 u (outcome.Done name)) h)

  by : (is_job_done js t ≡ false) ⊎ IsIn t (u ∷ us) → another u t ≡ true → (is_job_done js t ≡ false) ⊎ IsIn t us
  by (inl e) other = inl e
  by (inr (inr later)) other = inr later
  by (inr (inl is)) other =
      let own : same_tag t t ≡ true = same_tag-refl t in
      let same : same_tag t u ≡ true = subst (λ (v : Tag). same_tag t v ≡ true) (sym is) own in absurd (clash (same_tag t u) same other)

-- the first is settled, and then the others
settled_first : (width m : ℕ) (H : List Event) (js : List Job) (i : ℕ) (d : Vnfd) (u : Tag) (us : List Tag) → Go width m js i d us
    → IsSoundWithin width m H js
    → descriptor H i ≡ Some d → AreLeft H js (u ∷ us) → is_job_done js u ≡ true → is_open H u ≡ true → Settles width m H js i d
settled_first width m H js i d u us go sound described rest e opened =
    let of = done_name (phase_of u js) e in
    let next = sound_more width m H 0 (Settled u (outcome.Done of.0)) js sound opened of.1 in
    let more = go (event 0 (Settled u (outcome.Done of.0)) ∷ H) next
    (descriptor-next width m H 0 (Settled u (outcome.Done of.0)) i d sound.legal opened described) (left H js u us of.0 rest) in
    record {
      past = more.past;
      sound = more.sound;
      described = more.described;
      among = λ x. more.among x ∙ among_next width m H 0 (Settled u (outcome.Done of.0)) i x js sound opened;
      none = more.none;
    }

-- each of these attempts is settled where it is open and its job is done
settle : (width m : ℕ) (js : List Job) (i : ℕ) (d : Vnfd) (ts : List Tag) → Go width m js i d ts
settle width m js i d [] H sound described rest = record {
  past = H;
  sound = sound;
  described = described;
  among = λ x. refl;
  none =
      λ t h. only t (rest t h);
} where
  only : (t : Tag) → (is_job_done js t ≡ false) ⊎ IsIn t [] → is_job_done js t ≡ false
  only t (inl e) = e
  only t (inr never) = absurd never
settle width m js i d (u ∷ us) H sound described rest = by_test (is_job_done js u)
    (λ e. by_test (is_open H u)
    (λ opened. settled_first width m H js i d u us (settle width m js i d us) sound described rest e opened)
    (λ shut. settle width m js i d us H sound described (passed H js u us rest (inr shut))))
    (λ e. settle width m js i d us H sound described (passed H js u us rest (inl e)))

all_settled : (width m : ℕ) (H : List Event) (js : List Job) (i : ℕ) (d : Vnfd) → IsSoundWithin width m H js → descriptor H i ≡ Some d
    → Settles width m H js i d
all_settled width m H js i d sound described = settle width m js i d (open_tags H) H sound described (λ t h. inr h)

unexpected : (s : Bool) (js : List Job) (f : Tag → Bool) (ts : List Tag) → ((t : Tag) → IsIn t ts → is_job_done js t ≡ false)
    → expected s js f ts ≡ s
unexpected s js f [] none = refl
unexpected s js f (t ∷ ts) none = rw (none t (inl refl)) refl

-- then what stands among the jobs is what stands
among_stands : (width m : ℕ) (H : List Event) (js : List Job) (i : ℕ) (d : Vnfd) → (s : Settles width m H js i d) → (x : Def)
    → stands_among H i x js ≡ stands s.past i x
among_stands width m H js i d s x =
    sym (s.among x) ∙ expects width m s.past js s.sound i x
    ∙ unexpected (stands s.past i x) js (leaves s.past i x) (open_on s.past i x)
    (λ t h. s.none t (of_filter (is_on s.past i x) t (open_tags s.past) h).0)

pub beside_theirs : (width m : ℕ) (H : List Event) (js : List Job) → IsSoundWithin width m H js → (i : ℕ) (d : Vnfd)
    → descriptor H i ≡ Some d
    → (x : Def) → x.kind ≡ Compute → stands_among H i x js ≡ true → (y : Def) → IsBeside d x y → stands_among H i y js ≡ true
beside_theirs width m H js sound i d described x compute up y beside =
    let s = all_settled width m H js i d sound described in
    let there : stands s.past i x ≡ true = sym (among_stands width m H js i d s x) ∙ up in
    among_stands width m H js i d s y ∙ by s there beside where
      by : (s : Settles width m H js i d) → stands s.past i x ≡ true → IsBeside d x y → stands s.past i y ≡ true
      by s there (inl on) = stands_on width m s.past s.sound.legal i d s.described x there y on
      by s there (inr link) = computes_linked width m s.past s.sound.legal i d s.described x compute there y link
