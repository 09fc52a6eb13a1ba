-- The jobs of a site in memory, moment by moment.
use Rattle.std.proofs.Common.{◌≡◌, ◌∙◌, sym, ap, subst, refl, arith, ℕ, suc, zero, ◌+◌, ◌-◌, ◌^◌, ◌<◌, ◌≤◌, Bool, true, false}
use Rattle.std.proofs.Common.{if◌then◌else◌, ◌&&◌, ◌||◌, ◌==◌, nat_le, Option, Some, None, is_some, is_none, List, [], ◌∷◌, ◌++◌, length}
use Rattle.std.proofs.Common.{map, reverse, drop, take, set, get_or, append_assoc, All}
use Rattle.std.specs.Prelude.{filter, find, decimal, option_map, IfSome, IsAscii}
use Rattle.std.specs.Str.Parse.{AllDigits}
use Rattle.std.proofs.lemmas.Bool.{false≢true}
use Rattle.std.proofs.lemmas.Bool.Decides.{nat_tests}
use Rattle.std.proofs.lemmas.Fmt.{decimal_is_IsNumeral, length-decimal-le, IsAscii-decimal}
use Rattle.std.proofs.lemmas.Str.{IsUtf8-from_ascii}
use Rattle.std.proofs.lemmas.Str.Parse.{digit_from_value}
use Rattle.std.proofs.lemmas.List.{reverse-reverse, reverse-append, set_split, take-append-drop, drop_more, append-nil, map-append}
use Rattle.std.proofs.lemmas.List.{length-reverse, length-map}
use Rattle.std.proofs.lemmas.Option.{get_or_from_slice_get}
use Rattle.std.proofs.lemmas.List.Elements.{All-nil, All-cons, All-push, filter-append}
use Rattle.vnfm_base.specs.Text.{IsName, IsPlain}
use Rattle.lcm_events.specs.Same.{same_tag}
use Rattle.lcm_events.specs.declared.attempts.Tag.{Tag}
use Rattle.site_traits.specs.declared.jobs.Phase.{Phase}
use Rattle.site_traits.specs.declared.jobs.Phase.TheVariants as phase
use Rattle.site_traits.specs.declared.mem_jobs.JobEnd.{JobEnd}
use Rattle.site_traits.specs.declared.mem_jobs.JobEnd.TheVariants as end
use Rattle.site_traits.specs.declared.mem_jobs.Found.TheVariants as found
use Rattle.site_traits.specs.declared.mem_jobs.KeptJob.{KeptJob}
use Rattle.site_traits.specs.Jobs.{Job, GoesOn, Advances, LooksAs, phase_of}
use Rattle.site_traits.specs.KeptJobs.{resource_name, planned_end, ended_as, found_of, look_of, phase_found, has_been, phase_at, phase_now}
use Rattle.site_traits.specs.KeptJobs.{job_of, job_at, is_there, jobs_of, jobs_at, looked, aborted_at, is_of, first_changed, latest_of}
use Rattle.site_traits.specs.KeptJobs.{latest_changed, EndedBy, IsEarly, HasNone, IsLatest, IsPlaced, stood, kept_at}
use Rattle.site_traits.specs.Advancing.{goes_on-refl}

-- digits are no control characters
digits_plain : (ds : List ℕ) → AllDigits 10 ds → All IsPlain ds
digits_plain [] d = All-nil IsPlain
digits_plain (c ∷ cs) d = All-cons IsPlain c cs (let range = digit_from_value c d.0 in
    (omega (arith, range), λ is. omega (arith, range, is))) (digits_plain cs d.1)

ascii_behind_r : (ds : List ℕ) → IsAscii ds → IsAscii (114 ∷ ds)
ascii_behind_r ds h zero = omega arith
ascii_behind_r ds h (suc i) = h i

-- the name of a job's resource is a name
pub resource_named : (place : ℕ) → place < 2 ^ 64 → IsName (resource_name place)
resource_named place small = record {
  short = omega (arith, length-decimal-le 20 place (omega arith) (omega arith) small);
  utf8 = IsUtf8-from_ascii (114 ∷ decimal place) (ascii_behind_r (decimal place) (IsAscii-decimal place small));
  plain = All-cons IsPlain 114 (decimal place) (omega arith, λ is. omega (arith, is))
      (digits_plain (decimal place) (decimal_is_IsNumeral place small).0.1);
}

-- From this moment to the next the job goes on so: no earlier moment sees a change.
pub record GoesTo (now : ℕ) (w v : KeptJob) : Type 0 where
  pub there : w.at ≤ now
  pub tag : v.tag ≡ w.tag
  pub act : v.act ≡ w.act
  pub at : v.at ≡ w.at
  pub before : (k : ℕ) → k ≤ now → phase_at k v ≡ phase_at k w
  pub phase : GoesOn (phase_at now w) (phase_at (now + 1) v)
  pub early : IsEarly (now + 1) v

-- each of the jobs goes on so
abbrev pub AllGo : ℕ → List KeptJob → List KeptJob → Type 0
AllGo now [] [] = Unit {0}
AllGo now (w ∷ ws) (v ∷ vs) = GoesTo now w v × AllGo now ws vs
AllGo now ws vs = ⊥

-- the jobs with one more in front
map_kept : {X Y : Type 0} (f : X → Y) (b : Bool) (x : X) (xs : List X)
    → map f (if b then x ∷ xs else xs) ≡ (if b then f x ∷ map f xs else map f xs)
map_kept f true x xs = refl
map_kept f false x xs = refl

jobs_cons : (k : ℕ) (w : KeptJob) (ws : List KeptJob) → jobs_of k (w ∷ ws)
    ≡ (if is_there k w then job_at k w ∷ jobs_of k ws else jobs_of k ws)
jobs_cons k w ws = map_kept (job_at k) (is_there k w) w (filter (is_there k) ws)

-- a test of numbers that holds, and one that doesn't
le_holds : (a b : ℕ) → a ≤ b → nat_le a b ≡ true
le_holds a b le = grind (arith, nat_tests)

le_fails : (a b : ℕ) → b < a → nat_le a b ≡ false
le_fails a b lt = grind (arith, nat_tests)

pub jobs_there : (k : ℕ) (w : KeptJob) (ws : List KeptJob) → w.at ≤ k → jobs_of k (w ∷ ws) ≡ job_at k w ∷ jobs_of k ws
jobs_there k w ws le = jobs_cons k w ws ∙ ap (λ (b : Bool). if b then job_at k w ∷ jobs_of k ws else jobs_of k ws) (le_holds w.at k le)

pub jobs_later : (k : ℕ) (w : KeptJob) (ws : List KeptJob) → k < w.at → jobs_of k (w ∷ ws) ≡ jobs_of k ws
jobs_later k w ws lt = jobs_cons k w ws ∙ ap (λ (b : Bool). if b then job_at k w ∷ jobs_of k ws else jobs_of k ws) (le_fails w.at k lt)

-- no earlier moment sees a change
pub jobs_before : (now k : ℕ) (ws vs : List KeptJob) → k ≤ now → AllGo now ws vs → jobs_of k vs ≡ jobs_of k ws
jobs_before now k [] [] le go = refl
jobs_before now k [] (v ∷ vs) le go = absurd go
jobs_before now k (w ∷ ws) [] le go = absurd go
jobs_before now k (w ∷ ws) (v ∷ vs) le go =
    let there : is_there k v ≡ is_there k w = ap (λ a. nat_le a k) go.0.at in
    let phases : phase_at k v ≡ phase_at k w = go.0.before k le in
    let tags = go.0.tag in
    let acts = go.0.act in
    let job : job_at k v ≡ job_at k w = λ i. record { tag = tags i; act = acts i; phase = phases i } in
    let rest : jobs_of k vs ≡ jobs_of k ws = jobs_before now k ws vs le go.1 in
    jobs_cons k v vs ∙ (λ i. if there i then job i ∷ rest i else rest i) ∙ sym (jobs_cons k w ws)

-- from the moment to the next running jobs may have ended
pub jobs_advance : (now : ℕ) (ws vs : List KeptJob) → AllGo now ws vs → Advances (jobs_of now ws) (jobs_of (now + 1) vs)
jobs_advance now [] [] go = tt
jobs_advance now [] (v ∷ vs) go = absurd go
jobs_advance now (w ∷ ws) [] go = absurd go
jobs_advance now (w ∷ ws) (v ∷ vs) go =
    let P : List Job → Type 0 = λ xs. Advances xs (jobs_of (now + 1) (v ∷ vs)) in
    let Q : List Job → Type 0 = λ ys. Advances (job_at now w ∷ jobs_of now ws) ys in
    let early = go.0.early.there in
    subst P (sym (jobs_there now w ws go.0.there))
    (subst Q (sym (jobs_there (now + 1) v vs early))
    (record { tag = go.0.tag; act = go.0.act; phase = go.0.phase }, jobs_advance now ws vs go.1))

pub early_after : (now : ℕ) (ws vs : List KeptJob) → AllGo now ws vs → All (IsEarly (now + 1)) vs
early_after now [] [] go = All-nil (IsEarly (now + 1))
early_after now [] (v ∷ vs) go = absurd go
early_after now (w ∷ ws) [] go = absurd go
early_after now (w ∷ ws) (v ∷ vs) go = All-cons (IsEarly (now + 1)) v vs go.0.early (early_after now ws vs go.1)

-- an end that has been stays so
been_on : (e : Option ℕ) (now : ℕ) → EndedBy now e → has_been e (now + 1) ≡ has_been e now
been_on None now by = refl
been_on (Some m) now by = let le = by m refl in le_holds m (now + 1) (omega arith) ∙ sym (le_holds m now le)

-- what has not ended has ended at no moment
been_never : (e : Option ℕ) (k : ℕ) → is_some e ≡ false → has_been e k ≡ false
been_never None k none = refl
been_never (Some m) k none = absurd (false≢true (sym none))

been_ended : (e : Option ℕ) (now k : ℕ) → is_some e ≡ true → EndedBy now e → now ≤ k → has_been e k ≡ true
been_ended None now k some by le = absurd (false≢true some)
been_ended (Some m) now k some by le = let end = by m refl in le_holds m k (omega arith)

later_by : (e : Option ℕ) (now : ℕ) → EndedBy now e → EndedBy (now + 1) e
later_by e now by = λ m is. let le = by m is in omega arith

-- an end of which that is known
ended_by : (e : Option ℕ) (now : ℕ) → IfSome e (λ m. m ≤ now) → EndedBy now e
ended_by e now le = λ m is. let P : Option ℕ → Type 0 = λ v. IfSome v (λ m. m ≤ now) in subst P is le

-- the phase by whether its end has been
phase_by : (w : KeptJob) (k : ℕ) (b : Bool) → has_been w.ended k ≡ b
    → phase_at k w ≡ (if b then phase_found (ended_as w) else phase.Running)
phase_by w k b is = ap (λ (v : Bool). if v then phase_found (ended_as w) else phase.Running) is

from_running : (p q : Phase) → p ≡ phase.Running → GoesOn p q
from_running p q is = let P : Phase → Type 0 = λ v. GoesOn v q in subst P (sym is) tt

-- a job that nothing is done to, but that so many looks are left of it, goes on
go_fewer : (now : ℕ) (w : KeptJob) (n : ℕ) → IsEarly now w → GoesTo now w (record w { looks = n })
go_fewer now w n early =
    let P : Phase → Type 0 = λ v. GoesOn (phase_at now w) v in
    record {
      there = early.there;
      tag = refl;
      act = refl;
      at = refl;
      before = λ k le. refl;
      phase = subst P (sym (phase_by w (now + 1) (has_been w.ended now) (been_on w.ended now early.ended))) (goes_on-refl (phase_at now w));
      early = record { there = (let there = early.there in omega (arith, there)); ended = later_by w.ended now early.ended };
    }

pub go_same : (now : ℕ) (w : KeptJob) → IsEarly now w → GoesTo now w w
go_same now w early = go_fewer now w w.looks early

-- a running job ends
go_ended : (now : ℕ) (w : KeptJob) (by_abort : Bool) → IsEarly now w → is_some w.ended ≡ false
    → GoesTo now w (record w { ended = Some (now + 1); aborted = by_abort })
go_ended now w by_abort early running =
    let v : KeptJob = record w { ended = Some (now + 1); aborted = by_abort } in
    record {
      there = early.there;
      tag = refl;
      act = refl;
      at = refl;
      before = λ k le. phase_by v k false (le_fails (now + 1) k (omega (arith, le)))
          ∙ sym (phase_by w k false (been_never w.ended k running));
      phase = from_running (phase_at now w) (phase_at (now + 1) v) (phase_by w now false (been_never w.ended now running));
      early = record {
        there = (let there = early.there in omega (arith, there));
        ended =
            ended_by (Some (now + 1)) (now + 1) (omega arith);
      };
    }

go_if : (now : ℕ) (w : KeptJob) (b : Bool) (x y : KeptJob) → (b ≡ true → GoesTo now w x) → (b ≡ false → GoesTo now w y)
    → GoesTo now w (if b then x else y)
go_if now w true x y then_so else_so = then_so refl
go_if now w false x y then_so else_so = else_so refl

pub go_looked : (now : ℕ) (w : KeptJob) → IsEarly now w → GoesTo now w (looked (now + 1) w)
go_looked now w early =
    go_if now w (is_some w.ended) w _
    (λ over. go_same now w early)
    (λ running. go_if now w (w.looks == 0) _ _ (λ last. go_ended now w w.aborted early running) (λ more. go_fewer now w _ early))

none_is : (e : Option ℕ) (b : Bool) → (is_none e && b) ≡ true → is_some e ≡ false
none_is None b h = refl
none_is (Some m) b h = absurd (false≢true h)

pub go_aborted : (now : ℕ) (w : KeptJob) → IsEarly now w → GoesTo now w (aborted_at (now + 1) w)
go_aborted now w early =
    go_if now w (is_none w.ended && w.abortable) _ w
    (λ ends. go_ended now w true early (none_is w.ended w.abortable ends))
    (λ stays. go_same now w early)

early_head : (now : ℕ) (w : KeptJob) (ws : List KeptJob) → All (IsEarly now) (w ∷ ws) → IsEarly now w
early_head now w ws all = all 0 w (omega arith)

early_rest : (now : ℕ) (w : KeptJob) (ws : List KeptJob) → All (IsEarly now) (w ∷ ws) → All (IsEarly now) ws
early_rest now w ws all = λ k d lt. all (suc k) d (omega (arith, lt))

pub all_same : (now : ℕ) (ws : List KeptJob) → All (IsEarly now) ws → AllGo now ws ws
all_same now [] all = tt
all_same now (w ∷ ws) all = (go_same now w (early_head now w ws all), all_same now ws (early_rest now w ws all))

all_if : (now : ℕ) (b : Bool) (w v : KeptJob) (ws vs : List KeptJob) → GoesTo now w v → GoesTo now w w → AllGo now ws ws → AllGo now ws vs
    → AllGo now (w ∷ ws) (if b then v ∷ ws else w ∷ vs)
all_if now true w v ws vs changes stays rest others = (changes, rest)
all_if now false w v ws vs changes stays rest others = (stays, others)

pub all_changed : (now : ℕ) (test : KeptJob → Bool) (change : KeptJob → KeptJob) → ((w : KeptJob) → IsEarly now w → GoesTo now w (change w))
    → (ws : List KeptJob) → All (IsEarly now) ws → AllGo now ws (first_changed test change ws)
all_changed now test change goes [] all = tt
all_changed now test change goes (w ∷ ws) all =
    let first = early_head now w ws all in
    let rest = early_rest now w ws all in
    all_if now (test w) w (change w) ws (first_changed test change ws) (goes w first) (go_same now w first) (all_same now ws rest)
    (all_changed now test change goes ws rest)

-- the phase of the latest job of a tag is that of the latest one that is kept
find_mapped : (k : ℕ) (b : Bool) (w : KeptJob) (o : Option Job) (r : Option KeptJob)
    → option_map (λ (j : Job). j.phase) o ≡ option_map (phase_at k) r
    → option_map (λ (j : Job). j.phase) (if b then Some (job_at k w) else o) ≡ option_map (phase_at k) (if b then Some w else r)
find_mapped k true w o r is = refl
find_mapped k false w o r is = is

pub phase_kept : (tag : Tag) (k : ℕ) (ws : List KeptJob) → All (IsEarly k) ws
    → phase_of tag (jobs_of k ws) ≡ option_map (phase_at k) (find (is_of tag) ws)
phase_kept tag k [] all = refl
phase_kept tag k (w ∷ ws) all =
    ap (phase_of tag) (jobs_there k w ws (early_head k w ws all).there)
    ∙ find_mapped k (is_of tag w) w (find (λ j. same_tag tag j.tag) (jobs_of k ws)) (find (is_of tag) ws)
    (phase_kept tag k ws (early_rest k w ws all))

-- the latest job of a tag once it was changed
find_if : (tag : Tag) (change : KeptJob → KeptJob) (w : KeptJob) (b : Bool) (ws vs : List KeptJob) → is_of tag w ≡ b
    → is_of tag (change w) ≡ b
    → find (is_of tag) vs ≡ option_map change (find (is_of tag) ws)
    → find (is_of tag) (if b then change w ∷ ws else w ∷ vs) ≡ option_map change (if b then Some w else find (is_of tag) ws)
find_if tag change w true ws vs is changed rest = ap (λ (b : Bool). if b then Some (change w) else find (is_of tag) ws) changed
find_if tag change w false ws vs is changed rest = ap (λ (b : Bool). if b then Some w else find (is_of tag) vs) is ∙ rest

pub find_changed : (tag : Tag) (change : KeptJob → KeptJob) → ((w : KeptJob) → is_of tag (change w) ≡ is_of tag w) → (ws : List KeptJob)
    → find (is_of tag) (first_changed (is_of tag) change ws) ≡ option_map change (find (is_of tag) ws)
find_changed tag change keeps [] = refl
find_changed tag change keeps (w ∷ ws) = find_if tag change w (is_of tag w) ws (first_changed (is_of tag) change ws) refl (keeps w)
    (find_changed tag change keeps ws)

-- what a look finds is among what is kept
found_early : (now : ℕ) (test : KeptJob → Bool) (ws : List KeptJob) → All (IsEarly now) ws → IfSome (find test ws) (IsEarly now)
found_early now test [] all = tt
found_early now test (w ∷ ws) all = pick (test w) (early_head now w ws all) (found_early now test ws (early_rest now w ws all)) where
  pick : (b : Bool) → IsEarly now w → IfSome (find test ws) (IsEarly now) → IfSome (if b then Some w else find test ws) (IsEarly now)
  pick true first rest = first
  pick false first rest = rest

-- a look tells how the job stands: an ended one once it was looked at, a running one before
ended_told : (tag : Tag) (by_abort : Bool) (e : JobEnd) (place : ℕ) (before after : List Job)
    → phase_of tag after ≡ Some (phase_found (if by_abort then found.Aborted else planned_end e place))
    → LooksAs tag (look_of (if by_abort then found.Aborted else planned_end e place)) before after
ended_told tag true e place before after is = is
ended_told tag false end.Done place before after is = is
ended_told tag false (end.Broken code) place before after is = is

looked_tag : (tag : Tag) (now : ℕ) (w : KeptJob) → is_of tag (looked now w) ≡ is_of tag w
looked_tag tag now w = of (is_some w.ended) (w.looks == 0) where
  of : (a b : Bool) → is_of tag (if a then w else if b then record w { ended = Some now } else record w { looks = w.looks - 1 })
      ≡ is_of tag w
  of true b = refl
  of false true = refl
  of false false = refl

ended_kept : (now : ℕ) (w : KeptJob) → IsEarly now w → (is_some w.ended || (w.looks == 0)) ≡ true
    → phase_at (now + 1) (looked (now + 1) w) ≡ phase_found (ended_as w)
ended_kept now w early h = of (is_some w.ended) (w.looks == 0) refl h where
  of : (a b : Bool) → is_some w.ended ≡ a → (a || b) ≡ true
      → phase_at (now + 1) (if a then w else if b then record w { ended = Some (now + 1) } else record w { looks = w.looks - 1 })
      ≡ phase_found (ended_as w)
  of true b some h = phase_by w (now + 1) true (been_ended w.ended now (now + 1) some early.ended (omega arith))
  of false true none h = phase_by (record w { ended = Some (now + 1) }) (now + 1) true (le_holds (now + 1) (now + 1) (omega arith))
  of false false none h = absurd (false≢true h)

not_ended : (a b : Bool) → (a || b) ≡ false → a ≡ false
not_ended true b h = h
not_ended false b h = refl

look_told : (tag : Tag) (now : ℕ) (o : Option KeptJob) (before after : List Job) → IfSome o (IsEarly now)
    → phase_of tag before ≡ option_map (phase_at now) o
    → phase_of tag after ≡ option_map (λ w. phase_at (now + 1) (looked (now + 1) w)) o → LooksAs tag (look_of (found_of o)) before after
look_told tag now None before after early was is = is
look_told tag now (Some w) before after early was is = of (is_some w.ended || (w.looks == 0)) refl where
  of : (b : Bool) → (is_some w.ended || (w.looks == 0)) ≡ b → LooksAs tag (look_of (if b then ended_as w else found.Running)) before after
  of true over = ended_told tag w.aborted w.end w.place before after (is ∙ ap Some (ended_kept now w early over))
  of false runs = was ∙ ap Some (phase_by w now false (been_never w.ended now (not_ended (is_some w.ended) (w.looks == 0) runs)))

option_twice : {X Y Z : Type 0} (f : X → Y) (g : Y → Z) (o : Option X) → option_map g (option_map f o) ≡ option_map (λ x. g (f x)) o
option_twice f g None = refl
option_twice f g (Some x) = refl

-- a look answers how the latest job of the tag stands
pub looks_as : (tag : Tag) (now : ℕ) (ws : List KeptJob) → All (IsEarly now) ws
    → LooksAs tag (look_of (found_of (find (is_of tag) ws))) (jobs_of now ws)
    (jobs_of (now + 1) (first_changed (is_of tag) (looked (now + 1)) ws))
looks_as tag now ws early =
    let change = looked (now + 1) in
    let after = first_changed (is_of tag) change ws in
    let on : All (IsEarly (now + 1)) after = early_after now ws after
    (all_changed now (is_of tag) change (λ w first. go_looked now w first) ws early) in
    look_told tag now (find (is_of tag) ws) (jobs_of now ws) (jobs_of (now + 1) after)
    (found_early now (is_of tag) ws early)
    (phase_kept tag now ws early)
    (phase_kept tag (now + 1) after on
    ∙ ap (option_map (phase_at (now + 1))) (find_changed tag change (λ w. looked_tag tag (now + 1) w) ws)
    ∙ option_twice change (phase_at (now + 1)) (find (is_of tag) ws))

-- the jobs in two parts, the later part first
jobs_append : (k : ℕ) (ws vs : List KeptJob) → jobs_of k (ws ++ vs) ≡ jobs_of k ws ++ jobs_of k vs
jobs_append k ws vs = ap (map (job_at k)) (filter-append (is_there k) ws vs)
    ∙ map-append (job_at k) (filter (is_there k) ws) (filter (is_there k) vs)

-- the earliest job stands last where the latest stands first
jobs_cons_last : (k : ℕ) (w : KeptJob) (ws : List KeptJob) → jobs_at k (w ∷ ws) ≡ jobs_at k ws ++ jobs_of k (w ∷ [])
jobs_cons_last k w ws = ap (jobs_of k) (reverse-append (w ∷ []) ws) ∙ jobs_append k (reverse ws) (w ∷ [])

-- a job stands at the start as it stood at that moment
phase_stood : (k : ℕ) (w : KeptJob) → phase_at 0 (stood k w) ≡ phase_at k w
phase_stood k w = of (has_been w.ended k) refl where
  of : (b : Bool) → has_been w.ended k ≡ b
      → phase_at 0 (record w { at = 0; ended = (if b then Some 0 else None); aborted = b && w.aborted }) ≡ phase_at k w
  of true been = sym (phase_by w k true been)
  of false been = sym (phase_by w k false been)

-- the jobs that a stop leaves are those of that moment
pub jobs_stood : (k : ℕ) (kept : List KeptJob) → jobs_at 0 (kept_at k kept) ≡ jobs_at k kept
jobs_stood k [] = refl
jobs_stood k (w ∷ ws) = of (jobs_stood k ws) (is_there k w) refl where
  of : jobs_at 0 (kept_at k ws) ≡ jobs_at k ws → (b : Bool) → is_there k w ≡ b
      → jobs_at 0 (map (stood k) (if b then w ∷ filter (is_there k) ws else filter (is_there k) ws)) ≡ jobs_at k (w ∷ ws)
  of rest true there =
      let phases = phase_stood k w in
      let job : job_at 0 (stood k w) ≡ job_at k w = λ i. record { tag = w.tag; act = w.act; phase = phases i } in
      jobs_cons_last 0 (stood k w) (kept_at k ws) ∙ ap (λ js. js ++ job_at 0 (stood k w) ∷ []) rest
      ∙ ap (λ j. jobs_at k ws ++ j ∷ []) job
      ∙ ap (λ (b : Bool). jobs_at k ws ++ (map (job_at k) (if b then w ∷ [] else []))) (sym there)
      ∙ sym (jobs_cons_last k w ws)
  of rest false there =
      rest ∙ sym (append-nil (jobs_at k ws))
      ∙ ap (λ (b : Bool). jobs_at k ws ++ (map (job_at k) (if b then w ∷ [] else []))) (sym there)
      ∙ sym (jobs_cons_last k w ws)

-- and they are early at the start
early_stood : (k : ℕ) (w : KeptJob) → IsEarly 0 (stood k w)
early_stood k w = record { there = omega arith; ended = of (has_been w.ended k) } where
  of : (b : Bool) → EndedBy 0 (if b then Some 0 else None)
  of true = ended_by (Some 0) 0 (omega arith)
  of false = ended_by None 0 tt

all_stood : (k : ℕ) (ws : List KeptJob) → All (IsEarly 0) (map (stood k) ws)
all_stood k [] = All-nil (IsEarly 0)
all_stood k (w ∷ ws) = All-cons (IsEarly 0) (stood k w) (map (stood k) ws) (early_stood k w) (all_stood k ws)

pub kept_early : (k : ℕ) (kept : List KeptJob) → All (IsEarly 0) (kept_at k kept)
kept_early k kept = all_stood k (filter (is_there k) kept)

-- what holds of all holds of them in the other order
pub all_reversed : (now : ℕ) (ws : List KeptJob) → All (IsEarly now) ws → All (IsEarly now) (reverse ws)
all_reversed now [] all = All-nil (IsEarly now)
all_reversed now (w ∷ ws) all =
    let P : List KeptJob → Type 0 = λ v. All (IsEarly now) v in
    subst P (sym (reverse-append (w ∷ []) ws)) (All-push (IsEarly now) (reverse ws) w (all_reversed now ws (early_rest now w ws all))
    (early_head now w ws all))

-- the jobs around one, in both orders
reverse_around : (front back : List KeptJob) (w : KeptJob) → reverse (front ++ w ∷ back) ≡ reverse back ++ w ∷ reverse front
reverse_around front back w =
    reverse-append front (w ∷ back) ∙ ap (λ v. v ++ reverse front) (reverse-append (w ∷ []) back)
    ∙ append_assoc (reverse back) (w ∷ []) (reverse front)

find_past : (test : KeptJob → Bool) (ws vs : List KeptJob) → All (λ w. test w ≡ false) ws → find test (ws ++ vs) ≡ find test vs
find_past test [] vs fails = refl
find_past test (w ∷ ws) vs fails =
    ap (λ (b : Bool). if b then Some w else find test (ws ++ vs)) (fails 0 w (omega arith))
    ∙ find_past test ws vs (λ k d lt. fails (suc k) d (omega (arith, lt)))

changed_past : (test : KeptJob → Bool) (change : KeptJob → KeptJob) (ws vs : List KeptJob) → All (λ w. test w ≡ false) ws
    → first_changed test change (ws ++ vs) ≡ ws ++ first_changed test change vs
changed_past test change [] vs fails = refl
changed_past test change (w ∷ ws) vs fails =
    ap (λ (b : Bool). if b then change w ∷ (ws ++ vs) else w ∷ first_changed test change (ws ++ vs)) (fails 0 w (omega arith))
    ∙ ap (λ v. w ∷ v) (changed_past test change ws vs (λ k d lt. fails (suc k) d (omega (arith, lt))))

none_reversed : (test : KeptJob → Bool) (ws : List KeptJob) → All (λ w. test w ≡ false) ws → All (λ w. test w ≡ false) (reverse ws)
none_reversed test [] fails = All-nil (λ w. test w ≡ false)
none_reversed test (w ∷ ws) fails =
    let P : List KeptJob → Type 0 = λ v. All (λ w. test w ≡ false) v in
    subst P (sym (reverse-append (w ∷ []) ws))
    (All-push (λ w. test w ≡ false) (reverse ws) w (none_reversed test ws (λ k d lt. fails (suc k) d (omega (arith, lt))))
    (fails 0 w (omega arith)))

-- where no job has the tag, none is found and nothing changes
pub none_latest : (tag : Tag) (js : List KeptJob) → HasNone tag js → latest_of tag js ≡ None
none_latest tag js none =
    ap (find (is_of tag)) (sym (append-nil (reverse js))) ∙ find_past (is_of tag) (reverse js) [] (none_reversed (is_of tag) js none)

pub none_changed : (tag : Tag) (change : KeptJob → KeptJob) (js : List KeptJob) → HasNone tag js → js ≡ latest_changed tag change js
none_changed tag change js none =
    let same : first_changed (is_of tag) change (reverse js) ≡ reverse js =
    ap (first_changed (is_of tag) change) (sym (append-nil (reverse js)))
    ∙ changed_past (is_of tag) change (reverse js) [] (none_reversed (is_of tag) js none)
    ∙ append-nil (reverse js) in
    sym (ap reverse same ∙ reverse-reverse js)

-- the jobs before the latest of a tag, it, and those behind it
around : (tag : Tag) (js : List KeptJob) (k : ℕ) → (l : IsLatest tag js k) → js ≡ take k js ++ l.job ∷ drop (k + 1) js
around tag js k l =
    sym (take-append-drop k js)
    ∙ ap (λ v. take k js ++ v) (drop_more js k l.job l.within ∙ ap (λ v. v ∷ drop (k + 1) js)
    (get_or_from_slice_get js k l.job l.job l.there))

pub is_latest : (tag : Tag) (js : List KeptJob) (k : ℕ) → (l : IsLatest tag js k) → latest_of tag js ≡ Some l.job
is_latest tag js k l =
    let front = take k js in
    let back = drop (k + 1) js in
    ap (latest_of tag) (around tag js k l) ∙ ap (find (is_of tag)) (reverse_around front back l.job)
    ∙ find_past (is_of tag) (reverse back) (l.job ∷ reverse front) (none_reversed (is_of tag) back l.last)
    ∙ ap (λ (b : Bool). if b then Some l.job else find (is_of tag) (reverse front)) l.is

pub latest_is : (tag : Tag) (change : KeptJob → KeptJob) (js : List KeptJob) (k : ℕ) → (l : IsLatest tag js k)
    → set js k (change l.job) ≡ latest_changed tag change js
latest_is tag change js k l =
    let front = take k js in
    let back = drop (k + 1) js in
    let job = l.job in
    let turned : reverse js ≡ reverse back ++ job ∷ reverse front = ap reverse (around tag js k l) ∙ reverse_around front back job in
    let changed : first_changed (is_of tag) change (reverse js) ≡ reverse back ++ change job ∷ reverse front =
    ap (first_changed (is_of tag) change) turned ∙ changed_past (is_of tag) change (reverse back) (job ∷ reverse front)
    (none_reversed (is_of tag) back l.last)
    ∙ ap (λ (b : Bool). reverse back ++ (if b then change job ∷ reverse front else job ∷ first_changed (is_of tag) change (reverse front)))
    l.is in
    let again : reverse (reverse back ++ change job ∷ reverse front) ≡ front ++ change job ∷ back =
    reverse_around (reverse back) (reverse front) (change job) ∙ ap (λ v. v ++ change job ∷ reverse (reverse back)) (reverse-reverse front)
    ∙ ap (λ v. front ++ change job ∷ v) (reverse-reverse back) in
    let next : suc k ≡ k + 1 = omega arith in
    set_split js k (change job) l.within ∙ ap (λ n. front ++ change job ∷ drop n js) next ∙ sym (ap reverse changed ∙ again)

-- changed jobs are early at the next moment
pub changed_early : (now : ℕ) (tag : Tag) (change : KeptJob → KeptJob) (js : List KeptJob)
    → ((w : KeptJob) → IsEarly now w → GoesTo now w (change w)) → All (IsEarly now) js
    → All (IsEarly (now + 1)) (latest_changed tag change js)
changed_early now tag change js goes early =
    let after = first_changed (is_of tag) change (reverse js) in
    all_reversed (now + 1) after (early_after now (reverse js) after
    (all_changed now (is_of tag) change goes (reverse js) (all_reversed now js early)))

-- the same of a place that was looked up
placed_job : (tag : Tag) (js : List KeptJob) (place : Option ℕ) (k : ℕ) → place ≡ Some k → IsPlaced tag js place → IsLatest tag js k
placed_job tag js place k is placed = let P : Option ℕ → Type 0 = λ v. IsPlaced tag js v in subst P is placed

placed_none : (tag : Tag) (js : List KeptJob) (place : Option ℕ) → place ≡ None → IsPlaced tag js place → HasNone tag js
placed_none tag js place is placed = let P : Option ℕ → Type 0 = λ v. IsPlaced tag js v in subst P is placed

job_there : (tag : Tag) (js : List KeptJob) (k : ℕ) (w : KeptJob) (l : IsLatest tag js k) → w ≡ get_or js k w → w ≡ l.job
job_there tag js k w l is = is ∙ get_or_from_slice_get js k l.job w l.there

pub some_found : (tag : Tag) (js : List KeptJob) (place : Option ℕ) (k : ℕ) (w : KeptJob) → place ≡ Some k → w ≡ get_or js k w
    → IsPlaced tag js place
    → found_of (Some w) ≡ found_of (latest_of tag js)
some_found tag js place k w is read placed =
    let l = placed_job tag js place k is placed in
    ap (λ (v : KeptJob). found_of (Some v)) (job_there tag js k w l read) ∙ ap found_of (sym (is_latest tag js k l))

pub none_found : (tag : Tag) (js : List KeptJob) (place : Option ℕ) → place ≡ None → IsPlaced tag js place
    → found.Absent ≡ found_of (latest_of tag js)
none_found tag js place is placed = ap found_of (sym (none_latest tag js (placed_none tag js place is placed)))

pub some_changed : (tag : Tag) (change : KeptJob → KeptJob) (js : List KeptJob) (place : Option ℕ) (k : ℕ) (w v : KeptJob) → place ≡ Some k
    → w ≡ get_or js k w → v ≡ change w
    → IsPlaced tag js place → set js k v ≡ latest_changed tag change js
some_changed tag change js place k w v is read changed placed =
    let l = placed_job tag js place k is placed in
    ap (set js k) (changed ∙ ap change (job_there tag js k w l read)) ∙ latest_is tag change js k l

pub none_placed : (tag : Tag) (change : KeptJob → KeptJob) (js : List KeptJob) (place : Option ℕ) → place ≡ None → IsPlaced tag js place
    → js ≡ latest_changed tag change js
none_placed tag change js place is placed = none_changed tag change js (placed_none tag js place is placed)

-- the same where the next moment goes by other names
pub changed_on : (m now last : ℕ) (tag : Tag) (make : ℕ → KeptJob → KeptJob) (js ks : List KeptJob)
    → ((w : KeptJob) → IsEarly m w → GoesTo m w (make (m + 1) w)) → All (IsEarly m) js
    → now ≡ m + 1 → last ≡ m + 1 → ks ≡ latest_changed tag (make now) js → All (IsEarly last) ks
changed_on m now last tag make js ks goes early now_is last_is is =
    let P : List KeptJob → Type 0 = λ v. All (IsEarly (m + 1)) v in
    let Q : ℕ → Type 0 = λ k. All (IsEarly k) ks in
    subst Q (sym last_is) (subst P (sym (is ∙ ap (λ k. latest_changed tag (make k) js) now_is))
    (changed_early m tag (make (m + 1)) js goes early))

-- at the last moment each job is there as it stands
abbrev pub job_now : KeptJob → Job
job_now w = job_of w.tag w.act (phase_now w)

phase_last : (m : ℕ) (w : KeptJob) → IsEarly m w → phase_at m w ≡ phase_now w
phase_last m w early = of (is_some w.ended) refl where
  of : (b : Bool) → is_some w.ended ≡ b → phase_at m w ≡ (if b then phase_found (ended_as w) else phase.Running)
  of true some = phase_by w m true (been_ended w.ended m m some early.ended (omega arith))
  of false none = phase_by w m false (been_never w.ended m none)

jobs_all : (m : ℕ) (ws : List KeptJob) → All (IsEarly m) ws → jobs_of m ws ≡ map job_now ws
jobs_all m [] all = refl
jobs_all m (w ∷ ws) all =
    let phases = phase_last m w (early_head m w ws all) in
    let job : job_at m w ≡ job_now w = λ i. record { tag = w.tag; act = w.act; phase = phases i } in
    let rest = jobs_all m ws (early_rest m w ws all) in
    jobs_there m w ws (early_head m w ws all).there ∙ (λ i. job i ∷ rest i)

map_turned : (ws : List KeptJob) → map job_now (reverse ws) ≡ reverse (map job_now ws)
map_turned [] = refl
map_turned (w ∷ ws) =
    ap (map job_now) (reverse-append (w ∷ []) ws) ∙ map-append job_now (reverse ws) (w ∷ [])
    ∙ ap (λ js. js ++ job_now w ∷ []) (map_turned ws) ∙ sym (reverse-append (job_now w ∷ []) (map job_now ws))

pub jobs_last : (m : ℕ) (kept : List KeptJob) → All (IsEarly m) kept → reverse (jobs_at m kept) ≡ map job_now kept
jobs_last m kept early =
    ap reverse (jobs_all m (reverse kept) (all_reversed m kept early) ∙ map_turned kept) ∙ reverse-reverse (map job_now kept)

pub jobs_counted : (m : ℕ) (kept : List KeptJob) → All (IsEarly m) kept → length (jobs_at m kept) ≡ length kept
jobs_counted m kept early = sym (length-reverse (jobs_at m kept)) ∙ ap length (jobs_last m kept early) ∙ length-map kept job_now
