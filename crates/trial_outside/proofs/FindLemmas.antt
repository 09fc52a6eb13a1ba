-- Whether there is a job of a tag, in a list of jobs whose oldest stands first.
use Rattle.std.proofs.Common.{◌≡◌, ◌⊎◌, ◌∙◌, sym, ap, subst, refl, arith, inl, inr, ⊎_elim, ℕ, suc, ◌+◌, ◌<◌, Bool}
use Rattle.std.proofs.Common.{true, false}
use Rattle.std.proofs.Common.{if◌then◌else◌, Some, List, [], ◌∷◌, length, reverse, drop, get_or}
use Rattle.std.proofs.Common.{All}
use Rattle.std.specs.Prelude.{find, is_some, option_map, IsSome}
use Rattle.std.proofs.lemmas.Bool.{false≢true}
use Rattle.std.proofs.lemmas.List.{drop_more, length-reverse, reverse-append, reverse-reverse}
use Rattle.std.proofs.lemmas.List.Elements.{All-nil, All-cons, All-push}
use Rattle.lcm_events.specs.Same.{same_tag}
use Rattle.lcm_events.specs.declared.attempts.Tag.{Tag}
use Rattle.site_traits.specs.Jobs.{Job, phase_of}

-- the job is of another tag
abbrev pub IsOther : Tag → Job → Type 0
IsOther tag job = same_tag tag job.tag ≡ false

all_turned : (P : Job → Type 0) (js : List Job) → All P js → All P (reverse js)
all_turned P [] all = All-nil P
all_turned P (j ∷ js) all =
    subst (All P) (sym (reverse-append (j ∷ []) js))
    (All-push P (reverse js) j (all_turned P js (λ k d lt. all (suc k) d (omega (arith, lt)))) (all 0 j (omega arith)))

-- one of this tag is found, or all are of others
found_or_none : (tag : Tag) (js : List Job) → IsSome (phase_of tag js) ⊎ All (IsOther tag) js
found_or_none tag [] = inr (All-nil (IsOther tag))
found_or_none tag (j ∷ js) = of (found_or_none tag js) (same_tag tag j.tag) refl where
  of : IsSome (phase_of tag js) ⊎ All (IsOther tag) js → (b : Bool) → same_tag tag j.tag ≡ b
      → IsSome (option_map (λ (v : Job). v.phase) (if b then Some j else find (λ v. same_tag tag v.tag) js))
      ⊎ All (IsOther tag) (j ∷ js)
  of rest true same = inl refl
  of rest false same = ⊎_elim (λ (some : IsSome (phase_of tag js)). inl some)
      (λ (all : All (IsOther tag) js). inr (All-cons (IsOther tag) j js same all)) rest

-- a job of this tag stands at some place
some_there : (tag : Tag) (js : List Job) (k : ℕ) (d : Job) → k < length js
    → same_tag tag (get_or (reverse js) k d).tag ≡ true → IsSome (phase_of tag js)
some_there tag js k d lt same = ⊎_elim (λ (some : IsSome (phase_of tag js)). some)
    (λ (all : All (IsOther tag) js).
    let turned = length-reverse js in
    absurd (false≢true (sym (all_turned (IsOther tag) js all k d (omega (arith, lt, turned))) ∙ same)))
    (found_or_none tag js)

pub there : (tag : Tag) (js : List Job) (k : ℕ) (job d : Job) → k < length js → job ≡ get_or (reverse js) k d
    → same_tag tag job.tag ≡ true → IsSome (phase_of tag js)
there tag js k job d lt is same =
    some_there tag js k d lt (sym (ap (λ (j : Job). same_tag tag j.tag) is) ∙ same)

-- all are of other tags
none_there : (tag : Tag) (js : List Job) → All (IsOther tag) js → is_some (phase_of tag js) ≡ false
none_there tag [] all = refl
none_there tag (j ∷ js) all =
    ap (λ (b : Bool). is_some (option_map (λ (v : Job). v.phase)
    (if b then Some j else find (λ v. same_tag tag v.tag) js)))
    (all 0 j (omega arith))
    ∙ none_there tag js (λ k d lt. all (suc k) d (omega (arith, lt)))

pub nowhere : (tag : Tag) (js : List Job) (k : ℕ) → k ≡ 0 → All (IsOther tag) (drop k (reverse js))
    → IsSome (phase_of tag js) → ⊥
nowhere tag js k first all some =
    let D : ℕ → Type 0 = λ n. All (IsOther tag) (drop n (reverse js)) in
    let each : All (IsOther tag) (reverse js) = subst D first all in
    let turned : All (IsOther tag) js =
    subst (All (IsOther tag)) (reverse-reverse js) (all_turned (IsOther tag) (reverse js) each) in
    false≢true (sym (none_there tag js turned) ∙ some)

-- one place more
pub one_other : (tag : Tag) (js : List Job) (k : ℕ) (job d : Job) → k < length js → job ≡ get_or (reverse js) k d
    → same_tag tag job.tag ≡ false → All (IsOther tag) (drop (k + 1) (reverse js))
    → All (IsOther tag) (drop k (reverse js))
one_other tag js k job d lt is other all =
    let turned = length-reverse js in
    subst (All (IsOther tag)) (sym (drop_more (reverse js) k d (omega (arith, lt, turned))))
    (All-cons (IsOther tag) (get_or (reverse js) k d) (drop (k + 1) (reverse js))
    (sym (ap (λ (j : Job). same_tag tag j.tag) is) ∙ other) all)
