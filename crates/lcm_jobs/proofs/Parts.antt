-- Lists of which some entries are taken in order, and the jobs of a tag.
use Rattle.std.proofs.Common.{◌≡◌, ◌∙◌, ◌||◌, List, [], ◌∷◌, Bool, true, false, None, Some, refl, ap, sym, subst, map, inl, inr}
use Rattle.std.specs.List.{list_any}
use Rattle.lcm_events.specs.Same.{same_tag}
use Rattle.lcm_events.proofs.SameLaws.{same_tag-refl, same_tag-true}
use Rattle.lcm_events.specs.declared.attempts.Tag.{Tag}
use Rattle.lcm_model.specs.Words.{IsIn}
use Rattle.lcm_laws.proofs.Lists.{by_test}
use Rattle.site_traits.specs.Jobs.{Job, phase_of}
use Rattle.lcm_jobs.specs.Alternating.{AreApart}
use Rattle.lcm_jobs.specs.Sound.{IsPartOf, attempt_of}

-- an entry more, of which none is taken
pub part_later : {A : Type 0} → (xs : List A) (y : A) (ys : List A) → IsPartOf xs ys → IsPartOf xs (y ∷ ys)
part_later [] y ys h = tt
part_later (x ∷ xs) y ys h = inr h

-- what is taken was there
pub part_in : {A : Type 0} → (x : A) (xs ys : List A) → IsPartOf xs ys → IsIn x xs → IsIn x ys
part_in x [] ys h g = absurd g
part_in x (z ∷ xs) [] h g = absurd h
part_in x (z ∷ xs) (y ∷ ys) (inl both) (inl e) = inl (sym both.0 ∙ e)
part_in x (z ∷ xs) (y ∷ ys) (inl both) (inr g) = inr (part_in x xs ys both.1 g)
part_in x (z ∷ xs) (y ∷ ys) (inr h) g = inr (part_in x (z ∷ xs) ys h g)

-- nothing is taken of nothing
pub part_none : (js : List Job) → IsPartOf (map attempt_of js) [] → js ≡ []
part_none [] h = refl
part_none (j ∷ js) h = absurd h

-- a tag that a test finds is in the list
pub any_in : (t : Tag) (ts : List Tag) → list_any (same_tag t) ts ≡ true → IsIn t ts
any_in t [] h = cc
any_in t (u ∷ ts) h = by_test (same_tag t u)
    (λ same. inl (sym (same_tag-true t u same)))
    (λ other. inr (any_in t ts (subst (λ (b : Bool). (b || list_any (same_tag t) ts) ≡ true) other h)))

-- and the other way round
pub in_any : (t : Tag) (ts : List Tag) → IsIn t ts → list_any (same_tag t) ts ≡ true
in_any t [] h = absurd h
in_any t (u ∷ ts) (inl e) = let same : same_tag t u ≡ true = subst (λ (x : Tag). same_tag t x ≡ true) (sym e) (same_tag-refl t) in
    rw same refl
in_any t (u ∷ ts) (inr h) = by_test (same_tag t u) (λ same. rw same refl) (λ other. rw other (in_any t ts h))

-- the phase of the job of this tag, where the front job is its
pub phase_front : (t : Tag) (j : Job) (js : List Job) → same_tag t j.tag ≡ true → phase_of t (j ∷ js) ≡ Some j.phase
phase_front t j js same = rw same refl

pub phase_back : (t : Tag) (j : Job) (js : List Job) → same_tag t j.tag ≡ false → phase_of t (j ∷ js) ≡ phase_of t js
phase_back t j js other = rw other refl

-- a tag that no job has, has none
pub phase_none : (t : Tag) (js : List Job) → (IsIn t (map (λ j. j.tag) js) → ⊥) → phase_of t js ≡ None
phase_none t [] h = refl
phase_none t (j ∷ js) h = by_test (same_tag t j.tag)
    (λ same. absurd (h (inl (sym (same_tag-true t j.tag same)))))
    (λ other. phase_back t j js other ∙ phase_none t js (λ g. h (inr g)))

-- and where there is none, no job has the tag
pub none_phase : (t : Tag) (js : List Job) → phase_of t js ≡ None → IsIn t (map (λ j. j.tag) js) → ⊥
none_phase t [] e h = h
none_phase t (j ∷ js) e (inl is) =
    let same : same_tag t j.tag ≡ true = subst (λ (x : Tag). same_tag t x ≡ true) (sym is) (same_tag-refl t) in
    let both : Some j.phase ≡ None = sym (phase_front t j js same) ∙ e in cc
none_phase t (j ∷ js) e (inr h) = by_test (same_tag t j.tag)
    (λ same. let both : Some j.phase ≡ None = sym (phase_front t j js same) ∙ e in cc)
    (λ other. none_phase t js (sym (phase_back t j js other) ∙ e) h)

-- where no tag stands twice, each job is the one of its tag
pub own_phase : (j : Job) (js : List Job) → AreApart (map (λ x. x.tag) js) → IsIn j js → phase_of j.tag js ≡ Some j.phase
own_phase j [] apart h = absurd h
own_phase j (k ∷ js) apart (inl is) =
    let same : same_tag j.tag k.tag ≡ true = subst (λ (x : Job). same_tag j.tag x.tag ≡ true) (sym is) (same_tag-refl j.tag) in
    phase_front j.tag k js same ∙ ap (λ (x : Job). Some x.phase) is
own_phase j (k ∷ js) apart (inr h) = by_test (same_tag j.tag k.tag)
    (λ same.
    let is : j.tag ≡ k.tag = same_tag-true j.tag k.tag same in
    let among : IsIn j.tag (map (λ x. x.tag) js) = in_tags j js h in
    absurd (apart.0 (subst (λ (x : Tag). IsIn x (map (λ x. x.tag) js)) is among)))
    (λ other. phase_back j.tag k js other ∙ own_phase j js apart.1 h) where
      in_tags : (j : Job) (js : List Job) → IsIn j js → IsIn j.tag (map (λ x. x.tag) js)
      in_tags j [] h = absurd h
      in_tags j (k ∷ js) (inl e) = inl (ap (λ (x : Job). x.tag) e)
      in_tags j (k ∷ js) (inr h) = inr (in_tags j js h)
