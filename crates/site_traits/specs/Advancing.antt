-- What follows of the word on jobs that go on: no step is one, and two steps are one (own rules).
use Rattle.std.proofs.Common.{◌∙◌, subst, List, [], ◌∷◌, refl}
use Rattle.site_traits.specs.declared.jobs.Phase.{Phase}
use Rattle.site_traits.specs.declared.jobs.Phase.TheVariants.{Running, Done, Broken, Aborted}
use Rattle.site_traits.specs.Jobs.{Job, Advances, GoesOn}

-- a job may stay as it is
pub goes_on-refl : (p : Phase) → GoesOn p p
goes_on-refl Running = tt
goes_on-refl (Done name) = refl
goes_on-refl (Broken code) = refl
goes_on-refl Aborted = refl

-- an ended job stays as it ended, through two steps as through one
goes_on-then : (p q r : Phase) → GoesOn p q → GoesOn q r → GoesOn p r
goes_on-then Running q r pq qr = tt
goes_on-then (Done name) q r pq qr = let P : Phase → Type 0 = λ v. GoesOn v r in subst P pq qr
goes_on-then (Broken code) q r pq qr = let P : Phase → Type 0 = λ v. GoesOn v r in subst P pq qr
goes_on-then Aborted q r pq qr = let P : Phase → Type 0 = λ v. GoesOn v r in subst P pq qr

-- no job ended
pub advances-refl : (js : List Job) → Advances js js
advances-refl [] = tt
advances-refl (j ∷ js) = (record { tag = refl; act = refl; phase = goes_on-refl j.phase }, advances-refl js)

-- some jobs ended, and then some more
pub advances-then : (js ks ls : List Job) → Advances js ks → Advances ks ls → Advances js ls
advances-then [] [] [] jk kl = tt
advances-then [] [] (l ∷ ls) jk kl = kl
advances-then [] (k ∷ ks) ls jk kl = absurd jk
advances-then (j ∷ js) [] ls jk kl = absurd jk
advances-then (j ∷ js) (k ∷ ks) [] jk kl = kl
advances-then (j ∷ js) (k ∷ ks) (l ∷ ls) jk kl = (
  record {
    tag = kl.0.tag ∙ jk.0.tag;
    act = kl.0.act ∙ jk.0.act;
    phase =
        goes_on-then j.phase k.phase l.phase jk.0.phase kl.0.phase;
  },
  advances-then js ks ls jk.1 kl.1,
)
