-- Each job is the work of an attempt that the history has, behind a grant.
use Rattle.std.proofs.Common.{◌≡◌, ◌++◌, ℕ, List, [], ◌∷◌, refl, ap, subst, map, inl, inr}
use Rattle.lcm_events.specs.declared.events.Event.{Event}
use Rattle.lcm_events.specs.declared.events.EventKind.{EventKind}
use Rattle.lcm_events.specs.declared.events.EventKind.TheVariants.{Intent}
use Rattle.lcm_model.specs.Allowed.{IsLegalWithin}
use Rattle.lcm_model.specs.Words.{IsIn}
use Rattle.lcm_laws.proofs.GrantLaws.{begun_granted}
use Rattle.lcm_laws.proofs.Histories.{event}
use Rattle.lcm_laws.proofs.Members.{in_map}
use Rattle.site_traits.specs.Jobs.{Job}
use Rattle.change_planner.specs.Tags.{act_of}
use Rattle.lcm_jobs.specs.Backing.{IsGrantedWork}
use Rattle.lcm_jobs.specs.Sound.{Attempt, IsSoundWithin, attempt_of, begun}
use Rattle.lcm_jobs.proofs.Parts.{part_in}

-- where the history begins an attempt
record IsBegun (H : List Event) (x : Attempt) : Type 0 where
  later : List Event
  moment : ℕ
  past : List Event
  intent : H ≡ later ++ event moment (Intent x.tag) ∷ past
  work : act_of past x.tag ≡ x.act

begun_at : (H : List Event) (x : Attempt) → IsIn x (begun H) → IsBegun H x
begun_at [] x h = absurd h
begun_at (e ∷ H) x h = by_kind e.kind (begun_at H x) h where
  later_on : (k : EventKind) → IsBegun H x → IsBegun (event e.moment k ∷ H) x
  later_on k at = record {
    later = event e.moment k ∷ at.later;
    moment = at.moment;
    past = at.past;
    intent =
        ap (λ (v : List Event). event e.moment k ∷ v) at.intent;
    work = at.work;
  }

  by_kind : (k : EventKind) → (IsIn x (begun H) → IsBegun H x) → IsIn x (begun (event e.moment k ∷ H)) → IsBegun (event e.moment k ∷ H) x
  by_kind (Intent u) earlier (inl is) =
      subst (λ (y : Attempt). IsBegun (event e.moment (Intent u) ∷ H) y) is
      (record { later = []; moment = e.moment; past = H; intent = refl; work = refl })
  by_kind (Intent u) earlier (inr h) = later_on (Intent u) (earlier h)
  by_kind k earlier h = later_on k (earlier h)

-- each job is granted work
pub granted_work : (width m : ℕ) (H : List Event) (js : List Job) → IsSoundWithin width m H js → (j : Job) → IsIn j js → IsGrantedWork H j
granted_work width m H js sound j among =
    let at : IsBegun H (attempt_of j) = begun_at H (attempt_of j) (part_in (attempt_of j) (map attempt_of js) (begun H) sound.begun
    (in_map attempt_of j js among)) in
    record {
      later = at.later;
      moment = at.moment;
      past = at.past;
      intent = at.intent;
      granted = begun_granted width m at.past at.later at.moment j.tag
          (subst (λ (v : List Event). IsLegalWithin width m v) at.intent sound.legal);
      work = at.work;
    }
