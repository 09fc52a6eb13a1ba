-- What a request says by itself, before the history is asked.
use Rattle.std.specs.Prelude.{◌≡◌, List, ℕ}
use Rattle.http_wire.specs.declared.request.Request.{Request}
use Rattle.lcm_api.specs.Creating.{create_instance, create_outcome}
use Rattle.lcm_api.specs.Planning.{told}
use Rattle.lcm_api.specs.declared.create.CreateVerdict.{CreateVerdict}
use Rattle.lcm_api.specs.declared.create.CreateVerdict.TheVariants as verdict
use Rattle.lcm_events.specs.declared.events.Event.{Event}

-- whatever the history, a request to create is refused with this reply, or is one of this body
abbrev pub IsCreateVerdict : Request → CreateVerdict → Type 0
IsCreateVerdict r (verdict.Refused reply) = (m : ℕ) (H : List Event) (now : ℕ) → create_instance m H now r ≡ told reply
IsCreateVerdict r (verdict.Create body) = (m : ℕ) (H : List Event) (now : ℕ)
    → create_instance m H now r ≡ create_outcome m H now body r.last
