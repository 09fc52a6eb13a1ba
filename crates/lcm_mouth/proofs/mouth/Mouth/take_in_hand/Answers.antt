-- What the wire took is what was heard.
use Rattle.std.proofs.Common.{◌≡◌, ◌∙◌, false, Result, Err, ap, refl, subst}
use Rattle.std.proofs.lemmas.Result.{err_from_is_err_and}
use Rattle.http_wire.specs.declared.request.Taken.{Taken}
use Rattle.http_wire.specs.declared.request.WireFault.{WireFault}
use Rattle.http_wire.specs.Exact.{IsExact}
use Rattle.http_wire.specs.Wire.{WireState, TakenIs, bytes_of}
use Rattle.lcm_mouth.specs.Mouth.{Takes}
use Rattle.lcm_mouth.proofs.mouth.Mouth.take_in_hand.Goals as goal

-- the wire is the mouth's
takes : (tells : Type 0) (answer : Result Taken WireFault) (a w b : WireState) → a ≡ w → TakenIs tells a b answer
    → (tells → a.ended ≡ false → IsExact (bytes_of a.intake) answer) → Takes tells answer w b
takes tells answer a w b same is exact = subst (λ (x : WireState). Takes tells answer x b) same (record { is = is; exact = exact })

pub returns-in-Request-clause-heard : goal.returns-in-Request-clause-heard
returns-in-Request-clause-heard g c = (
  c.in-Request.request,
  refl,
  takes _ _ _ _ _ (ap (λ m. m.wire) c.self.view_is) (rw c.in-Request.is at c.in_ok-request.ensures.taken)
      (rw c.in-Request.is at c.in_ok-request.ensures.exact),
)

pub returns-in_err-request-clause-heard : goal.returns-in_err-request-clause-heard
returns-in_err-request-clause-heard g c =
    let err = err_from_is_err_and c.from_residual.result c.from_residual.ensures.1 in
    rw (err.1 ∙ ap Err err.2) (
      refl,
      takes _ _ _ _ _ (ap (λ m. m.wire) c.self.view_is) c.in_err-request.ensures.taken
          c.in_err-request.ensures.exact,
    )
