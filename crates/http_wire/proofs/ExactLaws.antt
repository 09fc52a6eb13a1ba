-- Each answer comes exactly where the bytes begin with what it says.
use Rattle.std.proofs.Common.{◌≡◌, ℕ, List, Option, Some, None, Bool, Result, Ok, Err, [], sym, subst, inl, inr}
use Rattle.http_frames.specs.Messages.{BeginsBad, BeginsBig, IsCut, StopsInTarget, IsLongTarget}
use Rattle.http_frames.specs.Beginnings.{Beginning, BeginsWith}
use Rattle.http_frames.specs.Beginnings as begins
use Rattle.http_frames.proofs.BeginningLaws.{one_way}
use Rattle.http_frames.proofs.TargetLaws.{stops_two_ways, goes_on_two_ways}
use Rattle.http_wire.specs.declared.request.Request.{Request}
use Rattle.http_wire.specs.declared.request.Taken.{Taken}
use Rattle.http_wire.specs.declared.request.Taken.TheVariants as taken
use Rattle.http_wire.specs.declared.request.WireFault.{WireFault}
use Rattle.http_wire.specs.declared.request.WireFault.TheVariants as fault
use Rattle.http_wire.specs.Intake.{IntakeState}
use Rattle.http_wire.specs.Wire.{WireState, bytes_of, FaultIs, KeepsBytes, TakesRequest, RequestCame}
use Rattle.http_wire.specs.Exact.{MaySay, IsExact, MayWait, NothingRefusedWaits}

-- what the bytes begin with is what was said of them
said : (bytes : List ℕ) (a b : Beginning) → BeginsWith bytes a → BeginsWith bytes b → MaySay bytes b a
said bytes a b x y = inl (one_way bytes a b x y)

-- they stop in a request target, and were said to be cut
said_cut : (bytes : List ℕ) (b : Beginning) → StopsInTarget bytes → BeginsWith bytes b → MaySay bytes b begins.cut
said_cut bytes b t x = elim (stops_two_ways bytes b t x) [ inl cut ↦ inl (sym cut) | inr bad ↦ inr (bad, t) ]

-- more stand there than a head may have, as many stop in a request target, and they were said to be big
said_big : (bytes : List ℕ) (b : Beginning) → IsLongTarget bytes → BeginsWith bytes b → MaySay bytes b begins.big
said_big bytes b t x = elim (goes_on_two_ways bytes b t x) [ inl big ↦ inl (sym big) | inr bad ↦ inr (bad, t) ]

request_is_exact : (tells : Type 0) (at_last : Bool) (a b : IntakeState) (r : Request) → TakesRequest tells at_last a b r → tells
    → IsExact (bytes_of a) (Ok (taken.Request r))
request_is_exact tells at_last a b r t told beginning x = said (bytes_of a) begins.whole beginning (t.message, bytes_of b, t.reads told) x

end_is_exact : (tells : Type 0) (a : IntakeState) → (tells → bytes_of a ≡ []) → tells → IsExact (bytes_of a) (Ok taken.End)
end_is_exact tells a none told beginning x = said (bytes_of a) begins.none beginning (none told) x

fault_is_exact : (tells : Type 0) (a b : IntakeState) (f : WireFault) → KeepsBytes tells a b → FaultIs tells a b f → tells
    → IsExact (bytes_of a) (Err f)
fault_is_exact tells a b fault.Malformed kept is told beginning x =
    said (bytes_of a) begins.bad beginning (subst BeginsBad (kept told) (is told)) x
fault_is_exact tells a b fault.TooLarge kept is told beginning x = elim (is told) [
  | inl big ↦ said (bytes_of a) begins.big beginning (subst BeginsBig (kept told) big) x
  | inr target ↦ said_big (bytes_of a) beginning (subst IsLongTarget (kept told) target) x
]
fault_is_exact tells a b fault.Unfinished kept is told beginning x = elim (is told) [
  | inl cut ↦ said (bytes_of a) begins.cut beginning (subst IsCut (kept told) cut) x
  | inr target ↦ said_cut (bytes_of a) beginning (subst StopsInTarget (kept told) target) x
]
fault_is_exact tells a b fault.Read kept is told beginning x = tt
fault_is_exact tells a b fault.Memory kept is told beginning x = tt

-- ---- what waits

may_wait : (bytes : List ℕ) (a b : Beginning) → MayWait bytes a → a ≡ b → MayWait bytes b
may_wait bytes a b may same = subst (λ (x : Beginning). MayWait bytes x) same may

pub nothing_refused_waits : NothingRefusedWaits
nothing_refused_waits bytes b (inl none) x = may_wait bytes begins.none b tt (one_way bytes begins.none b none x)
nothing_refused_waits bytes b (inr (inl cut)) x = may_wait bytes begins.cut b tt (one_way bytes begins.cut b cut x)
nothing_refused_waits bytes b (inr (inr target)) x = elim (stops_two_ways bytes b target x) [
  | inl cut ↦ may_wait bytes begins.cut b tt (sym cut)
  | inr bad ↦ may_wait bytes begins.bad b target (sym bad)
]

-- ---- the same of what came out of the intake, which the wire holds

held_by : (a : IntakeState) (w : WireState) (answer : Result Taken WireFault) → a ≡ w.intake → IsExact (bytes_of a) answer
    → IsExact (bytes_of w.intake) answer
held_by a w answer is exact = subst (λ (i : IntakeState). IsExact (bytes_of i) answer) is exact

pub some_came : (tells : Type 0) (at_last : Bool) (a b : IntakeState) (w : WireState) (found : Option Request) (r : Request) → a ≡ w.intake
    → RequestCame tells at_last a b (Ok found) → found ≡ Some r → tells → IsExact (bytes_of w.intake) (Ok (taken.Request r))
some_came tells at_last a b w found r is came some told =
    let takes : TakesRequest tells at_last a b r = subst (λ (x : Option Request). RequestCame tells at_last a b (Ok x)) some came in
    held_by a w (Ok (taken.Request r)) is (request_is_exact tells at_last a b r takes told)

pub none_came : (tells : Type 0) (at_last : Bool) (a b : IntakeState) (w : WireState) (found : Option Request) → a ≡ w.intake
    → RequestCame tells at_last a b (Ok found) → found ≡ None → tells → IsExact (bytes_of w.intake) (Ok taken.End)
none_came tells at_last a b w found is came none told =
    let ends : RequestCame tells at_last a b (Ok None) = subst (λ (x : Option Request). RequestCame tells at_last a b (Ok x)) none came in
    held_by a w (Ok taken.End) is (end_is_exact tells a ends.1 told)

pub fault_came : (tells : Type 0) (a b : IntakeState) (w : WireState) (f : WireFault) → a ≡ w.intake
    → KeepsBytes tells a b → FaultIs tells a b f → tells → IsExact (bytes_of w.intake) (Err f)
fault_came tells a b w f is kept why told = held_by a w (Err f) is (fault_is_exact tells a b f kept why told)
