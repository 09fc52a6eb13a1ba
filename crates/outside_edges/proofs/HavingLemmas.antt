-- Calls that stop at one that wasn't answered by yes.
use Rattle.std.proofs.Common.{◌≡◌, ◌≢◌, List, ◌∷◌, [], Option, Some, None, ap, sym, refl, ◌∙◌, arith}
use Rattle.std.specs.declared.io.ErrorKind.{ErrorKind}
use Rattle.host_calls.specs.Files.{Answer, FileCall, FileCalls, FilesState, made_once}
use Rattle.outside_edges.specs.Having.{Goes, StopsIn, why_answered}
use Rattle.outside_edges.specs.Site.{why_by}
use Rattle.outside_edges.specs.declared.real_site.WhyLost.{WhyLost}
use Rattle.outside_edges.specs.declared.real_site.WhyLost.TheVariants as why

-- a fault and a no are no yes
is_not_yes : (kind : ErrorKind) → Answer.fault kind ≢ Answer.yes
is_not_yes kind is = grind arith

no_is_not_yes : Answer.no ≢ Answer.yes
no_is_not_yes is = grind arith

-- a call with such an answer is the last
stops_at : (call : FileCall) (rest : List FileCall) (answer : Answer) (cause : WhyLost) (before : FileCalls) (new : FilesState)
    → answer ≢ Answer.yes → new.calls ≡ made_once call before → new.last ≡ answer → cause ≡ why_answered answer
    → StopsIn (call ∷ rest) cause before new
stops_at call rest answer cause before new failed counts last cause_is = record {
  made = call ∷ [];
  rest = rest;
  front = refl;
  some = omega arith;
  counts = counts;
  failed = λ is. failed (sym last ∙ is);
  cause_is = cause_is ∙ ap why_answered (sym last);
}

pub stops_by_fault : (call : FileCall) (rest : List FileCall) (kind : ErrorKind) (cause : WhyLost) (before : FileCalls) (new : FilesState)
    → new.calls ≡ made_once call before → new.last ≡ Answer.fault kind → cause ≡ why_by kind → StopsIn (call ∷ rest) cause before new
stops_by_fault call rest kind cause before new counts last cause_is =
    stops_at call rest (Answer.fault kind) cause before new (is_not_yes kind) counts last cause_is

pub stops_by_no : (call : FileCall) (rest : List FileCall) (before : FileCalls) (new : FilesState)
    → new.calls ≡ made_once call before → new.last ≡ Answer.no → StopsIn (call ∷ rest) why.NotAFile before new
stops_by_no call rest before new counts last = stops_at call rest Answer.no why.NotAFile before new no_is_not_yes counts last refl

-- calls that stop behind one that was answered by yes
pub stops_behind : (call : FileCall) (calls : List FileCall) (cause : WhyLost) (before : FileCalls) (new : FilesState)
    → StopsIn calls cause (made_once call before) new → StopsIn (call ∷ calls) cause before new
stops_behind call calls cause before new stops = record {
  made = call ∷ stops.made;
  rest = stops.rest;
  front = ap (λ xs. call ∷ xs) stops.front;
  some = omega arith;
  counts = stops.counts;
  failed = stops.failed;
  cause_is = stops.cause_is;
}

-- the calls behind one that was answered by yes
pub goes_behind : (call : FileCall) (calls : List FileCall) (lost : Option WhyLost) (before : FileCalls) (new : FilesState)
    → Goes calls lost (made_once call before) new → Goes (call ∷ calls) lost before new
goes_behind call calls None before new goes = goes
goes_behind call calls (Some cause) before new goes = stops_behind call calls cause before new goes
