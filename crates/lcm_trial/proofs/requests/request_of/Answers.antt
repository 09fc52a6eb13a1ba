-- The request is about the path.
use Rattle.std.proofs.Common.{◌≡◌, ◌∙◌, List, None, Option, Some, ap, sym, ℕ}
use Rattle.std.specs.Prelude.{option_map, string_bytes}
use Rattle.lcm_trial.specs.Requests.{path_of, request_at, request_of}
use Rattle.lcm_trial.proofs.requests.request_of.Goals as goal

pub returns-in_ok-request_at-in-Some : goal.returns-in_ok-request_at-in-Some
unfolding request_of
returns-in_ok-request_at-in-Some g c = λ H keeps.
    let path : path_of c.args.wish H c.args.chosen ≡ Some (string_bytes c.in-Some.path) =
    sym (c.in_ok-path.ensures H keeps) ∙ ap (option_map string_bytes) c.in-Some.is in
    ap Some c.in_ok-request_at-in-Some.ensures ∙ sym (ap (λ (p : Option (List ℕ)). option_map (request_at c.args.wish) p) path)

pub returns-in-None : goal.returns-in-None
unfolding request_of
returns-in-None g c = λ H keeps.
    let path : path_of c.args.wish H c.args.chosen ≡ None =
    sym (c.in_ok-path.ensures H keeps) ∙ ap (option_map string_bytes) c.in-None.is in
    sym (ap (λ (p : Option (List ℕ)). option_map (request_at c.args.wish) p) path)
