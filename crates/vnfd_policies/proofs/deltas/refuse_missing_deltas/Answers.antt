-- The steps of the aspect are refused as those of which each is looked up once.
use Rattle.std.proofs.Common.{◌∙◌, [], Bor, List, Option, ap, codes, map, ℕ}
use Rattle.std.specs.Option.{option_map_or}
use Rattle.serde_json.specs.Data.{Data}
use Rattle.serde_json.specs.View.{view}
use Rattle.serde_json.specs.declared.value.Value.{Value}
use Rattle.vnfd_document.specs.Json.{Named}
use Rattle.vnfd_document.specs.Places.{property}
use Rattle.vnfd_policies.specs.Aspects.{steps}
use Rattle.vnfd_policies.specs.AspectsSeen.{aspect_seen}
use Rattle.vnfd_policies.specs.Deltas.{deltas_refusal, steps_of}
use Rattle.vnfd_policies.proofs.StepLaws.{same_refusal}
use Rattle.vnfd_policies.proofs.deltas.refuse_missing_deltas.Goals as goal

pub returns-in-Some : goal.returns-in-Some
returns-in-Some c =
    let deltas = property (codes "deltas") (view c.args.policy.now) in
    let all = map aspect_seen c.args.steps.now in
    let found = ap (λ (o : Option Named). option_map_or (λ a. steps a.1) o []) c.in-Some.ensures in
    let named = ap (λ (name : List ℕ). steps_of all name) c.aspect_name.ensures in
    c.refuse_deltas_of.ensures
    ∙ ap (λ (names : List (Bor Value)). deltas_refusal (map (λ v. view v.now) names) deltas) c.as_slice.ensures.value
    ∙ same_refusal (map (λ v. view v.now) c.in-Some.steps.now.names.items)
    (steps (view c.in-Some.steps.now.aspect.value.now)) c.in-Some.steps.now.same deltas
    ∙ ap (λ (ds : List Data). deltas_refusal ds deltas) (found ∙ named)
