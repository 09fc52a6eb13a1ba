-- What a policy states is refused by what was found once.
use Rattle.std.proofs.Common.{◌∙◌, [], List, Option, None, Some, ap, map, option_map, sym}
use Rattle.std.specs.Option.{option_map_or}
use Rattle.serde_json.specs.Data.{Data}
use Rattle.serde_json.specs.View.{view}
use Rattle.vnfd_document.specs.Json.{members_of}
use Rattle.vnfd_document.specs.Seen.{seen}
use Rattle.vnfd_document.specs.declared.entries.Entry.{Entry}
use Rattle.vnfd_reader.specs.CountsSeen.{aim_seen, counts_seen}
use Rattle.vnfd_reader.specs.declared.counts.Aim.{Aim}
use Rattle.vnfd_reader.proofs.StepLaws.{refuses_policy}
use Rattle.vnfd_reader.proofs.steps.refuse_policy.Goals as goal

pub returns-in-Some : goal.returns-in-Some
returns-in-Some c =
    let found = ap (option_map (λ aims. map aim_seen aims.items)) (sym c.in-Some.is) ∙ c.in_ok-aims.ensures in
    let aims_are = ap (λ (xs : List Aim). Some (map aim_seen xs)) c.as_slice.ensures.value ∙ found in
    let levels_are = ap (λ (xs : List Entry). map seen xs) c.as_slice-in-Some.ensures.value ∙ c.in_ok-levels.ensures
    ∙ ap (λ (o : Option Data). option_map_or members_of o []) c.at.ensures in
    refuses_policy c.refuse_levels.result c.args.vnfd.now (map seen c.args.vdus.now) (view c.args.policy.now)
    (map counts_seen c.args.table.now)
    (Some (map aim_seen c.as_slice.result.now)) (map seen c.as_slice-in-Some.result.now) c.refuse_levels.ensures c.requires.table aims_are
    levels_are

pub returns : goal.returns
returns c =
    let aims_are = ap (option_map (λ aims. map aim_seen aims.items)) (sym c.in-None.is) ∙ c.in_ok-aims.ensures in
    let levels_are = ap (λ (xs : List Entry). map seen xs) c.as_slice-in-None.ensures.value ∙ c.in_ok-levels.ensures
    ∙ ap (λ (o : Option Data). option_map_or members_of o []) c.at.ensures in
    refuses_policy c.refuse_levels-in-None.result c.args.vnfd.now (map seen c.args.vdus.now) (view c.args.policy.now)
    (map counts_seen c.args.table.now)
    None (map seen c.as_slice-in-None.result.now) c.refuse_levels-in-None.ensures c.requires.table aims_are levels_are
