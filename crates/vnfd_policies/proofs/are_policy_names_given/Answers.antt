-- The names of both are given where those of the aspects and those of the levels are.
use Rattle.std.proofs.Common.{◌&&◌, ◌∙◌, Bool, List, ap, codes, map, sym}
use Rattle.std.specs.List.{flat_map, list_all}
use Rattle.vnfd_document.specs.Names.{is_given_name}
use Rattle.vnfd_document.specs.Places.{property}
use Rattle.vnfd_document.specs.Seen.{seen}
use Rattle.vnfd_document.specs.declared.entries.Entry.{Entry}
use Rattle.vnfd_policies.specs.Policies.{members_at}
use Rattle.vnfd_policies.proofs.ListLaws.{names_given_by}
use Rattle.vnfd_policies.proofs.are_policy_names_given.Goals as goal

pub returns-then-are_names_given : goal.returns-then-are_names_given
returns-then-are_names_given c =
    let with_aspects = map seen c.as_slice.result.now in
    let with_levels = map seen c.as_slice-then-are_names_given.result.now in
    let aspects_are = ap (λ (xs : List Entry). map seen xs) c.as_slice.ensures.value ∙ c.requires.aspects in
    let levels_are = ap (λ (xs : List Entry). map seen xs) c.as_slice-then-are_names_given.ensures.value ∙ c.requires.levels in
    let aspects_given = sym c.are_names_given.ensures ∙ c.if-are_names_given.true in
    c.are_names_given-then-are_names_given.ensures
    ∙ ap (λ (b : Bool). b && list_all (λ m. is_given_name m.0) (flat_map (λ p. members_at (property (codes "levels") p.1)) with_levels))
    (sym aspects_given)
    ∙ names_given_by (map seen c.args.policies.now.all.items) with_aspects with_levels aspects_are levels_are
