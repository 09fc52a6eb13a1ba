-- The name at the place that the instance's number tells.
use Rattle.std.proofs.Common.{◌≡◌, [], ap, sym, ◌∙◌, List, None, Option, Some, ℕ, option_map}
use Rattle.std.specs.Prelude.{unwrap_or}
use Rattle.occ_table.specs.Descriptors.{KeptDescriptors, name_at, numbered, vnfd_in}
use Rattle.occ_table.proofs.VnfdLaws.{named_at}
use Rattle.occ_table.proofs.vnfds.Vnfds.at.Goals as goal

pub returns-in-Some : goal.returns-in-Some
returns-in-Some c =
    let names : List (List ℕ) = c.self.inside.names.items in
    let numbers : List ℕ = c.self.inside.numbers.items in
    let is : Some c.in-Some.number ≡ numbered c.args.instance numbers =
    sym c.in-Some.is ∙ c.number_of.ensures ∙ ap (λ (ns : List ℕ). numbered c.args.instance ns) c.as_slice.ensures.value in
    c.name_at.ensures ∙ ap (λ (xs : List (List ℕ)). name_at xs c.in-Some.number) c.as_slice-in-Some.ensures.value
    ∙ ap (λ (x : Option ℕ). unwrap_or (option_map (name_at names) x) []) is
    ∙ named_at names numbers c.args.instance
    ∙ ap (λ (k : KeptDescriptors). vnfd_in c.args.instance k.vnfds) c.self.view_is

pub returns-in-None : goal.returns-in-None
returns-in-None c =
    let names : List (List ℕ) = c.self.inside.names.items in
    let numbers : List ℕ = c.self.inside.numbers.items in
    let is : None ≡ numbered c.args.instance numbers =
    sym c.in-None.is ∙ c.number_of.ensures ∙ ap (λ (ns : List ℕ). numbered c.args.instance ns) c.as_slice.ensures.value in
    c.no_name.ensures
    ∙ ap (λ (x : Option ℕ). unwrap_or (option_map (name_at names) x) []) is
    ∙ named_at names numbers c.args.instance
    ∙ ap (λ (k : KeptDescriptors). vnfd_in c.args.instance k.vnfds) c.self.view_is
