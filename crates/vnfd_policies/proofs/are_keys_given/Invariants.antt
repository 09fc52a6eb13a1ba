-- All names are given where those of the members that are left are.
use Rattle.std.proofs.Common.{◌≡◌}
use Rattle.std.specs.List.{list_all}
use Rattle.serde_json.specs.View.{members_view}
use Rattle.vnfd_document.specs.Json.{members_in}
use Rattle.vnfd_document.specs.Names.{is_given_name}
use Rattle.vnfd_policies.proofs.are_keys_given.Given as goal

abbrev pub invariant-loop-key : goal.invariant-loop-key
invariant-loop-key l =
    list_all (λ m. is_given_name m.0) (members_in (members_view l.fn.object.entries))
    ≡ list_all (λ m. is_given_name m.0) (members_in (members_view l.key-iterator))
