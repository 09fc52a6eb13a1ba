-- What holds of all names holds of those that were found and of those that are left, and there are some of both or none.
use Rattle.std.proofs.Common.{◌≡◌, ◌&&◌, Bool, map, drop, length, nat_eq}
use Rattle.std.specs.List.{list_all}
use Rattle.serde_json.specs.Data.{Data}
use Rattle.serde_json.specs.View.{items_view, view}
use Rattle.vnfd_document.specs.Json.{items_in}
use Rattle.vnfd_policies.proofs.steps.each_once.Given as goal

abbrev pub invariant-loop-name : goal.invariant-loop-name
invariant-loop-name l = record {
  all : (test : Data → Bool) → list_all test (items_in (items_view l.fn.names))
      ≡ (list_all test (map (λ v. view v.now) l.found.items) && list_all test (items_in (items_view (drop l.name-index l.names))));
  none : nat_eq (length (items_in (items_view l.fn.names))) 0
      ≡ (nat_eq (length (map (λ v. view v.now) l.found.items)) 0 && nat_eq (length (items_in (items_view (drop l.name-index l.names)))) 0);
}
