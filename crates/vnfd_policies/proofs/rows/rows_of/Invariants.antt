-- What was found, and the rows of the VDUs that are left, are all rows.
use Rattle.std.proofs.Common.{◌≡◌, ◌++◌, map, drop}
use Rattle.std.specs.List.{enumerate_from, filter_map}
use Rattle.serde_json.specs.View.{view}
use Rattle.vnfd_document.specs.Seen.{seen}
use Rattle.vnfd_policies.specs.Rows.{row_of, rows_of}
use Rattle.vnfd_policies.proofs.rows.rows_of.Given as goal

abbrev pub invariant-loop-vdu : goal.invariant-loop-vdu
invariant-loop-vdu l = record {
  rows : rows_of (map seen l.fn.vdus) (map seen l.fn.policies) (view l.fn.aspect)
      ≡ l.rows.items ++ filter_map (λ v. row_of (view l.aspect) (map seen l.policies) v.0 v.1.0)
      (enumerate_from l.number (map seen (drop l.vdu-index l.vdus)));
  number : l.number ≡ l.vdu-index;
}
