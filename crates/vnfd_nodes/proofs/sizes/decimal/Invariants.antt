-- The digits that are left, behind the number so far, mean what all mean.
use Rattle.std.proofs.Common.{◌≡◌, ◌≤◌, drop, true}
use Rattle.std.specs.Str.{all_ascii_digits}
use Rattle.std.specs.Str.Parse.{digits_value, digits_value_after}
use Rattle.vnfd_nodes.proofs.sizes.decimal.Given as goal

abbrev pub invariant-loop-digit : goal.invariant-loop-digit
invariant-loop-digit l =
    (digits_value 10 l.fn.digits ≡ digits_value_after 10 l.number (drop l.digit-index l.digits))
    × (all_ascii_digits (drop l.digit-index l.digits) ≡ true)
    × (l.number ≤ 1152921504606846976)
