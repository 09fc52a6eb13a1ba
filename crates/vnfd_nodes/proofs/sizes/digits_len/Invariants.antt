-- The front reaches as far as was seen, and then as far as the front of what is left.
use Rattle.std.proofs.Common.{◌≡◌, ◌+◌, drop}
use Rattle.std.specs.Char.{is_ascii_digit}
use Rattle.std.specs.List.{prefix_len}
use Rattle.vnfd_nodes.proofs.sizes.digits_len.Given as goal

abbrev pub invariant-loop-at : goal.invariant-loop-at
invariant-loop-at l = prefix_len is_ascii_digit l.fn.bytes ≡ l.at + prefix_len is_ascii_digit (drop l.at l.bytes)
