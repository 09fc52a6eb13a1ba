-- What stands for the bytes that were passed is put.
use Rattle.std.proofs.Common.{◌≡◌, ◌++◌, take}
use Rattle.html_text.specs.Escaped.{escaped}
use Rattle.html_text.proofs.escaping.push_entities.Given as goal

abbrev pub invariant-loop-byte : goal.invariant-loop-byte
invariant-loop-byte l = l.page.items ≡ l.initial.page.items ++ escaped (take l.byte-index l.text)
