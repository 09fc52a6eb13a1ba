use Rattle.std.proofs.Common.{◌≡◌, ◌∙◌, ap, ◌-◌, take, drop, length, length-drop, arith}
use Rattle.std.specs.Int.{w32, to_be_bytes}
use Rattle.std.proofs.Math.Facts.{Fits-lt-pow}
use Rattle.std.proofs.lemmas.List.{take_all}
use Rattle.journal_records.specs.File.{number}
use Rattle.journal_records.proofs.ByteLemmas.{below_drop}
use Rattle.journal_records.proofs.ContentLemmas.{number_back}
use Rattle.journal_records.proofs.reader.batch_size.Goals as goal

pub returns-then-ends_within : goal.returns-then-ends_within
returns-then-ends_within c =
    let bytes = c.args.bytes.now in
    let behind : take (length bytes - 1) (drop 1 bytes) ≡ drop 1 bytes =
    take_all (length bytes - 1) (drop 1 bytes) (let d = length-drop 1 bytes in omega arith) in
    let n : c.number_of-size.result ≡ number (drop 1 bytes) = c.number_of-size.ensures ∙ ap number behind in
    record {
      long = omega arith;
      number_is = n;
      back = ap (to_be_bytes w32) n
          ∙ number_back (drop 1 bytes) (below_drop 1 bytes (λ i. Fits-lt-pow (c.type_inv.bytes i))) (let d = length-drop 1 bytes in omega arith);
      ends = c.ends_within.ensures.0 c.if-ends_within.true;
    }
