use Rattle.std.proofs.Common.{◌∙◌, sym, ap, arith}
use Rattle.std.proofs.Math.Facts.{Fits-lt-pow}
use Rattle.old_journal.specs.File.{header}
use Rattle.old_journal.proofs.HeaderLemmas.{header_from_places}
use Rattle.old_journal.proofs.header.manager_of.Goals as goal

pub number_at-requires : goal.number_at-requires
number_at-requires c = let last = (c.requires 31 (omega arith)).there in omega arith

pub returns : goal.returns
returns c = record {
  number = c.number_at.type_inv;
  front = (header_from_places c.args.front.now (λ i. Fits-lt-pow (c.type_inv.front i)) c.requires).1
      ∙ ap header (sym c.number_at.ensures);
}
