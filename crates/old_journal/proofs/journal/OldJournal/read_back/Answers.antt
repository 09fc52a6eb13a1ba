use Rattle.std.proofs.lemmas.Grind.{common_steps}
use Rattle.std.proofs.Common.{◌≡◌, ◌∙◌, ◌+◌, ◌++◌, take, drop, length, ℕ, List, All, Option, sym, ap, subst, arith}
use Rattle.std.proofs.lemmas.List.{take_at}
use Rattle.std.proofs.lemmas.List.Elements.{All-cons, All-tail}
use Rattle.old_journal.specs.declared.marks.Mark.{Mark}
use Rattle.old_journal.specs.File.{records}
use Rattle.old_journal.specs.Marks.{IsMark}
use Rattle.old_journal.specs.Back.{IsFound}
use Rattle.old_journal.specs.Journal.{Ledger}
use Rattle.old_journal.proofs.BackLemmas.{mark_read, reads_stands}
use Rattle.journal_core.proofs.LoadLemmas.{reading_keeps}
use Rattle.old_journal.proofs.journal.OldJournal.read_back.Goals as goal

pub returns-clause-told : goal.returns-clause-told
returns-clause-told g c = λ tells.
    let i = c.self.inside in
    let j = c.args.self.now in
    let n = c.args.n in
    let a = g.S.Site.state c.args.site.now in
    let rs = records a.image in
    let stands = c.requires.stands tells in
    let reads = c.in_ok-found.ensures.told tells in
    let P : Option (ℕ × ℕ) → Type 0 = λ v. IsFound n rs v c.record_from.new.buffer in
    let found = subst P c.in-Some.is (c.in_ok-found.ensures.record_is tells) in
    let Q : List Mark → Type 0 = λ v. All (IsMark rs) v in
    let kept = All-tail (IsMark rs) i.last i.marks.places
    (subst Q (sym (ap (λ (v : Ledger). v.marks) c.self.view_is)) stands.marks) in
    let here = mark_read rs n c.in-Some.place c.in-Some.size c.requires.some (omega (arith, stands.count)) found.0
    found.1 in
    let buffer = c.record_from.new.buffer in
    let whole : take i.buffer.len (buffer ++ drop (length buffer) i.buffer.items) ≡ buffer =
    take_at buffer _ _ (omega arith) in
    record {
      reads = reads;
      record_is = ap (take c.in-Some.size) whole ∙ found.2;
      stands = reads_stands j _ a _ stands reads (ap (λ (v : Ledger). v.manager) c.self.view_is)
          (ap (λ (v : Ledger). v.count) c.self.view_is) (ap (λ (v : Ledger). v.end) c.self.view_is)
          (All-cons (IsMark rs) (record { before = n; place = c.in-Some.place + 5 + c.in-Some.size }) i.marks.places
          here kept);
      whole = λ k wrong. cc wrong;
    }

pub returns-clause-jobs : goal.returns-clause-jobs
returns-clause-jobs g c = λ tells. reading_keeps _ _ (c.in_ok-found.ensures.told tells)

pub returns-in_err-found-clause-jobs : goal.returns-in_err-found-clause-jobs
returns-in_err-found-clause-jobs g c = λ tells. reading_keeps _ _ (c.record_from.ensures.told tells)

pub invariant_of-self : goal.invariant_of-self
invariant_of-self g c = grind (arith, common_steps)

pub invariant_of-self-in_default : goal.invariant_of-self-in_default
invariant_of-self-in_default g c = grind (arith, common_steps)

pub invariant_of-self-2 : goal.invariant_of-self-2
invariant_of-self-2 g c = grind (arith, common_steps)
