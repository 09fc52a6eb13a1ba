use Rattle.std.proofs.Common.{◌≡◌, ◌∙◌, sym, ap, subst, ℕ, ◌+◌, ◌-◌, [], get_or, arith}
use Rattle.std.proofs.lemmas.Bool.{false≢true}
use Rattle.journal_records.specs.File.{batches, records_of_all}
use Rattle.journal_core.specs.Journal.{Ledger, IsReadUpTo}
use Rattle.journal_core.specs.Back.{CanGive}
use Rattle.journal_core.proofs.Records.{records_are}
use Rattle.journal_core.proofs.BackLemmas.{goes_can, stands_back}
use Rattle.journal_core.proofs.LoadLemmas.{reading_keeps}
use Rattle.journal_core.proofs.journal.Journal.read_back.Goals as goal

pub give_many-requires-clause-told : goal.give_many-requires-clause-told
give_many-requires-clause-told g c = λ tells.
    let a = g.S.Site.state c.args.site.now in
    let bs = batches a.image in
    let P : Ledger → Type 0 = λ v. CanGive bs v.behind (c.args.n - v.behind) v.reading v.end a.image in (
      bs,
      c.self.inside.behind,
      subst P (sym c.self.view_is) (goes_can c.args.n c.args.self.now c.go_before.new.self a (c.requires.stands tells) c.go_before.ensures.goes
          c.requires.within),
    )

pub returns-in_err-found-clause-jobs : goal.returns-in_err-found-clause-jobs
returns-in_err-found-clause-jobs g c = λ tells. reading_keeps _ _ (c.give_many.ensures.told tells)

pub returns-then-not-found-clause-told : goal.returns-then-not-found-clause-told
returns-then-not-found-clause-told g c = λ tells.
    let a = g.S.Site.state c.args.site.now in
    let bs = batches a.image in
    let P : Ledger → Type 0 = λ v. CanGive bs v.behind (c.args.n - v.behind) v.reading v.end a.image in
    let can = subst P (sym c.self.view_is) (goes_can c.args.n c.args.self.now c.go_before.new.self a (c.requires.stands tells)
    c.go_before.ensures.goes c.requires.within) in
    let given = c.in_ok-found.ensures.given tells bs c.self.inside.behind can in
    absurd (false≢true (sym c.if-not-found.true ∙ given.0))

pub returns-then-not-found-clause-jobs : goal.returns-then-not-found-clause-jobs
returns-then-not-found-clause-jobs g c = λ tells. reading_keeps _ _ (c.give_many.ensures.told tells)

pub returns-clause-told : goal.returns-clause-told
returns-clause-told g c = λ tells.
    let i = c.self.inside in
    let j = c.args.self.now in
    let n = c.args.n in
    let a = g.S.Site.state c.args.site.now in
    let b = g.S.Site.state c.give_many.new.site in
    let bs = batches a.image in
    let goes = c.go_before.ensures.goes in
    let P : Ledger → Type 0 = λ v. CanGive bs v.behind (n - v.behind) v.reading v.end a.image in
    let can = subst P (sym c.self.view_is) (goes_can n j c.go_before.new.self a (c.requires.stands tells) goes c.requires.within) in
    let has = (c.in_ok-found.ensures.given tells bs i.behind can).1 in
    let behind : i.behind ≡ c.go_before.new.self.behind = ap (λ (v : Ledger). v.behind) c.self.view_is in
    let e : i.behind + (n - i.behind) ≡ n = (let before = goes.before in omega arith) in
    let U : ℕ → Type 0 = λ v. IsReadUpTo bs v c.give_many.new.reader i.end b.image in
    let reads = c.in_ok-found.ensures.told tells in
    record {
      reads = reads;
      record_is = has.last ∙ ap (λ v. get_or (records_of_all bs) (v - 1) []) e ∙ ap (λ v. get_or v (n - 1) []) (sym (records_are a.image));
      stands = stands_back j _ a b (c.requires.stands tells) reads
          (ap (λ (v : Ledger). v.manager) c.self.view_is ∙ ap (λ (v : Ledger). v.manager) goes.same)
          (ap (λ (v : Ledger). v.count) c.self.view_is ∙ ap (λ (v : Ledger). v.count) goes.same)
          (ap (λ (v : Ledger). v.end) c.self.view_is ∙ ap (λ (v : Ledger). v.end) goes.same)
          (ap (λ (v : Ledger). v.saved) c.self.view_is ∙ ap (λ (v : Ledger). v.saved) goes.same)
          (ap (λ (v : Ledger). v.marks) c.self.view_is ∙ ap (λ (v : Ledger). v.marks) goes.same)
          (subst U e has.reading);
      whole = λ k wrong. cc wrong;
    }

pub returns-clause-jobs : goal.returns-clause-jobs
returns-clause-jobs g c = λ tells. reading_keeps _ _ (c.give_many.ensures.told tells)
