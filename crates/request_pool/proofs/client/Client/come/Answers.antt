use Rattle.std.proofs.Common.{List, ℕ, ◌++◌, ◌∙◌, subst, sym, ap}
use Rattle.request_pool.specs.Clients.{ClientState, KnowsFront}
use Rattle.request_pool.specs.Fronts.{HasReadFront}
use Rattle.request_pool.proofs.FrontLaws.{read_grows, read_now, known_grows}
use Rattle.request_pool.proofs.client.Client.come.Goals as goal

pub invariant_of-self-then-not-is_open : goal.invariant_of-self-then-not-is_open
invariant_of-self-then-not-is_open c =
    let s = c.self.inside in
    subst (λ (x : List ℕ). HasReadFront x s.reader × KnowsFront x s.front) (sym c.in_ok-add.ensures.added) (
      read_grows s.held c.args.bytes.now s.reader c.self.invariant.0,
      known_grows s.held c.args.bytes.now s.front (sym c.is_open.ensures ∙ c.if-not-is_open.true) c.self.invariant.1,
    )

pub returns-then-not-is_open-clause-came : goal.returns-then-not-is_open-clause-came
returns-then-not-is_open-clause-came c =
    let s = c.self.inside in
    let view = c.self.view_is in record {
      held = c.in_ok-add.ensures.added ∙ ap (λ x. x ++ c.args.bytes.now) (ap (λ (x : ClientState). x.held) view);
      front = subst (λ (x : List ℕ). KnowsFront x s.front) (sym c.in_ok-add.ensures.added)
          (known_grows s.held c.args.bytes.now s.front (sym c.is_open.ensures ∙ c.if-not-is_open.true) c.self.invariant.1);
      role = ap (λ (x : ClientState). x.role) view;
      out = ap (λ (x : ClientState). x.out) view;
      requests = ap (λ (x : ClientState). x.requests) view;
      closing = ap (λ (x : ClientState). x.closing) view;
    }

pub look-self-inside-requires-clause-known : goal.look-self-inside-requires-clause-known
look-self-inside-requires-clause-known c =
    let s = c.self.inside in
    subst (λ (x : List ℕ). HasReadFront x s.reader) (sym c.bytes.ensures)
    (subst (λ (x : List ℕ). HasReadFront x s.reader) (sym c.in_ok-add.ensures.added)
    (read_grows s.held c.args.bytes.now s.reader c.self.invariant.0))

pub invariant_of-self-2 : goal.invariant_of-self-2
invariant_of-self-2 c =
    subst (λ (x : List ℕ). HasReadFront x c.look-self-inside.new.reader × KnowsFront x c.look-self-inside.result) c.bytes.ensures
    (read_now c.bytes.result.now c.look-self-inside.new.reader c.look-self-inside.ensures.kept, c.look-self-inside.ensures.front)
