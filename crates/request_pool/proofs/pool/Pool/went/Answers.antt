use Rattle.std.proofs.Common.{sym, ap, ◌∙◌, min, length, drop}
use Rattle.request_pool.specs.Clients.{ClientState}
use Rattle.request_pool.proofs.PoolLaws.{goes_to}
use Rattle.request_pool.proofs.pool.Pool.went.Goals as goal

pub returns-in_err-push_back-clause-goes : goal.returns-in_err-push_back-clause-goes
returns-in_err-push_back-clause-goes c = goes_to c.args.self.now.clients.items c.take_at.new.clients.items c.put_at.new.clients.items
    c.args.slot c.args.count c.in-Some.client c.went.new.self (sym c.in-Some.ensures.taken)
    (c.went.ensures ∙ ap (λ n. record c.in-Some.client { out = drop n c.in-Some.client.out })
    (c.min.ensures ∙ ap (λ x. min c.args.count (length x)) c.out-most.ensures)) c.take_at.ensures.left c.put_at.ensures

pub returns-in_ok-push_back-clause-goes : goal.returns-in_ok-push_back-clause-goes
returns-in_ok-push_back-clause-goes c = goes_to c.args.self.now.clients.items c.take_at.new.clients.items c.put_at.new.clients.items
    c.args.slot c.args.count c.in-Some.client c.went.new.self (sym c.in-Some.ensures.taken)
    (c.went.ensures ∙ ap (λ n. record c.in-Some.client { out = drop n c.in-Some.client.out })
    (c.min.ensures ∙ ap (λ x. min c.args.count (length x)) c.out-most.ensures)) c.take_at.ensures.left c.put_at.ensures

pub returns-else-is-was-clause-goes : goal.returns-else-is-was-clause-goes
returns-else-is-was-clause-goes c = goes_to c.args.self.now.clients.items c.take_at.new.clients.items c.put_at.new.clients.items
    c.args.slot c.args.count c.in-Some.client c.went.new.self (sym c.in-Some.ensures.taken)
    (c.went.ensures ∙ ap (λ n. record c.in-Some.client { out = drop n c.in-Some.client.out })
    (c.min.ensures ∙ ap (λ x. min c.args.count (length x)) c.out-most.ensures)) c.take_at.ensures.left c.put_at.ensures
