use Rattle.std.proofs.Common.{sym}
use Rattle.std.proofs.lemmas.Result.{on_ok_weaker}
use Rattle.request_pool.proofs.PoolLaws.{comes_to}
use Rattle.request_pool.proofs.pool.Pool.come.Goals as goal

pub returns-in_ok-push_back-clause-comes : goal.returns-in_ok-push_back-clause-comes
returns-in_ok-push_back-clause-comes c = on_ok_weaker c.come-came.result
    (λ came. comes_to c.args.self.now.clients.items c.take_at.new.clients.items c.put_at.new.clients.items c.args.slot c.args.bytes.now
    c.in-Some.client c.come-came.new.self (sym c.in-Some.ensures.taken) came c.take_at.ensures.left c.put_at.ensures)
    c.come-came.ensures.came

pub returns-else-is-was-clause-comes : goal.returns-else-is-was-clause-comes
returns-else-is-was-clause-comes c = on_ok_weaker c.come-came.result
    (λ came. comes_to c.args.self.now.clients.items c.take_at.new.clients.items c.put_at.new.clients.items c.args.slot c.args.bytes.now
    c.in-Some.client c.come-came.new.self (sym c.in-Some.ensures.taken) came c.take_at.ensures.left c.put_at.ensures)
    c.come-came.ensures.came
