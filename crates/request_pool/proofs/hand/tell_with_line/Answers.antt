use Rattle.std.proofs.Common.{take, drop, ◌++◌, ◌∙◌, List, ℕ, ap}
use Rattle.std.proofs.lemmas.Result.{on_ok_weaker}
use Rattle.request_pool.specs.Clients.{ClientState}
use Rattle.request_pool.specs.Hands.{close_line}
use Rattle.request_pool.proofs.HandLaws.{put_thrice}
use Rattle.request_pool.proofs.hand.tell_with_line.Goals as goal

pub returns-clause-told : goal.returns-clause-told
returns-clause-told c = on_ok_weaker c.put-3.result
    (λ e. put_thrice c.args.client.now c.put.new.self c.put-2.new.self c.put-3.new.self (take c.args.at c.args.bytes.now) close_line
    (drop c.args.at c.args.bytes.now) c.in_ok-put.ensures.put c.in_ok-put-2.ensures.put
    (e ∙ ap (λ (x : List ℕ). record c.put-2.new.self { out = c.put-2.new.self.out ++ x }) c.rest.ensures)) c.put-3.ensures.put
