use Rattle.std.proofs.Common.{◌≡◌, List, ℕ, [], ◌∷◌, ◌++◌, length, drop, ap, ◌∙◌, subst, arith}
use Rattle.std.proofs.lemmas.List.{drop_all}
use Rattle.std.proofs.lemmas.Bool.Decides.{nat_tests}
use Rattle.httparse.specs.Grammar.{ReadsResponse}
use Rattle.http_client.proofs.LineLaws.{ends_in_feed}
use Rattle.http_client.proofs.lines.are_whole_lines.Goals as goal

pub returns-in-Ok-Complete-clause-whole : goal.returns-in-Ok-Complete-clause-whole
returns-in-Ok-Complete-clause-whole c = λ same.
    let found = rw c.in-Ok-Complete.field-0-is at c.in-Ok-Complete.ensures.complete in
    let copied : c.deref.result.now ≡ c.args.bytes.now ++ 10 ∷ [] = c.deref.ensures.value ∙ c.in-Ok.ensures in
    let long : c.in-Ok-Complete.head.len ≡ c.len.result = grind (arith, nat_tests) in
    let all : drop c.in-Ok-Complete.head.len c.deref.result.now ≡ [] =
    drop_all c.in-Ok-Complete.head.len c.deref.result.now (omega
    (arith, long, ap length c.deref.ensures.value, c.deref.ensures.len, c.len.ensures)) in
    let reads = subst (λ (x : List ℕ). ReadsResponse x found.0 []) copied
    (subst (λ (x : List ℕ). ReadsResponse c.deref.result.now found.0 x) all found.1.reads) in
    record { head = found.0; reads = reads; last = ends_in_feed c.args.bytes.now c.requires.0 found.0 c.requires.1 reads }
