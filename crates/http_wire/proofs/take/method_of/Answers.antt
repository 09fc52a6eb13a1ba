-- The method of a head is a token, so it is no invalid one.
use Rattle.std.proofs.Common.{List, ℕ, Err, ap, subst, sym, ◌∙◌}
use Rattle.httparse.specs.Grammar.{IsToken}
use Rattle.http_wire.proofs.TokenLaws.{is_token_of}
use Rattle.http_wire.proofs.take.method_of.Goals as goal

pub unreachable-requires : goal.unreachable-requires
unreachable-requires c =
    c.in-Err-Invalid.ensures.invalid.0 (ap Err c.in-Err-Invalid.field-0-is)
    (is_token_of c.of.result.now (subst (λ (x : List ℕ). IsToken x) (sym (c.of.ensures ∙ c.requires.method)) c.requires.reads.0.method))
