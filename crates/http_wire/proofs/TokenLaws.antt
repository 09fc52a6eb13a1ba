-- A method that the grammar of heads allows is one that `http` takes.
use Rattle.std.proofs.Common.{ℕ, List}
use Rattle.http_header.specs.Token as token
use Rattle.httparse.specs.Grammar as grammar

-- both have the same tokens
pub is_token_of : (bytes : List ℕ) → grammar.IsToken bytes → token.IsToken bytes
unfolding grammar.is_token_byte token.is_token_byte
is_token_of bytes h = h
