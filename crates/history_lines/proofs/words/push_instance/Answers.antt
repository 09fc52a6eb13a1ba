-- The name of the member, and then the identifier.
use Rattle.history_lines.proofs.TextLemmas.{two}
use Rattle.history_lines.specs.Words.{instance_words}
use Rattle.history_lines.proofs.words.push_instance.Goals as goal

pub returns : goal.returns
unfolding instance_words
returns c = two _ _ _ _ _ c.in_ok-push.ensures c.in_ok-push_identifier.ensures
