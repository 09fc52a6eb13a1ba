-- Words that ask for no page are obeyed, and words that couldn't be read are told of.
use Rattle.std.proofs.Common.{Err, ap, sym, ◌∙◌}
use Rattle.program_words.specs.Pages.{page_of}
use Rattle.vnfm_program.proofs.Courses.{no_answer, unread, went}
use Rattle.vnfm_program.proofs.program.start.Goals as goal

pub returns-clause-starts : goal.returns-clause-starts
returns-clause-starts g c =
    went _ _ _ _ _ _ _ c.in-Ok.ensures.legible (c.deref-in-None.ensures.value ∙ c.in-Ok.ensures.words)
    (ap page_of (c.deref-in-None.ensures.value ∙ sym c.deref.ensures.value) ∙ sym c.in-None.ensures) c.command.ensures

pub returns-in-Err-Illegible-clause-starts : goal.returns-in-Err-Illegible-clause-starts
returns-in-Err-Illegible-clause-starts g c = unread _ _ _ _ _ _ (c.words_of.ensures.illegible (c.in-Err-Illegible.is ∙ ap Err c.in-Err-Illegible.field-0-is)) c.tell_illegible.ensures

pub returns-clause-memory : goal.returns-clause-memory
returns-clause-memory g c = no_answer _ _ _ (λ wrong. cc wrong) c.in-Ok.ensures.memory
