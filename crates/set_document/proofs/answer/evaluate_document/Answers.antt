use Rattle.std.proofs.Common.{◌∙◌, ap}
use Rattle.set_document.specs.Answer.{answer, shape_text}
use Rattle.set_document.proofs.answer.evaluate_document.Goals as goal

pub returns-clause-answer : goal.returns-clause-answer
unfolding answer
returns-clause-answer c = c.in_ok-print.ensures ∙ ap shape_text c.in_ok-answer.ensures.shape
