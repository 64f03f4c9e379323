use Rattle.std.proofs.Common.{ap, subst}
use Rattle.std.proofs.lemmas.Option.{IfSome_then}
use Rattle.std.specs.Io.KnownBytes.{Appends}
use Rattle.std.specs.Option.{option_map}
use Rattle.rule_table.specs.Document.{rules_answer}
use Rattle.set_program.specs.declared.command.Document.TheVariants.{Rules}
use Rattle.set_program.specs.Documents.{OfRules}
use Rattle.set_program.specs.Outcome.{IsUnlessNoMemory, status_by}
use Rattle.set_program.proofs.CallerLemmas.{of_image}
use Rattle.set_program.proofs.callers.answer_rules.Goals as goal

pub returns-clause-answer : goal.returns-clause-answer
returns-clause-answer g c = λ done.
    let grown = Appends (g.K.Sink.written c.args.sink.now) (g.K.Sink.written c.run.new.sink) in
    of_image rules_answer grown (g.S.Source.left c.args.source.now) (c.run.ensures.done Rules c.requires done).written.written

pub returns-clause-complete : goal.returns-clause-complete
returns-clause-complete g c = IfSome_then (g.S.Source.left c.args.source.now) (c.run.ensures.complete_text Rules c.requires)
    (λ text h few read written e.
    subst (IsUnlessNoMemory c.run.result) (ap (λ fault. status_by (option_map OfRules fault)) e) (h few read written))

pub returns-clause-complete_fault : goal.returns-clause-complete_fault
returns-clause-complete_fault g c = λ fault. IfSome_then (g.S.Source.left c.args.source.now) (c.run.ensures.complete_text Rules c.requires)
    (λ text h few read written e.
    subst (IsUnlessNoMemory c.run.result) (ap (λ fault. status_by (option_map OfRules fault)) e) (h few read written))
