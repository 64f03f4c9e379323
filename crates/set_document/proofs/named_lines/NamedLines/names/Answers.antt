use Rattle.set_document.specs.Lines.{line_lists_of, names_of}
use Rattle.set_document.proofs.GatherLemmas.{index_names}
use Rattle.set_document.proofs.named_lines.NamedLines.names.Goals as goal

pub returns-clause-names : goal.returns-clause-names
returns-clause-names c =
    let lines = line_lists_of c.self.inside.lines.items in
    rw (← c.self.view_is) (index_names (names_of lines) c.self.inside.latest.pairs c.self.invariant.indexed)
