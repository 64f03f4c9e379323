-- What is read of a line, as the definitions say it.
use Rattle.rule_table.specs.declared.line.RuleLine.{RuleLine}
use Rattle.rule_table.specs.declared.line.RuleLine.TheVariants as read
use Rattle.rule_table.specs.Text.{Form, Comment, Ruling, Bad}

abbrev pub shown_form : RuleLine → Form
shown_form read.Comment = Comment
shown_form (read.Ruling decision first last) = Ruling decision (first, last)
shown_form read.Bad = Bad
