-- The kinds of document that the program answers: the words that ask for each, its first fault and its answer.
use Rattle.std.specs.Prelude.{◌≡◌, ℕ, List, [], ◌∷◌, ◌++◌, codes, ⊤, Option, Some, None}
use Rattle.std.specs.Option.{option_map}
use Rattle.set_document.specs.declared.fault.AlgebraError.{AlgebraError}
use Rattle.set_document.specs.declared.fault.AlgebraError.TheVariants as sets_fault
use Rattle.set_document.specs.Faults as sets
use Rattle.set_document.specs.Answer.{answer}
use Rattle.set_document.specs.FaultText.{fault_line}
use Rattle.rule_table.specs.declared.fault.RuleError.{RuleError}
use Rattle.rule_table.specs.declared.fault.RuleError.TheVariants as rules_fault
use Rattle.rule_table.specs.Faults as rules
use Rattle.rule_table.specs.Document.{rules_answer}
use Rattle.rule_table.specs.FaultText.{fault_text}
use Rattle.set_program.specs.declared.command.Document.{Document}
use Rattle.set_program.specs.declared.command.Document.TheVariants.{Sets, Rules}

-- a fault of a text, by the kind of document that the text is read as
pub data Fault : Type 0 where
  OfSets : AlgebraError → Fault
  OfRules : RuleError → Fault

-- the words that ask for a document of the kind
abbrev pub words_for : Document → List (List ℕ)
words_for Sets = []
words_for Rules = codes "rules" ∷ []

-- the first fault of a text as a document of the kind, or none
abbrev pub first_fault : Document → List ℕ → Option Fault
first_fault Sets text = option_map OfSets (sets.first_fault text)
first_fault Rules text = option_map OfRules (rules.first_fault text)

-- what is written for a text without a fault
abbrev pub answer_of : Document → List ℕ → List ℕ
answer_of Sets text = answer text
answer_of Rules text = rules_answer text

-- the kind of document that a fault is of
abbrev pub kind_of : Fault → Document
kind_of (OfSets fault) = Sets
kind_of (OfRules fault) = Rules

-- a fault's text and a line feed
abbrev pub line_of : Fault → List ℕ
line_of (OfSets fault) = fault_line fault
line_of (OfRules fault) = fault_text fault ++ codes "\n"

-- want of memory, which is no fault of a text
abbrev pub IsWantOfMemory : Fault → Type 0
IsWantOfMemory (OfSets sets_fault.NoMemory) = ⊤
IsWantOfMemory (OfRules rules_fault.NoMemory) = ⊤
IsWantOfMemory _ = ⊥

-- the first fault of a text as a document of the kind
pub record IsFirstFault (kind : Document) (text : List ℕ) (fault : Fault) : Type 0 where
  pub of_kind : kind_of fault ≡ kind
  pub first : first_fault kind text ≡ Some fault
  pub of_text : IsWantOfMemory fault → ⊥

-- what is written for a text with this answer, and with this first fault or without one
abbrev pub text_by : List ℕ → Option Fault → List ℕ
text_by answer None = answer
text_by answer (Some fault) = line_of fault

-- what is written for a text: its answer, or the line of its first fault
abbrev pub text_of : Document → List ℕ → List ℕ
text_of kind text = text_by (answer_of kind text) (first_fault kind text)
