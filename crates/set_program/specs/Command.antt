-- What the words of the command line ask for.
use Rattle.std.specs.Prelude.{◌≡◌, ◌≤◌, ℕ, List, [], ◌∷◌, codes, decimal, Option, None, Some}
use Rattle.set_program.specs.declared.command.Command.{Command}
use Rattle.set_program.specs.declared.command.Command.TheVariants.{Answer, Sample}
use Rattle.set_program.specs.declared.command.Document.{Document}
use Rattle.set_program.specs.Documents.{words_for}

-- the word is the decimal of this number of lines, from 1 to 1000; a decimal has no leading zero
pub record IsLineCount (word : List ℕ) (lines : ℕ) : Type 0 where
  pub written : word ≡ decimal lines
  pub some : 1 ≤ lines
  pub most : lines ≤ 1000

-- the words are `sample` and a number of lines
pub record AskForSample (words : List (List ℕ)) (lines : ℕ) : Type 0 where
  pub written : words ≡ codes "sample" ∷ decimal lines ∷ []
  pub some : 1 ≤ lines
  pub most : lines ≤ 1000

-- the words ask for a document of the kind
abbrev pub AskForDocument : List (List ℕ) → Document → Type 0
AskForDocument words kind = words ≡ words_for kind

-- the words ask for a document of some kind
abbrev pub AskForText : List (List ℕ) → Type 0
AskForText words = (kind : Document) × AskForDocument words kind

-- the words are of no form that the program has: neither those of a document, nor `sample` and a number of lines
pub record AreUnusable (words : List (List ℕ)) : Type 0 where
  pub no_document : (kind : Document) → AskForDocument words kind → ⊥
  pub no_sample : (lines : ℕ) → AskForSample words lines → ⊥

-- what the words ask for, or nothing where they are unusable
abbrev pub AskFor : List (List ℕ) → Option Command → Type 0
AskFor words None = AreUnusable words
AskFor words (Some (Answer kind)) = AskForDocument words kind
AskFor words (Some (Sample lines)) = AskForSample words lines
