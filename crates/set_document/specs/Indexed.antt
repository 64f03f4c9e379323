-- What holds of the lines of a document and of the index of their names.
use Rattle.std.specs.Prelude.{ℕ, ℤ, List}
use Rattle.set_document.specs.Lines.{names_of, AllCanonical}
use Rattle.set_document.specs.Names.{IsIndex}
use Rattle.set_document.specs.declared.word.Name.{Name}

pub record AreIndexed (lines : List (List ℕ × List (ℤ × ℤ))) (pairs : List (Name × ℕ)) : Type 0 where
  pub indexed : IsIndex (names_of lines) pairs
  pub canonical : AllCanonical lines
