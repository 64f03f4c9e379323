-- What one word, and the words of a line, do to the evaluator's stack.
use Rattle.std.specs.Prelude.{◌≡◌, ℕ, ℤ, ◌≤ℤ◌, ◌⊎◌, List, length, Option, Some, Result, OnOk, IfErr}
use Rattle.set_document.specs.Numbers.{least, greatest}
use Rattle.set_document.specs.Text.{Kind, Or, And, Minus, Xor}
use Rattle.set_document.specs.Truth.{Lines, at, after_word}
use Rattle.set_document.specs.Faults.{Step, Fault, Depth, judge_word}
use Rattle.set_document.specs.Lines.{values, lines_of, names_of}
use Rattle.set_document.specs.declared.evaluator.Operator.{Operator}
use Rattle.set_document.specs.declared.evaluator.Operator.TheVariants as operator
use Rattle.set_document.specs.declared.fault.AlgebraError.{AlgebraError}
use Rattle.set_document.specs.declared.fault.AlgebraError.TheVariants as fault

-- the stack after a word is what the word makes of it, at each number of the type, after these lines
abbrev pub IsStep : Lines → Option Kind → List (List (ℤ × ℤ)) → List (List (ℤ × ℤ)) → Type 0
IsStep lines word before after = (x : ℤ) → least ≤ℤ x → x ≤ℤ greatest
    → values after x ≡ after_word (at lines x) x (values before x) word

-- the word of an operator of two sets
abbrev pub kind_of_operator : Operator → Kind
kind_of_operator operator.Or = Or
kind_of_operator operator.And = And
kind_of_operator operator.Minus = Minus
kind_of_operator operator.Xor = Xor

-- e is want of memory, or the fault at the word
abbrev pub IsFault : Step → AlgebraError → Type 0
IsFault step e = (e ≡ fault.NoMemory) ⊎ (step ≡ Fault e)

-- what a word does to the stack after these lines: it leaves so many sets and they are its step, or it is refused with its fault
pub record AppliesWord {T : Type 0} (lines : List (List ℕ × List (ℤ × ℤ))) (line word : ℕ) (kind : Option Kind)
    (before after : List (List (ℤ × ℤ))) (result : Result T AlgebraError) : Type 0 where
  pub depth : OnOk result (judge_word (names_of lines) line word (length before) kind ≡ Depth (length after))
  pub step : OnOk result (IsStep (lines_of lines) kind before after)
  pub fault : IfErr result (IsFault (judge_word (names_of lines) line word (length before) kind))

-- e is want of memory, or the first fault
abbrev pub IsFirstFault : Option AlgebraError → AlgebraError → Type 0
IsFirstFault first e = (e ≡ fault.NoMemory) ⊎ (first ≡ Some e)
