-- Calls of a function at the values of pairs, and the parts of a pair put behind others.
use Rattle.std.specs.Prelude.{◌≡◌, ℤ, List, ◌++◌}
use Rattle.std.specs.Borrow.{Bor}
use Rattle.std.specs.Fn.{Mut, CalledAt}
use Rattle.number_line.specs.Parts.{parts, all_with, ArePairClones}

-- a call at the value of the pair p may give x, and leave the function as `next`
abbrev pub CalledAtValue : {F R V X : Type 0} → Mut F (Bor V × Unit {0}) X → F → R × V → X → F → Type 0
CalledAtValue called f p x next = CalledAt called f p.1 x next

-- `new` is `old`, and behind it the parts of the range r in the ranges of the list, in their order, each with a clone of the value
pub record IsPartsPushed {V : Type 0} (is_clone : V → V → Type 0) (old : List ((ℤ × ℤ) × V)) (r : ℤ × ℤ) (value : V) (ranges : List (ℤ × ℤ))
    (new : List ((ℤ × ℤ) × V)) : Type 0 where
  pub added : List ((ℤ × ℤ) × V)
  pub is : new ≡ old ++ added
  pub clones : ArePairClones is_clone (all_with value (parts r ranges)) added
