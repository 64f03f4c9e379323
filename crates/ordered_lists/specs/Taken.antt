-- What is taken from an iterable, and clones that equal their source.
use Rattle.std.specs.Prelude.{◌≡◌, Bool, true, List, Option}
use Rattle.std.specs.Iterator.{Drains}

-- what `into_iter` makes of iter gives exactly xs, and ends
abbrev pub GivesAll : {I S A : Type 0} → (I → S → Type 0) → (S → Option A → S → Type 0) → I → List A → Type 0
GivesAll {S = S} becomes steps iter xs = (it : S) × becomes iter it × Drains steps it xs

-- each clone is equal to what was cloned
abbrev pub ClonesAreEqual : {X : Type 0} → (X → X → Type 0) → (X → X → Bool) → Type 0
ClonesAreEqual {X} is_clone eq = (x copy : X) → is_clone x copy → eq copy x ≡ true
