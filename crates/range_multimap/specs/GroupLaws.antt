-- Groups whose values are clones, value by value.
use Rattle.std.specs.Prelude.{◌≡◌, Bool, true, List, [], ◌∷◌}
use Rattle.std.proofs.Common.{refl}
use Rattle.std.specs.Cmp.Lexicographic.{pointwise}
use Rattle.std.specs.List.{AllZip}

-- a group of clones is equal to what was cloned, where each clone is
pub clones_alike : {V : Type 0} (same : V → V → Bool) (clones : V → V → Type 0) → ((a b : V) → clones a b → same b a ≡ true)
    → (due group : List V) → AllZip clones due group → pointwise same group due ≡ true
clones_alike same clones equal [] [] all = refl
clones_alike same clones equal [] (b ∷ group) all = absurd all
clones_alike same clones equal (a ∷ due) [] all = absurd all
clones_alike same clones equal (a ∷ due) (b ∷ group) all = rw (equal a b all.0) (clones_alike same clones equal due group all.1)
