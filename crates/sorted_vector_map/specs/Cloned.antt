-- Clones of a map's pairs.
use Rattle.std.specs.Prelude.{◌≡◌, Bool, true, ◌&&◌, List}
use Rattle.std.specs.Cmp.Lexicographic.{pointwise}
use Rattle.std.specs.List.{AllZip}
use Rattle.ordered_lists.specs.Taken.{ClonesAreEqual}

module _ {K V : Type 0} (is_key_clone : K → K → Type 0) (is_value_clone : V → V → Type 0) where
  -- each pair of copies is a clone of the pair of ps in its turn: its key of that key, and its value of that value
  abbrev pub AreClones : List (K × V) → List (K × V) → Type 0
  AreClones ps copies = AllZip (λ p copy. is_key_clone p.0 copy.0 × is_value_clone p.1 copy.1) ps copies

  -- where each clone is equal to what was cloned, clones of pairs are equal to them pair by pair
  abbrev pub ClonesOfPairsAreEqual : (K → K → Bool) → (V → V → Bool) → Type 0
  ClonesOfPairsAreEqual key_eq value_eq = ClonesAreEqual is_key_clone key_eq → ClonesAreEqual is_value_clone value_eq
      → (ps copies : List (K × V)) → AreClones ps copies → pointwise (λ p q. key_eq p.0 q.0 && value_eq p.1 q.1) copies ps ≡ true
