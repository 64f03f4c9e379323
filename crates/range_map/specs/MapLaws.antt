-- When two maps are equal, and what of a map is hashed.
use Rattle.std.specs.Prelude.{◌≡◌, ℤ, Bool, true, List, ◌++◌}
use Rattle.std.specs.Cmp.{IsEquivalence}
use Rattle.std.specs.Hash as fed
use Rattle.std.specs.Hash.{HashWrites, Alike, and-Alike, on_Alike, items_Alike}
use Rattle.std.specs.Ordering.{int_eq}
use Rattle.std.proofs.Common.{ap}
use Rattle.std.proofs.lemmas.Bool.Decides.{Decides-int_eq}
use Rattle.std.proofs.lemmas.Cmp.{lists_equiv, and_equiv, on_equiv, int_eq_equiv}
use Rattle.element_core.specs.Numbering.{Numbering}
use Rattle.number_line.specs.Valued.{same_list}

-- the number of ranges, and then the values at the two ends of each with the value that it carries
abbrev pub pairs_fed : {T V : Type 0} → Numbering T → (T → HashWrites) → (V → HashWrites) → List ((ℤ × ℤ) × V) → HashWrites
pairs_fed numbers key_fed value_fed =
    fed.slice (λ p. key_fed (numbers.value_of p.0.0) ++ (key_fed (numbers.value_of p.0.1) ++ value_fed p.1))

pub same_list_equivalence : {V : Type 0} {same : V → V → Bool} → IsEquivalence same → IsEquivalence (same_list same)
same_list_equivalence {V} equivalence =
    lists_equiv (and_equiv (on_equiv (λ (p : (ℤ × ℤ) × V). p.0.0) int_eq_equiv)
    (and_equiv (on_equiv (λ (p : (ℤ × ℤ) × V). p.0.1) int_eq_equiv) (on_equiv (λ (p : (ℤ × ℤ) × V). p.1) equivalence)))

numbers_alike : (number_fed : ℤ → HashWrites) → Alike int_eq number_fed
numbers_alike number_fed = record { fed = λ x y equal. ap number_fed ((Decides-int_eq x y).0 equal) }

-- equal maps are hashed alike
pub same_list_fed : {T V : Type 0} (numbers : Numbering T) (key_fed : T → HashWrites) (same : V → V → Bool) (value_fed : V → HashWrites)
    → ((x y : V) → same x y ≡ true → value_fed x ≡ value_fed y)
    → (a b : List ((ℤ × ℤ) × V)) → same_list same a b ≡ true → pairs_fed numbers key_fed value_fed a ≡ pairs_fed numbers key_fed value_fed b
same_list_fed {T} {V} numbers key_fed same value_fed respects =
    let ends = numbers_alike (λ k. key_fed (numbers.value_of k)) in
    (items_Alike (and-Alike (on_Alike (λ (p : (ℤ × ℤ) × V). p.0.0) ends)
    (and-Alike (on_Alike (λ (p : (ℤ × ℤ) × V). p.0.1) ends) (on_Alike (λ (p : (ℤ × ℤ) × V). p.1) (record { fed = respects }))))).fed
