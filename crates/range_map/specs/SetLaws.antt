-- When two lists of ranges are equal, and what of them is hashed.
use Rattle.std.specs.Prelude.{◌≡◌, ℤ, Bool, true, ◌&&◌, List, ◌++◌, refl}
use Rattle.std.specs.Cmp.Lexicographic.{pointwise, pointwise_decides}
use Rattle.std.specs.Cmp.{IsEquivalence, both_ways}
use Rattle.std.specs.Hash as fed
use Rattle.std.specs.Hash.{HashWrites}
use Rattle.std.specs.Ordering.{int_eq}
use Rattle.std.proofs.Common.{ap, sym}
use Rattle.std.proofs.lemmas.Bool.{and_parts}
use Rattle.std.proofs.lemmas.Bool.Decides.{Decides-int_eq}
use Rattle.element_core.specs.Numbering.{Numbering}

-- the two ends are equal
abbrev pub same_ends : ℤ × ℤ → ℤ × ℤ → Bool
same_ends a b = int_eq a.0 b.0 && int_eq a.1 b.1

-- the lists are equal
abbrev pub same_ranges : List (ℤ × ℤ) → List (ℤ × ℤ) → Bool
same_ranges = pointwise same_ends

-- the number of ranges, and then the values at the two ends of each
abbrev pub ranges_fed : {T : Type 0} → Numbering T → (T → HashWrites) → List (ℤ × ℤ) → HashWrites
ranges_fed numbers value_fed = fed.slice (λ range. value_fed (numbers.value_of range.0) ++ value_fed (numbers.value_of range.1))

same_ends_decides : (a b : ℤ × ℤ) → (same_ends a b ≡ true → a ≡ b) × (a ≡ b → same_ends a b ≡ true)
same_ends_decides a b = (there, back)
  where
    there : same_ends a b ≡ true → a ≡ b
    there h =
        let parts = and_parts (int_eq a.0 b.0) (int_eq a.1 b.1) h in
        let first : a.0 ≡ b.0 = (Decides-int_eq a.0 b.0).0 parts.0 in
        let last : a.1 ≡ b.1 = (Decides-int_eq a.1 b.1).0 parts.1 in
        λ i. (first i, last i)

    back : a ≡ b → same_ends a b ≡ true
    back e =
        let first : int_eq a.0 b.0 ≡ true = (Decides-int_eq a.0 b.0).1 (ap (λ r. r.0) e) in
        let last : int_eq a.1 b.1 ≡ true = (Decides-int_eq a.1 b.1).1 (ap (λ r. r.1) e) in
        rw (first, last)

-- the test of two lists decides whether they are one
pub same_ranges_decides : (a b : List (ℤ × ℤ)) → (same_ranges a b ≡ true → a ≡ b) × (a ≡ b → same_ranges a b ≡ true)
same_ranges_decides = pointwise_decides same_ends_decides

pub same_ranges_equivalence : IsEquivalence same_ranges
same_ranges_equivalence = record {
  refl = λ a. (same_ranges_decides a a).1 refl;
  symm = λ a b. both_ways (same_ranges a b) (same_ranges b a)
      (λ h. (same_ranges_decides b a).1 (sym ((same_ranges_decides a b).0 h)))
      (λ h. (same_ranges_decides a b).1 (sym ((same_ranges_decides b a).0 h)));
  congr = λ a b c h. ap (λ d. same_ranges d c) ((same_ranges_decides a b).0 h);
}
