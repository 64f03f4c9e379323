-- Equality and hashes of lists of ranges, without and with values, by the values of their ends and by numbers.
use Rattle.std.proofs.Common.{◌≡◌, List, [], ◌∷◌, ◌++◌, refl, ap, ◌∙◌, append_assoc}
use Rattle.std.specs.Prelude.{ℤ, Bool, ◌&&◌}
use Rattle.std.specs.declared.cmp.Ordering.{Ordering}
use Rattle.std.specs.Ordering.{int_eq, is_eq}
use Rattle.std.specs.Cmp.Lexicographic.{pointwise}
use Rattle.std.specs.Hash as fed
use Rattle.std.specs.Hash.{HashWrites}
use Rattle.std.specs.List.{flat_map}
use Rattle.std.proofs.lemmas.List.{length-map}
use Rattle.std.proofs.Math.Bool.{and_assoc}
use Rattle.element_core.specs.Numbering.{Numbering, IsNumbering}
use Rattle.number_line.specs.Valued.{same_list}
use Rattle.range_map.specs.Range.{in_numbers}
use Rattle.range_map.specs.Set.{all_in_numbers, AreRanges}
use Rattle.range_map.specs.SetLaws.{same_ranges, ranges_fed}
use Rattle.range_map.specs.Valued.{pair_in_numbers, pairs_in_numbers, AreValuedRanges}
use Rattle.range_map.specs.MapLaws.{pairs_fed}

module _ {T : Type 0} (numbers : Numbering T) (cmp : T → T → Ordering) (numbered : IsNumbering cmp numbers) where
  same_values : (x y : T) → numbers.IsValue x → numbers.IsValue y → is_eq (cmp x y) ≡ int_eq (numbers.number x) (numbers.number y)
  same_values x y p q = ap is_eq (numbered.order x y p q)

  pub same_in_numbers : (equal : T → T → Bool) → ((x y : T) → equal x y ≡ is_eq (cmp x y)) → (xs ys : List (T × T))
      → AreRanges numbers xs → AreRanges numbers ys
      → pointwise (λ (a b : T × T). equal a.0 b.0 && equal a.1 b.1) xs ys ≡ same_ranges (all_in_numbers numbers xs) (all_in_numbers numbers ys)
  same_in_numbers equal by_cmp [] [] a b = refl
  same_in_numbers equal by_cmp [] (y ∷ ys) a b = refl
  same_in_numbers equal by_cmp (x ∷ xs) [] a b = refl
  same_in_numbers equal by_cmp (x ∷ xs) (y ∷ ys) a b =
      let start : equal x.0 y.0 ≡ int_eq (numbers.number x.0) (numbers.number y.0) = by_cmp x.0 y.0 ∙ same_values x.0 y.0 a.0.start b.0.start in
      let end : equal x.1 y.1 ≡ int_eq (numbers.number x.1) (numbers.number y.1) = by_cmp x.1 y.1 ∙ same_values x.1 y.1 a.0.end b.0.end in
      let rest = same_in_numbers equal by_cmp xs ys a.1 b.1 in
      λ i. (start i && end i) && rest i

  pub same_pairs_in_numbers : {V : Type 0} (equal : T → T → Bool) → ((x y : T) → equal x y ≡ is_eq (cmp x y)) → (same : V → V → Bool)
      → (xs ys : List ((T × T) × V)) → AreValuedRanges numbers xs → AreValuedRanges numbers ys
      → pointwise (λ (a b : (T × T) × V). (equal a.0.0 b.0.0 && equal a.0.1 b.0.1) && same a.1 b.1) xs ys
      ≡ same_list same (pairs_in_numbers numbers xs) (pairs_in_numbers numbers ys)
  same_pairs_in_numbers equal by_cmp same [] [] a b = refl
  same_pairs_in_numbers equal by_cmp same [] (y ∷ ys) a b = refl
  same_pairs_in_numbers equal by_cmp same (x ∷ xs) [] a b = refl
  same_pairs_in_numbers equal by_cmp same (x ∷ xs) (y ∷ ys) a b =
      let start : equal x.0.0 y.0.0 ≡ int_eq (numbers.number x.0.0) (numbers.number y.0.0) = by_cmp x.0.0 y.0.0 ∙ same_values x.0.0 y.0.0 a.0.start b.0.start in
      let end : equal x.0.1 y.0.1 ≡ int_eq (numbers.number x.0.1) (numbers.number y.0.1) = by_cmp x.0.1 y.0.1 ∙ same_values x.0.1 y.0.1 a.0.end b.0.end in
      let first = (λ i. (start i && end i) && same x.1 y.1)
      ∙ and_assoc (int_eq (numbers.number x.0.0) (numbers.number y.0.0)) (int_eq (numbers.number x.0.1) (numbers.number y.0.1)) (same x.1 y.1) in
      let rest = same_pairs_in_numbers equal by_cmp same xs ys a.1 b.1 in
      λ i. first i && rest i

  value_back : (x : T) → numbers.IsValue x → numbers.value_of (numbers.number x) ≡ x
  value_back x h =
      let low = numbered.low x h in
      let high = numbered.high x h in
      numbered.same (numbers.value_of (numbers.number x)) x (numbered.value (numbers.number x) low high) h (numbered.number (numbers.number x) low high)

  module _ (value_fed : T → HashWrites) where
    each_fed : (xs : List (T × T)) → AreRanges numbers xs
        → flat_map (λ (r : T × T). value_fed r.0 ++ value_fed r.1) xs
        ≡ flat_map (λ (r : ℤ × ℤ). value_fed (numbers.value_of r.0) ++ value_fed (numbers.value_of r.1)) (all_in_numbers numbers xs)
    each_fed [] a = refl
    each_fed (x ∷ xs) a =
        let start : numbers.value_of (numbers.number x.0) ≡ x.0 = value_back x.0 a.0.start in
        let end : numbers.value_of (numbers.number x.1) ≡ x.1 = value_back x.1 a.0.end in
        rw (start, end, each_fed xs a.1)

    pub fed_in_numbers : (xs : List (T × T)) → AreRanges numbers xs
        → fed.slice (λ (r : T × T). value_fed r.0 ++ value_fed r.1) xs ≡ ranges_fed numbers value_fed (all_in_numbers numbers xs)
    fed_in_numbers xs a = rw (length-map xs (in_numbers numbers), each_fed xs a)

    module _ {V : Type 0} (carried_fed : V → HashWrites) where
      each_pair_fed : (xs : List ((T × T) × V)) → AreValuedRanges numbers xs
          → flat_map (λ (p : (T × T) × V). (value_fed p.0.0 ++ value_fed p.0.1) ++ carried_fed p.1) xs
          ≡ flat_map (λ (p : (ℤ × ℤ) × V). value_fed (numbers.value_of p.0.0) ++ (value_fed (numbers.value_of p.0.1) ++ carried_fed p.1)) (pairs_in_numbers numbers xs)
      each_pair_fed [] a = refl
      each_pair_fed (x ∷ xs) a =
          let start : numbers.value_of (numbers.number x.0.0) ≡ x.0.0 = value_back x.0.0 a.0.start in
          let end : numbers.value_of (numbers.number x.0.1) ≡ x.0.1 = value_back x.0.1 a.0.end in
          rw (start, end, each_pair_fed xs a.1, append_assoc (value_fed x.0.0) (value_fed x.0.1) (carried_fed x.1))

      pub pairs_fed_in_numbers : (xs : List ((T × T) × V)) → AreValuedRanges numbers xs
          → fed.slice (λ (p : (T × T) × V). (value_fed p.0.0 ++ value_fed p.0.1) ++ carried_fed p.1) xs
          ≡ pairs_fed numbers value_fed carried_fed (pairs_in_numbers numbers xs)
      pairs_fed_in_numbers xs a = rw (length-map xs (pair_in_numbers numbers), each_pair_fed xs a)
