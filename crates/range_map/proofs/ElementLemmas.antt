-- The members of a set still to come.
use Rattle.std.proofs.Common.{◌≡◌, Option, Some, None, List, ◌∷◌, length, ap, sym, ◌∙◌, arith}
use Rattle.std.specs.Prelude.{pos, ◌+ℤ◌, ◌<ℤ◌, ◌≤◌, IfSome, IfNone}
use Rattle.std.proofs.lemmas.List.{length-map}
use Rattle.element_core.specs.Numbering.{Numbering}
use Rattle.number_line.specs.Members.{members}
use Rattle.number_line.proofs.MemberLemmas.{members_step, members_single, ranges_are_fewer, length-members}
use Rattle.range_map.specs.Range.{in_numbers}
use Rattle.range_map.specs.Set.{all_in_numbers}
use Rattle.range_map.specs.Elements.{begun_before}

module _ {T : Type 0} (numbers : Numbering T) where
  -- the first number of a range, what is left of the range, and the others
  pub without_first : (r : T × T) (left : Option (T × T)) (rest : List (T × T)) → IfSome left (λ _. numbers.number r.0 <ℤ numbers.number r.1)
      → IfSome left (λ l. in_numbers numbers l ≡ (numbers.number r.0 +ℤ pos 1, numbers.number r.1)) → IfNone left (numbers.number r.0 ≡ numbers.number r.1)
      → members (all_in_numbers numbers (r ∷ rest)) ≡ numbers.number r.0 ∷ members (all_in_numbers numbers (begun_before left rest))
  without_first r None rest less others alone = members_single (in_numbers numbers r) (all_in_numbers numbers rest) alone
  without_first r (Some l) rest less others alone =
      members_step (in_numbers numbers r) (all_in_numbers numbers rest) less
      ∙ ap (λ p. numbers.number r.0 ∷ members (p ∷ all_in_numbers numbers rest)) (sym others)

  rest_are_fewer : (rest : List (T × T)) → length rest ≤ length (members (all_in_numbers numbers rest))
  rest_are_fewer rest = rw (← length-map rest (in_numbers numbers)) (ranges_are_fewer (all_in_numbers numbers rest))

  pub left_are_fewer : (begun : Option (T × T)) (rest : List (T × T)) → length rest ≤ length (members (all_in_numbers numbers (begun_before begun rest)))
  left_are_fewer None rest = rest_are_fewer rest
  left_are_fewer (Some r) rest =
      let fewer = rest_are_fewer rest in
      let all = length-members (in_numbers numbers r) (all_in_numbers numbers rest) in
      omega (arith, fewer, all)
