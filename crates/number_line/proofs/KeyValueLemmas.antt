-- The numbers of ranges with their values, taken one by one.
use Rattle.std.proofs.Common.{◌≡◌, suc, List, [], ◌∷◌, ◌++◌, length, ap, arith, ◌∙◌}
use Rattle.std.specs.Prelude.{ℤ, pos, ◌+ℤ◌, ◌-ℤ◌, ◌<ℤ◌, ◌≤◌, ◌+◌, unsigned_abs}
use Rattle.std.proofs.lemmas.Int.{ints}
use Rattle.std.proofs.lemmas.List.{length-append, length-map}
use Rattle.number_line.specs.Members.{numbers_from, size}
use Rattle.number_line.specs.KeysValues.{each_with, keys_values}
use Rattle.number_line.proofs.MemberLemmas.{length-numbers_from}

module _ {V : Type 0} where
  -- the first number of a range before its others
  pub keys_step : (r : ℤ × ℤ) (v : V) (rest : List ((ℤ × ℤ) × V)) → r.0 <ℤ r.1
      → keys_values ((r, v) ∷ rest) ≡ (r.0, v) ∷ keys_values (((r.0 +ℤ pos 1, r.1), v) ∷ rest)
  keys_step r v rest less =
      let one : unsigned_abs (r.1 -ℤ r.0) ≡ suc (unsigned_abs (r.1 -ℤ (r.0 +ℤ pos 1))) = grind (arith, ints) in
      ap (λ n. (r.0, v) ∷ each_with v (numbers_from (r.0 +ℤ pos 1) n) ++ keys_values rest) one

  -- or alone
  pub keys_single : (r : ℤ × ℤ) (v : V) (rest : List ((ℤ × ℤ) × V)) → r.0 ≡ r.1 → keys_values ((r, v) ∷ rest) ≡ (r.0, v) ∷ keys_values rest
  keys_single r v rest same =
      let none : unsigned_abs (r.1 -ℤ r.0) ≡ 0 = grind (arith, ints) in
      ap (λ n. (r.0, v) ∷ each_with v (numbers_from (r.0 +ℤ pos 1) n) ++ keys_values rest) none

  pub length-keys_values : (p : (ℤ × ℤ) × V) (rest : List ((ℤ × ℤ) × V)) → length (keys_values (p ∷ rest)) ≡ size p.0 + length (keys_values rest)
  length-keys_values p rest =
      length-append (each_with p.1 (numbers_from p.0.0 (size p.0))) (keys_values rest)
      ∙ ap (λ n. n + length (keys_values rest)) (length-map (numbers_from p.0.0 (size p.0)) (λ x. (x, p.1)) ∙ length-numbers_from p.0.0 (size p.0))

  -- each range has a number
  pub pairs_are_fewer : (list : List ((ℤ × ℤ) × V)) → length list ≤ length (keys_values list)
  pairs_are_fewer [] = omega arith
  pairs_are_fewer (p ∷ rest) =
      let rest_are = pairs_are_fewer rest in
      let all = length-keys_values p rest in
      omega (arith, rest_are, all)
