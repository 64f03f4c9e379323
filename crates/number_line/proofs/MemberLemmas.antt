-- How many numbers the ranges of a list have.
use Rattle.std.proofs.Common.{◌≡◌, ℕ, zero, suc, List, [], ◌∷◌, ◌++◌, ◌+◌, length, refl, ap, arith, ◌∙◌}
use Rattle.std.specs.Prelude.{ℤ, pos, ◌+ℤ◌, ◌-ℤ◌, ◌<ℤ◌, ◌≤◌, min, unsigned_abs}
use Rattle.std.proofs.lemmas.Int.{ints}
use Rattle.std.proofs.lemmas.List.{length-append}
use Rattle.number_line.specs.Members.{numbers_from, size, members}

pub length-numbers_from : (lo : ℤ) (n : ℕ) → length (numbers_from lo n) ≡ n
length-numbers_from lo zero = refl
length-numbers_from lo (suc n) = ap suc (length-numbers_from (lo +ℤ pos 1) n)

-- the count of the first range and that of the others
pub length-members : (r : ℤ × ℤ) (rest : List (ℤ × ℤ)) → length (members (r ∷ rest)) ≡ size r + length (members rest)
length-members r rest =
    length-append (numbers_from r.0 (size r)) (members rest)
    ∙ ap (λ n. n + length (members rest)) (length-numbers_from r.0 (size r))

-- a count that stays at the top, and what is still to be counted
pub count_on : (top count size left : ℕ) → min (min (count + min size top) top + left) top ≡ min (count + (size + left)) top
count_on top count size left = grind (arith)

-- the first number of a range before its others
pub members_step : (r : ℤ × ℤ) (rest : List (ℤ × ℤ)) → r.0 <ℤ r.1 → members (r ∷ rest) ≡ r.0 ∷ members ((r.0 +ℤ pos 1, r.1) ∷ rest)
members_step r rest less =
    let one : unsigned_abs (r.1 -ℤ r.0) ≡ suc (unsigned_abs (r.1 -ℤ (r.0 +ℤ pos 1))) = grind (arith, ints) in
    ap (λ n. r.0 ∷ numbers_from (r.0 +ℤ pos 1) n ++ members rest) one

-- or alone
pub members_single : (r : ℤ × ℤ) (rest : List (ℤ × ℤ)) → r.0 ≡ r.1 → members (r ∷ rest) ≡ r.0 ∷ members rest
members_single r rest same =
    let none : unsigned_abs (r.1 -ℤ r.0) ≡ 0 = grind (arith, ints) in
    ap (λ n. r.0 ∷ numbers_from (r.0 +ℤ pos 1) n ++ members rest) none

-- each range has a number
pub ranges_are_fewer : (list : List (ℤ × ℤ)) → length list ≤ length (members list)
ranges_are_fewer [] = omega arith
ranges_are_fewer (r ∷ rest) =
    let rest_are = ranges_are_fewer rest in
    let all = length-members r rest in
    omega (arith, rest_are, all)
