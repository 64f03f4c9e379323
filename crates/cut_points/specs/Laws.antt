-- What holds of the definitions of this crate.
use Rattle.std.specs.Prelude.{◌≡◌, ℤ, ◌≤ℤ◌, List}
use Rattle.std.specs.Ordering.{int_cmp}
use Rattle.number_line.specs.Ranges.{holds, IsCanonical, xor}
use Rattle.ordered_lists.specs.Lists.{symmetric_difference}
use Rattle.cut_points.specs.Cuts.{IsAscending, cuts, from_cuts, parity}

-- the cuts of a canonical list ascend, no other canonical list has them, and a number is held exactly where the count of cuts at
-- most it is odd; and each ascending list is the cuts of a canonical list
pub record CutsOneToOne : Type 0 where
  pub ascend : (lo hi : ℤ) (list : List (ℤ × ℤ)) → IsCanonical lo hi list → IsAscending lo hi (cuts hi list)
  pub one_list : (lo hi : ℤ) (a b : List (ℤ × ℤ)) → IsCanonical lo hi a → IsCanonical lo hi b → cuts hi a ≡ cuts hi b → a ≡ b
  pub all_lists : (lo hi : ℤ) (numbers : List ℤ) → IsAscending lo hi numbers
      → IsCanonical lo hi (from_cuts hi numbers) × (cuts hi (from_cuts hi numbers) ≡ numbers)
  pub membership : (lo hi : ℤ) (list : List (ℤ × ℤ)) (x : ℤ) → IsCanonical lo hi list → x ≤ℤ hi → parity (cuts hi list) x ≡ holds list x

-- the cuts of the members of just one of two sets are the cuts of just one of them
abbrev pub CutsOfSymmetricDifference : Type 0
CutsOfSymmetricDifference = (lo hi : ℤ) (a b c : List (ℤ × ℤ)) → IsCanonical lo hi a → IsCanonical lo hi b → IsCanonical lo hi c
    → ((x : ℤ) → lo ≤ℤ x → x ≤ℤ hi → holds c x ≡ xor (holds a x) (holds b x))
    → cuts hi c ≡ symmetric_difference int_cmp (cuts hi a) (cuts hi b)
