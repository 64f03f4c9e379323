-- The runs over all numbers of 64 bits.
use Rattle.std.proofs.Common.{◌≡◌, refl, ap, List, [], ◌∷◌, w64}
use Rattle.std.specs.Prelude.{ℤ, pos, ◌+ℤ◌, Bool, ◌≤ℤ◌}
use Rattle.element_core.specs.Numberings.{signed}
use Rattle.range_map.specs.Set.{all_in_numbers}
use Rattle.range_map.specs.Sweep.{numbers_of}
use Rattle.number_line.specs.Ranges.{holds, IsCanonical}
use Rattle.number_line.proofs.SegmentLemmas.{canonical_is_runs, runs_canonical, runs_hold}
use Rattle.set_document.specs.Numbers.{least, greatest, above_least, i64_runs}
use Rattle.set_document.specs.Laws.{RunsAreTheRanges}

pub width : greatest ≡ least +ℤ pos above_least
unfolding least greatest
width = refl

pub canonical_is_i64_runs : (f : ℤ → Bool) (list : List (ℤ × ℤ)) → IsCanonical least greatest list
    → ((x : ℤ) → least ≤ℤ x → x ≤ℤ greatest → holds list x ≡ f x) → list ≡ i64_runs f
unfolding i64_runs
canonical_is_i64_runs f list c h = canonical_is_runs f greatest least above_least list width c h

i64_runs_canonical : (f : ℤ → Bool) → IsCanonical least greatest (i64_runs f) × ((x : ℤ) → least ≤ℤ x → x ≤ℤ greatest → holds (i64_runs f) x ≡ f x)
unfolding i64_runs
i64_runs_canonical f = (runs_canonical f greatest least above_least width, runs_hold f greatest least above_least width)

pub runs_are_the_ranges : RunsAreTheRanges
runs_are_the_ranges f = (i64_runs_canonical f, canonical_is_i64_runs f)

-- the numbers of numbers, and of ranges of them
pub numbers_are : (xs : List ℤ) → numbers_of (signed w64) xs ≡ xs
numbers_are [] = refl
numbers_are (x ∷ xs) = ap (λ l. x ∷ l) (numbers_are xs)

pub ranges_are : (rs : List (ℤ × ℤ)) → all_in_numbers (signed w64) rs ≡ rs
ranges_are [] = refl
ranges_are (r ∷ rs) = ap (λ l. r ∷ l) (ranges_are rs)

pub least_is : (signed w64).least ≡ least
unfolding least
least_is = refl

pub greatest_is : (signed w64).greatest ≡ greatest
unfolding greatest
greatest_is = refl
