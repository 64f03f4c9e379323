-- An answer has no more runs than bytes.
use Rattle.std.proofs.Common.{ℕ, ◌≤◌, List, [], ◌∷◌, ◌++◌, length, arith, length-append}
use Rattle.std.specs.Prelude.{ℤ, sum_by, flat_map}
use Rattle.std.specs.Fmt.{signed_decimal}
use Rattle.std.proofs.lemmas.List.Sums.{sum_by-cons}
use Rattle.set_document.specs.Answer.{Shape, shape_text, range_text, further_text, list_text, line_text, lines_text, rows_text}

range_some : (r : ℤ × ℤ) → 1 ≤ length (range_text r)
range_some r = omega (arith, length-append (signed_decimal r.0) (46 ∷ 46 ∷ 61 ∷ signed_decimal r.1))

further_some : (rs : List (ℤ × ℤ)) → length rs ≤ length (further_text rs)
further_some [] = omega arith
further_some (r ∷ rs) =
    omega (arith, further_some rs, range_some r, length-append (range_text r) (32 ∷ 124 ∷ further_text rs))

list_some : (runs : List (ℤ × ℤ)) → length runs ≤ length (list_text runs)
list_some [] = omega arith
list_some (r ∷ rs) = omega (arith, further_some rs, range_some r, length-append (range_text r) (further_text rs))

line_some : (l : List ℕ × List (ℤ × ℤ)) → length l.1 ≤ length (line_text l)
line_some l =
    omega (
      arith,
      list_some l.1,
      length-append l.0 (58 ∷ 32 ∷ (list_text l.1 ++ 10 ∷ [])),
      length-append
          (list_text l.1) (10 ∷ []),
    )

lines_some : (ls : List (List ℕ × List (ℤ × ℤ))) → sum_by (λ l. length l.1) ls ≤ length (lines_text ls)
lines_some [] = omega arith
lines_some (l ∷ ls) =
    omega (
      arith,
      lines_some ls,
      line_some l,
      sum_by-cons
          (λ (l : List ℕ × List (ℤ × ℤ)). length l.1) l ls,
      length-append (line_text l) (flat_map line_text ls),
    )

pub runs_below_bytes : (s : Shape) → sum_by (λ l. length l.1) s.lines ≤ length (shape_text s)
runs_below_bytes s = omega (arith, lines_some s.lines, length-append (lines_text s.lines) (rows_text s.names s.rows))
