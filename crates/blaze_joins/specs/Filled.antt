-- A value that may be missing, and what is made of it; a list of ranges with what stands between them.
use Rattle.std.specs.Prelude.{◌≡◌, ℤ, pos, ◌+ℤ◌, ◌-ℤ◌, int_lt, if◌then◌else◌, Option, Some, None, IsSomeAnd, MatchOption, List, [], ◌∷◌, ◌++◌}

-- `made` is none where `source` is, and else a clone of its value
abbrev pub IsOptionClone : {V : Type 0} → (V → V → Type 0) → Option V → Option V → Type 0
IsOptionClone is_clone source made = MatchOption source (made ≡ None) (λ x. IsSomeAnd made (is_clone x))

-- the numbers from n to below `next` as a range without a value, if there are any
abbrev pub gap_before : {V : Type 0} → ℤ → ℤ → List ((ℤ × ℤ) × Option V)
gap_before n next = if int_lt n next then ((n, next -ℤ pos 1), None) ∷ [] else []

-- the ranges, which ascend from n on, with their values, and the gaps before, between and behind them up to hi
abbrev pub with_gaps : {V : Type 0} → ℤ → ℤ → List ((ℤ × ℤ) × V) → List ((ℤ × ℤ) × Option V)
with_gaps n hi [] = gap_before n (hi +ℤ pos 1)
with_gaps n hi (p ∷ rest) = gap_before n p.0.0 ++ (p.0, Some p.1) ∷ with_gaps (p.0.1 +ℤ pos 1) hi rest
