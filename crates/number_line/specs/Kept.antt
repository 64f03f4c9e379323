-- Pairs of a range and a value in any order, put in order, and which of them a map of ranges keeps.
use Rattle.std.specs.Prelude.{◌≡◌, ℤ, pos, ◌+ℤ◌, Bool, true, false, ◌&&◌, ◌||◌, not, if◌then◌else◌, int_le, Some, None, List, [], ◌∷◌, ◌++◌}
use Rattle.std.specs.declared.cmp.Ordering.{Ordering}
use Rattle.std.specs.Int.{int_max}
use Rattle.std.specs.List.{AllByRecursion}
use Rattle.std.specs.List.Sorted.{IsPermutation}
use Rattle.std.specs.Option.{option_eq}
use Rattle.std.specs.Ordering.{int_cmp, int_eq, is_lt, ordering_then}
use Rattle.number_line.specs.Ranges.{lies_in}
use Rattle.number_line.specs.Valued.{value_at}

-- ---- in order

-- p put behind the last element that isn't greater, of elements that are in order
abbrev pub place : {P : Type 0} → (P → P → Bool) → P → List P → List P
place less p [] = p ∷ []
place less p (q ∷ rest) = if less p q then p ∷ q ∷ rest else q ∷ place less p rest

-- each element in turn placed among those before it, which are in order already
abbrev pub placed_among : {P : Type 0} → (P → P → Bool) → List P → List P → List P
placed_among less before [] = before
placed_among less before (p ∷ rest) = placed_among less (place less p before) rest

-- ranges are compared by their first numbers, and where these are one by their last
abbrev pub range_cmp : ℤ × ℤ → ℤ × ℤ → Ordering
range_cmp r s = ordering_then (int_cmp r.0 s.0) (int_cmp r.1 s.1)

abbrev pub has_less_range : {V : Type 0} → (ℤ × ℤ) × V → (ℤ × ℤ) × V → Bool
has_less_range p q = is_lt (range_cmp p.0 q.0)

-- the pairs in the order of their ranges, those with one range in the order in which they came
abbrev pub placed : {V : Type 0} → List ((ℤ × ℤ) × V) → List ((ℤ × ℤ) × V)
placed pairs = placed_among has_less_range [] pairs

-- ---- kept and discarded

-- some number lies in both ranges
abbrev pub overlaps : ℤ × ℤ → ℤ × ℤ → Bool
overlaps r s = int_le r.0 s.1 && int_le s.0 r.1

-- s begins with the number behind r
abbrev pub touches : ℤ × ℤ → ℤ × ℤ → Bool
touches r s = int_eq s.0 (r.1 +ℤ pos 1)

-- the next pair overlaps the last one with another value
abbrev pub clashes : {V : Type 0} → (V → V → Bool) → (ℤ × ℤ) × V → (ℤ × ℤ) × V → Bool
clashes same last next = overlaps last.0 next.0 && not (same last.1 next.1)

-- the next pair overlaps or touches the last one with the same value
abbrev pub joins : {V : Type 0} → (V → V → Bool) → (ℤ × ℤ) × V → (ℤ × ℤ) × V → Bool
joins same last next = (overlaps last.0 next.0 || touches last.0 next.0) && same last.1 next.1

-- the last pair as far as the larger of the two ends; its value stays
abbrev pub grown : {V : Type 0} → (ℤ × ℤ) × V → (ℤ × ℤ) × V → (ℤ × ℤ) × V
grown last next = ((last.0.0, int_max last.0.1 next.0.1), last.1)

pub record Split (V : Type 0) : Type 0 where
  pub kept : List ((ℤ × ℤ) × V)
  pub discarded : List ((ℤ × ℤ) × V)

abbrev pub and_kept : {V : Type 0} → (ℤ × ℤ) × V → Split V → Split V
and_kept p split = record { kept = p ∷ split.kept; discarded = split.discarded }

abbrev pub and_discarded : {V : Type 0} → (ℤ × ℤ) × V → Split V → Split V
and_discarded p split = record { kept = split.kept; discarded = p ∷ split.discarded }

-- what becomes of the last kept pair, as grown so far, and of those that follow it: one that clashes with it is discarded, one that
-- joins it makes it grow, and any other is kept and is the last one from there on
abbrev pub kept_from : {V : Type 0} → (V → V → Bool) → (ℤ × ℤ) × V → List ((ℤ × ℤ) × V) → Split V
kept_from same last [] = record { kept = last ∷ []; discarded = [] }
kept_from same last (p ∷ rest) =
    if clashes same last p then and_discarded p (kept_from same last rest)
    else if joins same last p then kept_from same (grown last p) rest
    else and_kept last (kept_from same p rest)

abbrev pub kept_and_discarded : {V : Type 0} → (V → V → Bool) → List ((ℤ × ℤ) × V) → Split V
kept_and_discarded same [] = record { kept = []; discarded = [] }
kept_and_discarded same (p ∷ rest) = kept_from same p rest

-- ---- the same said as a relation

-- the list has the pair's value at each number of its range
abbrev pub HasItsValue : {V : Type 0} → (V → V → Bool) → List ((ℤ × ℤ) × V) → (ℤ × ℤ) × V → Type 0
HasItsValue same list p = (x : ℤ) → lies_in p.0 x ≡ true → option_eq same (value_at list x) (Some p.1) ≡ true

-- the list has another value than the pair's at some number of its range
abbrev pub HasAnother : {V : Type 0} → (V → V → Bool) → List ((ℤ × ℤ) × V) → (ℤ × ℤ) × V → Type 0
HasAnother {V} same list p = (x : ℤ) × (other : V) × (lies_in p.0 x ≡ true) × (value_at list x ≡ Some other) × (same other p.1 ≡ false)

-- the map `kept` and the pairs `discarded` account for all given pairs
pub record IsAccount {V : Type 0} (same : V → V → Bool) (given kept discarded : List ((ℤ × ℤ) × V)) : Type 0 where
  -- the given pairs that aren't discarded
  pub taken : List ((ℤ × ℤ) × V)
  pub all : IsPermutation given (taken ++ discarded)
  pub values : AllByRecursion (HasItsValue same kept) taken
  -- where none of them has a value, the map has none
  pub nothing_else : (x : ℤ) → value_at taken x ≡ None → value_at kept x ≡ None
  pub others : AllByRecursion (HasAnother same kept) discarded

-- `kept` and `discarded` are what becomes of the given pairs, by the three rules, and account for all of them
pub record IsDivided {V : Type 0} (same : V → V → Bool) (given kept discarded : List ((ℤ × ℤ) × V)) : Type 0 where
  pub rules : kept_and_discarded same (placed given) ≡ record { kept = kept; discarded = discarded }
  pub account : IsAccount same given kept discarded
