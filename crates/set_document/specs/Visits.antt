-- What a walk over ascending numbers notes.
use Rattle.std.specs.Prelude.{◌≡◌, ℕ, ◌<◌, map, length, get_or, ℤ, pos, ◌+ℤ◌, ◌-ℤ◌, ◌≤ℤ◌, ◌<ℤ◌, Bool, false, if◌then◌else◌, List, [], ◌∷◌, fold}
use Rattle.std.specs.Ordering.{int_cmp}
use Rattle.number_line.specs.Segments.{Segment, same_bool}
use Rattle.ordered_lists.specs.Lists.{has}
use Rattle.cut_points.specs.Cuts.{IsAscending}
use Rattle.truth_blocks.specs.Blocks.{values_of}
use Rattle.truth_blocks.specs.Notes.{note, note_all}
use Rattle.truth_blocks.specs.declared.step.Step.{Step}

-- those of the visited numbers at which f is not what it was before, from `before` on
abbrev pub numbers_noted : Bool → (ℤ → Bool) → List ℤ → List ℤ
numbers_noted before f [] = []
numbers_noted before f (v ∷ vs) = if same_bool before (f v) then numbers_noted (f v) f vs else v ∷ numbers_noted (f v) f vs

-- the rows from `first` on, where a new one begins at a visited number whose label is not that of `first`
abbrev pub walk : {L : Type 0} → (L → L → Bool) → (ℤ → L) → ℤ → ℤ → List ℤ → List (Segment L)
walk same f hi first [] = record { first = first; last = hi; label = f first } ∷ []
walk same f hi first (v ∷ vs) =
    if same (f first) (f v) then walk same f hi first vs
    else record { first = first; last = v -ℤ pos 1; label = f first } ∷ walk same f hi v vs

-- f is constant between the visited numbers behind b
abbrev pub IsConstantBetween : {L : Type 0} → (ℤ → L) → ℤ → ℤ → List ℤ → Type 0
IsConstantBetween f hi b visited = (x : ℤ) → b <ℤ x → x ≤ℤ hi → has int_cmp visited x ≡ false → f x ≡ f (x -ℤ pos 1)

-- what the visits note of f, before any false
abbrev pub after_visits : (ℤ → Bool) → List ℤ → Bool × List ℤ
after_visits f visited = fold (λ s x. note s (f x) x) (false, []) visited

-- what each line gives at x
unfoldable pub values_at : List (List ℕ × (ℤ → Bool)) → ℤ → List Bool
values_at lines x = map (λ l. l.1 x) lines

-- the notes of all lines after some more visits
abbrev pub walk_lines : List (List ℕ × (ℤ → Bool)) → List (Bool × List ℤ) → List ℤ → List (Bool × List ℤ)
walk_lines lines notes visited = fold (λ ns x. note_all ns (values_at lines x) x) notes visited

-- a walk begins at lo, ascends to hi, and leaves out none of the cuts
pub record IsWalk (lo hi : ℤ) (cuts visited : List ℤ) : Type 0 where
  pub later : List ℤ
  pub begins : visited ≡ lo ∷ later
  pub ascending : IsAscending (lo +ℤ pos 1) hi later
  pub complete : (x : ℤ) → lo <ℤ x → x ≤ℤ hi → has int_cmp later x ≡ false → has int_cmp cuts x ≡ false

-- the steps give, at the place of each visited number, what the lines give at the number
abbrev pub IsCompiled : List ℤ → List (List ℕ × (ℤ → Bool)) → List (List Step) → Type 0
IsCompiled visited lines compiled = (p : ℕ) → p < length visited → values_of compiled p ≡ values_at lines (get_or visited p (pos 0))

-- the number before the first row, or hi where there is none
abbrev pub end_before : ℤ → List (ℤ × List ℕ) → ℤ
end_before hi [] = hi
end_before hi (r ∷ rest) = r.0 -ℤ pos 1

-- the numbers of the first row
abbrev pub numbers_of_first : ℤ → List (ℤ × List ℕ) → ℤ × ℤ
numbers_of_first hi [] = (hi, hi)
numbers_of_first hi (r ∷ rest) = (r.0, end_before hi rest)

-- rows with their last numbers: each ends before the next one, and the last at hi
abbrev pub rows_with_ends : ℤ → List (ℤ × List ℕ) → List ((ℤ × ℤ) × List ℕ)
rows_with_ends hi [] = []
rows_with_ends hi (r ∷ rest) = ((r.0, end_before hi rest), r.1) ∷ rows_with_ends hi rest

-- the first numbers of rows
abbrev pub firsts : List (ℤ × List ℕ) → List ℤ
firsts rows = map (λ r. r.0) rows
