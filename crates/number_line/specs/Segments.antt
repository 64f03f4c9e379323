-- A labelling of the whole numbers from lo to hi, cut where the label changes.
use Rattle.std.specs.Prelude.{◌≡◌, ℕ, zero, suc, ℤ, pos, ◌+ℤ◌, ◌≤ℤ◌, ◌<ℤ◌, Bool, true, false, if◌then◌else◌, List, [], ◌∷◌}

-- numbers from the first to the last, all of one label
pub record Segment (L : Type 0) : Type 0 where
  pub first : ℤ
  pub last : ℤ
  pub label : L

-- the number x, whose label is l, put before the segments of the numbers that follow it
abbrev pub put_before : {L : Type 0} → (L → L → Bool) → ℤ → L → List (Segment L) → List (Segment L)
put_before same x l [] = record { first = x; last = x; label = l } ∷ []
put_before same x l (s ∷ rest) =
    if same l s.label
    then record { first = x; last = s.last; label = l } ∷ rest
    else record { first = x; last = x; label = l } ∷ s ∷ rest

-- the segments of the n + 1 numbers from lo on: one begins at lo, and one at each number whose label is not that of the number
-- before it
unfoldable pub segments : {L : Type 0} → (L → L → Bool) → (ℤ → L) → ℤ → ℕ → List (Segment L)
segments same f lo zero = put_before same lo (f lo) []
segments same f lo (suc n) = put_before same lo (f lo) (segments same f (lo +ℤ pos 1) n)

-- the same said as a relation: the list cuts the numbers from lo to hi where the label changes, and nowhere else
abbrev pub IsCut : {L : Type 0} → (L → L → Bool) → (ℤ → L) → ℤ → ℤ → List (Segment L) → Type 0
IsCut same f hi lo [] = lo ≡ hi +ℤ pos 1
IsCut same f hi lo (s ∷ rest) =
    (s.first ≡ lo) × (lo ≤ℤ s.last) × (s.last ≤ℤ hi) × (s.label ≡ f lo)
    × ((x : ℤ) → lo ≤ℤ x → x <ℤ s.last → same (f x) (f (x +ℤ pos 1)) ≡ true)
    × (s.last <ℤ hi → same (f s.last) (f (s.last +ℤ pos 1)) ≡ false)
    × IsCut same f hi (s.last +ℤ pos 1) rest

-- ranges that go from lo to hi in order, without gap or overlap, each with one label throughout
abbrev pub IsCover : {L : Type 0} → (ℤ → L) → ℤ → ℤ → List (ℤ × ℤ) → Type 0
IsCover f hi lo [] = lo ≡ hi +ℤ pos 1
IsCover f hi lo (r ∷ rest) =
    (r.0 ≡ lo) × (lo ≤ℤ r.1) × (r.1 ≤ℤ hi) × ((x : ℤ) → lo ≤ℤ x → x ≤ℤ r.1 → f x ≡ f lo) × IsCover f hi (r.1 +ℤ pos 1) rest

-- the numbers of the segments whose label is true, a range each
abbrev pub true_ranges : List (Segment Bool) → List (ℤ × ℤ)
true_ranges [] = []
true_ranges (s ∷ rest) = if s.label then (s.first, s.last) ∷ true_ranges rest else true_ranges rest

abbrev pub same_bool : Bool → Bool → Bool
same_bool true b = b
same_bool false true = false
same_bool false false = true

-- the maximal runs of the n + 1 numbers from lo on at which f is true
unfoldable pub runs : (ℤ → Bool) → ℤ → ℕ → List (ℤ × ℤ)
runs f lo n = true_ranges (segments same_bool f lo n)
