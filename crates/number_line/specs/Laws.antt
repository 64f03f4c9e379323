-- What holds of the definitions of this crate.
use Rattle.std.specs.Prelude.{◌≡◌, ℕ, ◌≤◌, ℤ, pos, ◌+ℤ◌, ◌≤ℤ◌, Bool, true, List, length}
use Rattle.number_line.specs.Ranges.{holds, IsCanonical}
use Rattle.number_line.specs.Segments.{Segment, segments, IsCut, IsCover, runs}

-- a canonical list is determined by the numbers that it holds
abbrev pub OneCanonicalList : Type 0
OneCanonicalList = (lo hi : ℤ) (a b : List (ℤ × ℤ)) → IsCanonical lo hi a → IsCanonical lo hi b
    → ((x : ℤ) → lo ≤ℤ x → x ≤ℤ hi → holds a x ≡ holds b x) → a ≡ b

-- the segments are a cut of the numbers, and the only one
abbrev pub SegmentsAreTheCut : {L : Type 0} → (L → L → Bool) → Type 0
SegmentsAreTheCut {L} same = (f : ℤ → L) (lo hi : ℤ) (n : ℕ) → hi ≡ lo +ℤ pos n
    → IsCut same f hi lo (segments same f lo n)
    × ((list : List (Segment L)) → IsCut same f hi lo list → list ≡ segments same f lo n)

-- the runs are canonical, and hold just the numbers at which f is true
abbrev pub RunsAreCanonical : Type 0
RunsAreCanonical = (f : ℤ → Bool) (lo hi : ℤ) (n : ℕ) → hi ≡ lo +ℤ pos n
    → IsCanonical lo hi (runs f lo n) × ((x : ℤ) → lo ≤ℤ x → x ≤ℤ hi → holds (runs f lo n) x ≡ f x)

-- no cover of the numbers has fewer ranges than there are segments
abbrev pub SegmentsAreFewest : {L : Type 0} → (L → L → Bool) → Type 0
SegmentsAreFewest {L} same = (f : ℤ → L) (lo hi : ℤ) (n : ℕ) (cover : List (ℤ × ℤ)) → hi ≡ lo +ℤ pos n
    → ((l : L) → same l l ≡ true) → IsCover f hi lo cover → length (segments same f lo n) ≤ length cover
