-- Where the lines and the rows of a text change, and how many there are.
use Rattle.std.proofs.Common.{◌≡◌, ℕ, ◌+◌, ◌≤◌, List, [], ◌∷◌, length, refl, ap, arith, sym, ◌∙◌, inl, inr, map}
use Rattle.std.specs.Prelude.{ℤ, pos, ◌+ℤ◌, ◌-ℤ◌, ◌≤ℤ◌, ◌<ℤ◌, ◌⊎◌, Bool, true, false, ◌||◌, nat_eq}
use Rattle.std.specs.Cmp.{unsigned_Decides}
use Rattle.std.specs.Cmp.Lexicographic.{pointwise}
use Rattle.std.specs.List.{AllByRecursion}
use Rattle.std.specs.Bool.{Decides}
use Rattle.std.specs.Ordering.{int_cmp, int_eq}
use Rattle.std.proofs.lemmas.Int.{ints, by_lt_z}
use Rattle.std.proofs.lemmas.Bool.Decides.{Decides-int_eq}
use Rattle.std.proofs.lemmas.List.{length-map}
use Rattle.std.proofs.lemmas.Slice.Eq.{slice_eq-Decides}
use Rattle.number_line.specs.Ranges.{xor}
use Rattle.number_line.specs.Segments.{Segment, segments, IsCut, runs}
use Rattle.number_line.proofs.SegmentLemmas.{runs_canonical, segments_cut}
use Rattle.ordered_lists.specs.Lists.{has}
use Rattle.cut_points.specs.Cuts.{IsAscending, cuts, cuts_alone}
use Rattle.cut_points.proofs.CutLemmas.{changes, cuts_ascend, ascending_from, has_cons, eq_same, eq_more}
use Rattle.cut_points.proofs.RunLemmas.{cuts_of_runs, has_within}
use Rattle.cut_points.proofs.BoundLemmas.{no_longer, two_cuts, length_alone}
use Rattle.set_document.specs.Answer.{line_lists}
use Rattle.set_document.specs.Laws.{RunCutsAreLiteral, FewRanges, FewRows}
use Rattle.set_document.specs.Literals.{literals, literal_cuts}
use Rattle.set_document.specs.Numbers.{least, greatest, above_least, i64_runs}
use Rattle.set_document.specs.Table.{names_held, row_of, rows}
use Rattle.set_document.specs.Truth.{Lines, at, named_lines}
use Rattle.set_document.proofs.NumberLemmas.{width}
use Rattle.set_document.proofs.LineLemmas.{line_value}
use Rattle.set_document.proofs.LiteralLemmas.{changes_at_literals}

xor_same : (a b : Bool) → a ≡ b → xor a b ≡ false
xor_same true b e = rw (← e)
xor_same false b e = sym e

cut_within : (f : ℤ → Bool) (x : ℤ) → has int_cmp (cuts greatest (i64_runs f)) x ≡ true → (least ≤ℤ x) × (x ≤ℤ greatest)
unfolding i64_runs
cut_within f x h = has_within least greatest (cuts greatest (runs f least above_least)) x
    (cuts_ascend least greatest (runs f least above_least) (runs_canonical f greatest least above_least width)) h

-- a cut of the runs of f is the least number, or one at which f changes
cut_is : (f : ℤ → Bool) (x : ℤ) → has int_cmp (cuts greatest (i64_runs f)) x ≡ true → (x ≡ least) ⊎ (f x ≡ f (x -ℤ pos 1) → ⊥)
unfolding i64_runs
cut_is f x h = by_lt_z least x (λ k. inr (λ e. more k e)) (λ k. inl (omega (arith, ints, (cut_within f x h).0)))
  where
    in_bounds : (least ≤ℤ x) × (x ≤ℤ greatest)
    in_bounds = cut_within f x h

    more : least <ℤ x → f x ≡ f (x -ℤ pos 1) → ⊥
    more k e =
        let a : has int_cmp (cuts greatest (runs f least above_least)) x ≡ changes least f x = cuts_of_runs least greatest above_least f x width in_bounds.0 in_bounds.1 in
        let b : changes least f x ≡ false = rw (eq_more x least k) (xor_same (f x) (f (x -ℤ pos 1)) e) in
        let c : true ≡ false = sym h ∙ (a ∙ b) in
        absurd cc

-- a line that changes at the numbers of a list alone
cut_is_among : (cs : List ℤ) (f : ℤ → Bool) → ((x : ℤ) → x ≤ℤ greatest → has int_cmp cs x ≡ false → f x ≡ f (x -ℤ pos 1))
    → (x : ℤ) → has int_cmp (cuts greatest (i64_runs f)) x ≡ true → (x ≡ least) ⊎ (has int_cmp cs x ≡ true)
cut_is_among cs f stays x h = by (has int_cmp cs x) refl (cut_is f x h)
  where
    by : (b : Bool) → has int_cmp cs x ≡ b → (x ≡ least) ⊎ (f x ≡ f (x -ℤ pos 1) → ⊥) → (x ≡ least) ⊎ (has int_cmp cs x ≡ true)
    by true q d = inr q
    by false q (inl m) = inl m
    by false q (inr m) = absurd (m (stays x (cut_within f x h).1 q))

rest_on : (l : List ℕ × (ℤ → Bool)) (part : Lines) (x y : ℤ) → at (l ∷ part) x ≡ at (l ∷ part) y → at part x ≡ at part y
rest_on l part x y e = cc

-- what holds of each line that changes at those numbers alone
each_line : (P : List (ℤ × ℤ) → Type 0) (cs : List ℤ) → ((f : ℤ → Bool) → ((x : ℤ) → x ≤ℤ greatest → has int_cmp cs x ≡ false → f x ≡ f (x -ℤ pos 1)) → P (i64_runs f))
    → (part : Lines) → ((x : ℤ) → x ≤ℤ greatest → has int_cmp cs x ≡ false → at part x ≡ at part (x -ℤ pos 1))
    → AllByRecursion (λ (l : List ℕ × List (ℤ × ℤ)). P l.1) (map (λ l. (l.0, i64_runs l.1)) part)
each_line P cs give [] h = tt
each_line P cs give (l ∷ part) h =
    (give l.1 (λ x q e. line_value (l ∷ part) 0 l x (x -ℤ pos 1) refl (h x q e)), each_line P cs give part (λ x q e. rest_on l part x (x -ℤ pos 1) (h x q e)))

pub run_cuts_are_literal : RunCutsAreLiteral
unfolding line_lists
run_cuts_are_literal text =
    each_line (λ rs. (x : ℤ) → has int_cmp (cuts greatest rs) x ≡ true → (x ≡ least) ⊎ (has int_cmp (literal_cuts text) x ≡ true)) (literal_cuts text)
    (cut_is_among (literal_cuts text)) (named_lines text) (λ x q e. changes_at_literals text x q e)

-- ---- how many there are

or_left : (a b : Bool) → a ≡ true → (a || b) ≡ true
or_left true b e = refl
or_left false b e = absurd cc

or_right : (a b : Bool) → b ≡ true → (a || b) ≡ true
or_right true b e = refl
or_right false b e = e

among : (cs : List ℤ) (x : ℤ) → (x ≡ least) ⊎ (has int_cmp cs x ≡ true) → has int_cmp (least ∷ cs) x ≡ true
among cs x (inl e) = has_cons least cs x ∙ or_left (int_eq least x) (has int_cmp cs x) (rw e (eq_same least))
among cs x (inr h) = has_cons least cs x ∙ or_right (int_eq least x) (has int_cmp cs x) h

counted : (rs : List (ℤ × ℤ)) (f : ℤ → Bool)
    → ((x : ℤ) → has int_cmp (cuts greatest (i64_runs f)) x ≡ true → (x ≡ least) ⊎ (has int_cmp (cuts_alone greatest rs) x ≡ true))
    → length (i64_runs f) ≤ length rs + 1
unfolding i64_runs
counted rs f h =
    let c = runs_canonical f greatest least above_least width in
    let list = runs f least above_least in
    let a = no_longer least greatest (cuts greatest list) (least ∷ cuts_alone greatest rs) (cuts_ascend least greatest list c)
    (λ x e. among (cuts_alone greatest rs) x (h x e)) in
    let b = two_cuts least greatest list c in
    let d = length_alone greatest rs in
    omega (arith, a, b, d)

pub few_ranges : FewRanges
unfolding line_lists
few_ranges text =
    each_line (λ rs. length rs ≤ length (literals text) + 1) (literal_cuts text)
    (λ f stays. counted (literals text) f (cut_is_among (literal_cuts text) f stays)) (named_lines text) (λ x q e. changes_at_literals text x q e)

-- ---- rows

module _ {L : Type 0} (same : L → L → Bool) (f : ℤ → L) (hi : ℤ) where
  firsts_ascend : (lo : ℤ) (list : List (Segment L)) → IsCut same f hi lo list → IsAscending lo hi (map (λ s. s.first) list)
  firsts_ascend lo [] c = tt
  firsts_ascend lo (s ∷ rest) c = (omega (arith, ints), omega (arith, ints), rw c.0 (from (firsts_ascend (s.last +ℤ pos 1) rest c.6)))
    where
      from : IsAscending (s.last +ℤ pos 1) hi (map (λ s. s.first) rest) → IsAscending (lo +ℤ pos 1) hi (map (λ s. s.first) rest)
      from a = ascending_from (s.last +ℤ pos 1) (lo +ℤ pos 1) hi (map (λ s. s.first) rest) (omega (arith, ints)) a

  -- a row begins at the first number, or where the label is not that of the number before
  firsts_change : (lo : ℤ) (list : List (Segment L)) (x : ℤ) → IsCut same f hi lo list → has int_cmp (map (λ s. s.first) list) x ≡ true
      → (x ≡ lo) ⊎ (same (f (x -ℤ pos 1)) (f x) ≡ false)
  firsts_change lo [] x c h = absurd cc
  firsts_change lo (s ∷ rest) x c h = by (int_eq s.first x) refl (firsts_change (s.last +ℤ pos 1) rest x c.6)
    where
      by : (b : Bool) → int_eq s.first x ≡ b → (has int_cmp (map (λ s. s.first) rest) x ≡ true → (x ≡ s.last +ℤ pos 1) ⊎ (same (f (x -ℤ pos 1)) (f x) ≡ false))
          → (x ≡ lo) ⊎ (same (f (x -ℤ pos 1)) (f x) ≡ false)
      by true q ih = let m : s.first ≡ x = (Decides-int_eq s.first x).0 q in inl (sym m ∙ c.0)
      by false q ih =
          let later : has int_cmp (map (λ s. s.first) rest) x ≡ true = rw q at h in
          let within = has_within (s.last +ℤ pos 1) hi (map (λ s. s.first) rest) x (firsts_ascend (s.last +ℤ pos 1) rest c.6) later in
          inr (turn within (ih later))
        where
          turn : ((s.last +ℤ pos 1) ≤ℤ x) × (x ≤ℤ hi) → (x ≡ s.last +ℤ pos 1) ⊎ (same (f (x -ℤ pos 1)) (f x) ≡ false) → same (f (x -ℤ pos 1)) (f x) ≡ false
          turn w (inl m) = let z : x -ℤ pos 1 ≡ s.last = omega (arith, ints) in rw (z, m) (c.5 (omega (arith, ints)))
          turn w (inr d) = d

decides : (a b : List ℕ) → Decides (pointwise nat_eq a b) (a ≡ b)
decides a b = slice_eq-Decides unsigned_Decides a b (pointwise nat_eq a b) refl

row_is_literal : (text : List ℕ) (x : ℤ) → x ≤ℤ greatest
    → (x ≡ least) ⊎ (pointwise nat_eq (names_held (at (named_lines text) (x -ℤ pos 1))) (names_held (at (named_lines text) x)) ≡ false)
    → (x ≡ least) ⊎ (has int_cmp (literal_cuts text) x ≡ true)
row_is_literal text x q (inl e) = inl e
row_is_literal text x q (inr d) = by (has int_cmp (literal_cuts text) x) refl
  where
    by : (b : Bool) → has int_cmp (literal_cuts text) x ≡ b → (x ≡ least) ⊎ (has int_cmp (literal_cuts text) x ≡ true)
    by true e = inr e
    by false e =
        let same : names_held (at (named_lines text) x) ≡ names_held (at (named_lines text) (x -ℤ pos 1)) = ap names_held (changes_at_literals text x q e) in
        let t : pointwise nat_eq (names_held (at (named_lines text) (x -ℤ pos 1))) (names_held (at (named_lines text) x)) ≡ true = (decides (names_held (at (named_lines text) (x -ℤ pos 1))) (names_held (at (named_lines text) x))).1 (sym same) in
        absurd cc

pub few_rows : FewRows
unfolding rows
few_rows text =
    let f : ℤ → List ℕ = λ x. names_held (at (named_lines text) x) in
    let list = segments (pointwise nat_eq) f least above_least in
    let c = segments_cut (pointwise nat_eq) f greatest least above_least width in
    let up = firsts_ascend (pointwise nat_eq) f greatest least list c in
    let a = no_longer least greatest (map (λ s. s.first) list) (least ∷ literal_cuts text) up
    (λ x h. among (literal_cuts text) x (row_is_literal text x (has_within least greatest (map (λ s. s.first) list) x up h).1 (firsts_change (pointwise nat_eq) f greatest least list x c h))) in
    let b = length-map list (λ (s : Segment (List ℕ)). s.first) in
    let e = length-map list row_of in
    let d = length_alone greatest (literals text) in
    omega (arith, a, b, d, e)
