use Rattle.std.proofs.Common.{◌≡◌, ℕ, List, [], ◌∷◌, ap, arith, sym, ◌∙◌}
use Rattle.std.specs.Prelude.{ℤ, pos, ◌+ℤ◌, ◌-ℤ◌, ◌≤ℤ◌, ◌<ℤ◌, Bool, true, false}
use Rattle.std.specs.Ordering.{int_cmp, int_eq}
use Rattle.std.proofs.lemmas.Int.{ints, by_lt_z}
use Rattle.number_line.specs.Ranges.{holds, IsCanonical, xor}
use Rattle.number_line.specs.Segments.{runs}
use Rattle.ordered_lists.specs.Lists.{has}
use Rattle.number_line.proofs.RangeLemmas.{below_start, same_list}
use Rattle.number_line.proofs.SegmentLemmas.{distance, runs_canonical, runs_hold, canonical_is_runs}
use Rattle.range_map.proofs.BoundLemmas.{xor_false}
use Rattle.cut_points.specs.Cuts.{IsAscending, cuts, from_cuts, parity}
use Rattle.cut_points.proofs.CutLemmas.{changes, cuts_ascend, from_cuts_canonical, cuts_again, parity_holds, parity_below, parity_of_changes, has_is_change, eq_same, eq_less, eq_more}

-- the ranges of a list of cuts hold the numbers of odd parity
pub from_cuts_hold : (lo hi : ℤ) (cs : List ℤ) (x : ℤ) → IsAscending lo hi cs → x ≤ℤ hi → holds (from_cuts hi cs) x ≡ parity cs x
from_cuts_hold lo hi cs x a q =
    let e : parity (cuts hi (from_cuts hi cs)) x ≡ holds (from_cuts hi cs) x = parity_holds lo hi (from_cuts hi cs) x (from_cuts_canonical lo hi cs a) q in
    sym (rw (cuts_again lo hi cs a) at e)

-- ascending numbers at which f changes, and no others, are the cuts of the runs of f
pub changes_are_runs : (lo hi : ℤ) (n : ℕ) (cs : List ℤ) (f : ℤ → Bool) → hi ≡ lo +ℤ pos n → IsAscending lo hi cs
    → ((x : ℤ) → lo ≤ℤ x → x ≤ℤ hi → has int_cmp cs x ≡ changes lo f x) → from_cuts hi cs ≡ runs f lo n
changes_are_runs lo hi n cs f e a h = canonical_is_runs f hi lo n (from_cuts hi cs) e (from_cuts_canonical lo hi cs a)
    (λ x p q.
    let d = distance lo x p in
    let here : parity cs (lo +ℤ pos d.0) ≡ f (lo +ℤ pos d.0) = parity_of_changes lo hi cs f a h d.0 (rw (← d.1) q) in
    from_cuts_hold lo hi cs x a q ∙ rw d.1 here)

-- the cuts of a canonical list are the numbers at which membership changes
pub cuts_are_changes : (lo hi : ℤ) (rs : List (ℤ × ℤ)) (x : ℤ) → IsCanonical lo hi rs → lo ≤ℤ x → x ≤ℤ hi
    → has int_cmp (cuts hi rs) x ≡ changes lo (holds rs) x
cuts_are_changes lo hi rs x c p q = by_lt_z lo x above (λ k. least (omega (arith, ints)))
  where
    step : has int_cmp (cuts hi rs) x ≡ xor (holds rs x) (holds rs (x -ℤ pos 1))
    step =
        let e : has int_cmp (cuts hi rs) x ≡ xor (parity (cuts hi rs) x) (parity (cuts hi rs) (x -ℤ pos 1)) = has_is_change lo hi (cuts hi rs) x (cuts_ascend lo hi rs c) in
        let one : parity (cuts hi rs) x ≡ holds rs x = parity_holds lo hi rs x c q in
        let two : parity (cuts hi rs) (x -ℤ pos 1) ≡ holds rs (x -ℤ pos 1) = parity_holds lo hi rs (x -ℤ pos 1) c (omega (arith, ints)) in
        e ∙ rw (one, two)

    above : lo <ℤ x → has int_cmp (cuts hi rs) x ≡ changes lo (holds rs) x
    above k = rw (eq_more x lo k) step

    least : x ≡ lo → has int_cmp (cuts hi rs) x ≡ changes lo (holds rs) x
    least e =
        let none : holds rs (x -ℤ pos 1) ≡ false = below_start lo hi rs (x -ℤ pos 1) c (omega (arith, ints)) in
        let same : int_eq x lo ≡ true = rw e (eq_same lo) in
        rw same (step ∙ (rw none (xor_false (holds rs x))))

-- the same of runs
pub cuts_of_runs : (lo hi : ℤ) (n : ℕ) (f : ℤ → Bool) (x : ℤ) → hi ≡ lo +ℤ pos n → lo ≤ℤ x → x ≤ℤ hi
    → has int_cmp (cuts hi (runs f lo n)) x ≡ changes lo f x
cuts_of_runs lo hi n f x e p q = by_lt_z lo x above (λ k. least (omega (arith, ints)))
  where
    all : has int_cmp (cuts hi (runs f lo n)) x ≡ changes lo (holds (runs f lo n)) x
    all = cuts_are_changes lo hi (runs f lo n) x (runs_canonical f hi lo n e) p q

    here : holds (runs f lo n) x ≡ f x
    here = runs_hold f hi lo n e x p q

    above : lo <ℤ x → has int_cmp (cuts hi (runs f lo n)) x ≡ changes lo f x
    above k =
        let more : int_eq x lo ≡ false = eq_more x lo k in
        let before : holds (runs f lo n) (x -ℤ pos 1) ≡ f (x -ℤ pos 1) = runs_hold f hi lo n e (x -ℤ pos 1) (omega (arith, ints)) (omega (arith, ints)) in
        let a : has int_cmp (cuts hi (runs f lo n)) x ≡ xor (holds (runs f lo n) x) (holds (runs f lo n) (x -ℤ pos 1)) = rw more at all in
        rw more (a ∙ rw (here, before))

    least : x ≡ lo → has int_cmp (cuts hi (runs f lo n)) x ≡ changes lo f x
    least m =
        let same : int_eq x lo ≡ true = rw m (eq_same lo) in
        let a : has int_cmp (cuts hi (runs f lo n)) x ≡ holds (runs f lo n) x = rw same at all in
        rw same (a ∙ here)

pub has_is_changes : (lo hi : ℤ) (cs : List ℤ) (x : ℤ) → IsAscending lo hi cs → lo ≤ℤ x → has int_cmp cs x ≡ changes lo (parity cs) x
has_is_changes lo hi cs x a p = by_lt_z lo x (λ k. rw (eq_more x lo k) (has_is_change lo hi cs x a)) (λ k. least (omega (arith, ints)))
  where
    least : x ≡ lo → has int_cmp cs x ≡ changes lo (parity cs) x
    least e =
        let none : parity cs (x -ℤ pos 1) ≡ false = parity_below lo hi cs (x -ℤ pos 1) a (omega (arith, ints)) in
        let same : int_eq x lo ≡ true = rw e (eq_same lo) in
        rw same (has_is_change lo hi cs x a ∙ (rw none (xor_false (parity cs x))))

-- an ascending list is given by which numbers it has
pub same_cuts : (lo hi : ℤ) (as' bs : List ℤ) → IsAscending lo hi as' → IsAscending lo hi bs
    → ((x : ℤ) → lo ≤ℤ x → x ≤ℤ hi → has int_cmp as' x ≡ has int_cmp bs x) → as' ≡ bs
same_cuts lo hi as' bs a b h =
    let even : (x : ℤ) → lo ≤ℤ x → x ≤ℤ hi → holds (from_cuts hi as') x ≡ holds (from_cuts hi bs) x = λ x p q.
    let d = distance lo x p in
    let here : parity as' (lo +ℤ pos d.0) ≡ parity bs (lo +ℤ pos d.0) =
    parity_of_changes lo hi as' (parity bs) a (λ y r s. h y r s ∙ has_is_changes lo hi bs y b r) d.0 (rw (← d.1) q) in
    from_cuts_hold lo hi as' x a q ∙ (rw d.1 here ∙ sym (from_cuts_hold lo hi bs x b q)) in
    sym (cuts_again lo hi as' a)
    ∙ (ap (cuts hi) (same_list lo hi (from_cuts hi as') (from_cuts hi bs) (from_cuts_canonical lo hi as' a) (from_cuts_canonical lo hi bs b) even) ∙ cuts_again lo hi bs b)

pub has_within : (lo hi : ℤ) (cs : List ℤ) (x : ℤ) → IsAscending lo hi cs → has int_cmp cs x ≡ true → (lo ≤ℤ x) × (x ≤ℤ hi)
has_within lo hi [] x a e = absurd (cc)
has_within lo hi (c ∷ cs) x a e = by_lt_z x c
    (λ k. later (has_within (c +ℤ pos 1) hi cs x a.2) (eq_more c x k))
    (λ k. by_lt_z c x (λ m. later (has_within (c +ℤ pos 1) hi cs x a.2) (eq_less c x m)) (λ m. (omega (arith, ints), omega (arith, ints))))
  where
    later : (has int_cmp cs x ≡ true → ((c +ℤ pos 1) ≤ℤ x) × (x ≤ℤ hi)) → int_eq c x ≡ false → (lo ≤ℤ x) × (x ≤ℤ hi)
    later ih q = let d = ih (rw q at e) in (omega (arith, ints), d.1)
