use Rattle.std.proofs.Common.{◌≡◌, ℕ, zero, suc, ◌+◌, ◌%◌, List, [], ◌∷◌, refl, arith, sym, ◌∙◌}
use Rattle.std.specs.Prelude.{ℤ, pos, ◌+ℤ◌, ◌-ℤ◌, ◌≤ℤ◌, ◌<ℤ◌, Bool, true, false, not, ◌==◌, ◌||◌, is_some, Some, int_le, int_lt, if◌then◌else◌, cond}
use Rattle.std.specs.List.{count_by}
use Rattle.std.specs.Ordering.{int_cmp, int_eq}
use Rattle.std.specs.declared.cmp.Ordering.TheVariants.{Less, Equal, Greater}
use Rattle.std.proofs.lemmas.Int.{ints, by_lt_z}
use Rattle.std.proofs.lemmas.List.Sums.{sum_by-cons}
use Rattle.number_line.specs.Ranges.{holds, IsCanonical, xor}
use Rattle.ordered_lists.specs.Lists.{has, find}
use Rattle.number_line.proofs.OrderLemmas.{le_yes, le_no, lt_yes, lt_no}
use Rattle.number_line.proofs.RangeLemmas.{first_holds, rest_holds, below_start}
use Rattle.range_map.proofs.BoundLemmas.{xor_false}
use Rattle.cut_points.specs.Cuts.{IsAscending, cuts, from_cuts, parity}

-- whether f changes at x: from the number before, or from false before the first number
abbrev pub changes : ℤ → (ℤ → Bool) → ℤ → Bool
changes lo f x = if int_eq x lo then f x else xor (f x) (f (x -ℤ pos 1))

-- ---- tests

pub cmp_less : (x y : ℤ) → x <ℤ y → int_cmp x y ≡ Less
cmp_less x y h = grind (arith, ints)

pub cmp_same : (x : ℤ) → int_cmp x x ≡ Equal
cmp_same x = grind (arith, ints)

pub cmp_more : (x y : ℤ) → y <ℤ x → int_cmp x y ≡ Greater
cmp_more x y h = grind (arith, ints)

-- ---- counts of cuts

odd_next : (n : ℕ) → ((1 + n) % 2 == 1) ≡ not (n % 2 == 1)
odd_next n = grind arith

pub parity_cons : (c : ℤ) (cs : List ℤ) (x : ℤ) → parity (c ∷ cs) x ≡ xor (int_le c x) (parity cs x)
parity_cons c cs x = rw (sum_by-cons (λ d. cond (int_le d x) 1 0) c cs) (at (int_le c x))
  where
    at : (b : Bool) → ((cond b 1 0 + count_by (λ c. int_le c x) cs) % 2 == 1) ≡ xor b (parity cs x)
    at true = odd_next (count_by (λ c. int_le c x) cs)
    at false = grind arith

pub parity_below : (lo hi : ℤ) (cs : List ℤ) (x : ℤ) → IsAscending lo hi cs → x <ℤ lo → parity cs x ≡ false
parity_below lo hi [] x a h = refl
parity_below lo hi (c ∷ cs) x a h =
    rw (parity_cons c cs x, le_no c x (omega (arith, ints))) (parity_below (c +ℤ pos 1) hi cs x a.2 (omega (arith, ints)))

pub ascending_from : (lo low hi : ℤ) (cs : List ℤ) → low ≤ℤ lo → IsAscending lo hi cs → IsAscending low hi cs
ascending_from lo low hi [] h a = tt
ascending_from lo low hi (c ∷ cs) h a = (omega (arith, ints), a.1, a.2)

-- ---- from ranges to cuts and back

pub nothing_left : (lo hi : ℤ) (rs : List (ℤ × ℤ)) → hi <ℤ lo → IsCanonical lo hi rs → rs ≡ []
nothing_left lo hi [] h c = refl
nothing_left lo hi (r ∷ rest) h c = absurd (omega (arith, ints))

pub cuts_ascend : (lo hi : ℤ) (rs : List (ℤ × ℤ)) → IsCanonical lo hi rs → IsAscending lo hi (cuts hi rs)
cuts_ascend lo hi [] c = tt
cuts_ascend lo hi (r ∷ rest) c = by_lt_z r.1 hi (below (cuts_ascend (r.1 +ℤ pos 2) hi rest c.3)) last
  where
    below : IsAscending (r.1 +ℤ pos 2) hi (cuts hi rest) → r.1 <ℤ hi → IsAscending lo hi (cuts hi (r ∷ rest))
    below ih h =
        let two : (r.1 +ℤ pos 1) +ℤ pos 1 ≡ r.1 +ℤ pos 2 = omega (arith, ints) in
        rw (lt_yes r.1 hi h) (omega (arith, ints), omega (arith, ints), (omega (arith, ints), omega (arith, ints), rw two ih))

    last : hi ≤ℤ r.1 → IsAscending lo hi (cuts hi (r ∷ rest))
    last h = rw (lt_no r.1 hi h, nothing_left (r.1 +ℤ pos 2) hi rest (omega (arith, ints)) c.3) (omega (arith, ints), omega (arith, ints), tt)

pub from_cuts_canonical : (lo hi : ℤ) (cs : List ℤ) → IsAscending lo hi cs → IsCanonical lo hi (from_cuts hi cs)
from_cuts_canonical lo hi [] a = tt
from_cuts_canonical lo hi (c ∷ []) a = (a.0, a.1, omega (arith, ints), tt)
from_cuts_canonical lo hi (c ∷ d ∷ rest) a =
    let two : (d -ℤ pos 1) +ℤ pos 2 ≡ d +ℤ pos 1 = omega (arith, ints) in
    (a.0, omega (arith, ints), omega (arith, ints), rw two (from_cuts_canonical (d +ℤ pos 1) hi rest a.2.2))

-- the two turns, each giving back what it began with
pub ranges_again : (lo hi : ℤ) (rs : List (ℤ × ℤ)) → IsCanonical lo hi rs → from_cuts hi (cuts hi rs) ≡ rs
ranges_again lo hi [] c = refl
ranges_again lo hi (r ∷ rest) c = by_lt_z r.1 hi (below (ranges_again (r.1 +ℤ pos 2) hi rest c.3)) last
  where
    below : from_cuts hi (cuts hi rest) ≡ rest → r.1 <ℤ hi → from_cuts hi (cuts hi (r ∷ rest)) ≡ r ∷ rest
    below ih h = let back : (r.1 +ℤ pos 1) -ℤ pos 1 ≡ r.1 = omega (arith, ints) in rw (lt_yes r.1 hi h, back, ih)

    last : hi ≤ℤ r.1 → from_cuts hi (cuts hi (r ∷ rest)) ≡ r ∷ rest
    last h =
        let end : hi ≡ r.1 = omega (arith, ints) in
        let none : rest ≡ [] = nothing_left (r.1 +ℤ pos 2) hi rest (omega (arith, ints)) c.3 in
        let stop : int_lt r.1 hi ≡ false = lt_no r.1 hi h in
        rw (stop, none) (rw end)

pub cuts_again : (lo hi : ℤ) (cs : List ℤ) → IsAscending lo hi cs → cuts hi (from_cuts hi cs) ≡ cs
cuts_again lo hi [] a = refl
cuts_again lo hi (c ∷ []) a = rw (lt_no hi hi (omega (arith, ints)))
cuts_again lo hi (c ∷ d ∷ rest) a =
    let back : (d -ℤ pos 1) +ℤ pos 1 ≡ d = omega (arith, ints) in
    rw (lt_yes (d -ℤ pos 1) hi (omega (arith, ints)), back, cuts_again (d +ℤ pos 1) hi rest a.2.2)

-- ---- parity is membership

both_ways : (l h b : Bool) → l ≡ b → h ≡ b → l ≡ h
both_ways l h b p q = p ∙ sym q

twice : (b : Bool) → not (not b) ≡ b
twice true = refl
twice false = refl

pub parity_holds : (lo hi : ℤ) (rs : List (ℤ × ℤ)) (x : ℤ) → IsCanonical lo hi rs → x ≤ℤ hi → parity (cuts hi rs) x ≡ holds rs x
parity_holds lo hi [] x c q = refl
parity_holds lo hi (r ∷ rest) x c q = by_lt_z r.1 hi (below (parity_holds (r.1 +ℤ pos 2) hi rest x c.3 q)) last
  where
    before : x <ℤ r.0 → holds (r ∷ rest) x ≡ false
    before h = below_start r.0 hi (r ∷ rest) x (omega (arith, ints), c.1, c.2, c.3) h

    later : x <ℤ (r.1 +ℤ pos 2) → holds rest x ≡ false
    later h = below_start (r.1 +ℤ pos 2) hi rest x c.3 h

    below : parity (cuts hi rest) x ≡ holds rest x → r.1 <ℤ hi → parity (cuts hi (r ∷ rest)) x ≡ holds (r ∷ rest) x
    below ih h =
        rw (lt_yes r.1 hi h, parity_cons r.0 ((r.1 +ℤ pos 1) ∷ cuts hi rest) x, parity_cons (r.1 +ℤ pos 1) (cuts hi rest) x, ih)
        (by_lt_z x r.0
        (λ k. both_ways _ (holds (r ∷ rest) x) false (rw (le_no r.0 x k, le_no (r.1 +ℤ pos 1) x (omega (arith, ints))) (later (omega (arith, ints)))) (before k))
        (λ k. by_lt_z r.1 x
        (λ m. both_ways _ (holds (r ∷ rest) x) (holds rest x) (rw (le_yes r.0 x k, le_yes (r.1 +ℤ pos 1) x (omega (arith, ints))) (twice (holds rest x))) (rest_holds r rest x m))
        (λ m. both_ways _ (holds (r ∷ rest) x) true (rw (le_yes r.0 x k, le_no (r.1 +ℤ pos 1) x (omega (arith, ints)), later (omega (arith, ints))) refl) (first_holds r rest x k m))))

    last : hi ≤ℤ r.1 → parity (cuts hi (r ∷ rest)) x ≡ holds (r ∷ rest) x
    last h =
        let none : rest ≡ [] = nothing_left (r.1 +ℤ pos 2) hi rest (omega (arith, ints)) c.3 in
        rw (lt_no r.1 hi h, parity_cons r.0 (cuts hi rest) x)
        (by_lt_z x r.0
        (λ k. both_ways _ (holds (r ∷ rest) x) false (rw (le_no r.0 x k, none) refl) (before k))
        (λ k. both_ways _ (holds (r ∷ rest) x) true (rw (le_yes r.0 x k, none) refl) (first_holds r rest x k (omega (arith, ints)))))

-- ---- an ascending list, its parity and the changes of a test

pub has_cons : (c : ℤ) (cs : List ℤ) (x : ℤ) → has int_cmp (c ∷ cs) x ≡ (int_eq c x || has int_cmp cs x)
has_cons c cs x = at (int_eq c x)
  where
    at : (b : Bool) → is_some (if b then Some c else find int_cmp cs x) ≡ (b || has int_cmp cs x)
    at true = refl
    at false = refl

pub eq_less : (x y : ℤ) → x <ℤ y → int_eq x y ≡ false
eq_less x y h = rw (cmp_less x y h)

pub eq_same : (x : ℤ) → int_eq x x ≡ true
eq_same x = rw (cmp_same x)

pub eq_more : (x y : ℤ) → y <ℤ x → int_eq x y ≡ false
eq_more x y h = rw (cmp_more x y h)

pub has_below : (lo hi : ℤ) (cs : List ℤ) (x : ℤ) → IsAscending lo hi cs → x <ℤ lo → has int_cmp cs x ≡ false
has_below lo hi [] x a h = refl
has_below lo hi (c ∷ cs) x a h = rw (cmp_more c x (omega (arith, ints))) (has_below (c +ℤ pos 1) hi cs x a.2 (omega (arith, ints)))

pub both_turn : (a b : Bool) → xor (not a) (not b) ≡ xor a b
both_turn true b = refl
both_turn false true = refl
both_turn false false = refl

-- a number is a cut exactly where the parity there is not that at the number before
pub has_is_change : (lo hi : ℤ) (cs : List ℤ) (x : ℤ) → IsAscending lo hi cs → has int_cmp cs x ≡ xor (parity cs x) (parity cs (x -ℤ pos 1))
has_is_change lo hi [] x a = refl
has_is_change lo hi (c ∷ cs) x a =
    rw (parity_cons c cs x, parity_cons c cs (x -ℤ pos 1))
    (by_lt_z x c
    (λ k. rw (cmp_more c x k, le_no c x k, le_no c (x -ℤ pos 1) (omega (arith, ints))) (has_is_change (c +ℤ pos 1) hi cs x a.2))
    (λ k. by_lt_z c x
    (λ m. rw (cmp_less c x m, le_yes c x k, le_yes c (x -ℤ pos 1) (omega (arith, ints))) (has_is_change (c +ℤ pos 1) hi cs x a.2 ∙ sym (both_turn (parity cs x) (parity cs (x -ℤ pos 1)))))
    (λ m. here (omega (arith, ints)))))
  where
    here : x ≡ c → has int_cmp (c ∷ cs) x ≡ xor (xor (int_le c x) (parity cs x)) (xor (int_le c (x -ℤ pos 1)) (parity cs (x -ℤ pos 1)))
    here e =
        let one : parity cs x ≡ false = parity_below (c +ℤ pos 1) hi cs x a.2 (omega (arith, ints)) in
        let two : parity cs (x -ℤ pos 1) ≡ false = parity_below (c +ℤ pos 1) hi cs (x -ℤ pos 1) a.2 (omega (arith, ints)) in
        rw (one, two, le_yes c x (omega (arith, ints)), le_no c (x -ℤ pos 1) (omega (arith, ints)), e, cmp_same c)

xor_back : (a b c : Bool) → xor a b ≡ xor c b → a ≡ c
xor_back true true true e = refl
xor_back true true false e = sym e
xor_back true false true e = refl
xor_back true false false e = e
xor_back false true true e = sym e
xor_back false true false e = refl
xor_back false false true e = e
xor_back false false false e = refl

-- ascending numbers at which f changes, and no others, have the parity f
pub parity_of_changes : (lo hi : ℤ) (cs : List ℤ) (f : ℤ → Bool) → IsAscending lo hi cs
    → ((x : ℤ) → lo ≤ℤ x → x ≤ℤ hi → has int_cmp cs x ≡ changes lo f x)
    → (k : ℕ) → (lo +ℤ pos k) ≤ℤ hi → parity cs (lo +ℤ pos k) ≡ f (lo +ℤ pos k)
parity_of_changes lo hi cs f a h zero q =
    let z : lo +ℤ pos 0 ≡ lo = omega (arith, ints) in
    let first : has int_cmp cs lo ≡ f lo = simp (eq_same lo) at (h lo (omega (arith, ints)) (omega (arith, ints))) in
    let none : parity cs (lo -ℤ pos 1) ≡ false = parity_below lo hi cs (lo -ℤ pos 1) a (omega (arith, ints)) in
    let e : has int_cmp cs lo ≡ xor (parity cs lo) (parity cs (lo -ℤ pos 1)) = has_is_change lo hi cs lo a in
    rw z (sym (xor_false (parity cs lo)) ∙ (sym (rw none at e) ∙ first))
parity_of_changes lo hi cs f a h (suc k) q =
    let x = lo +ℤ pos (suc k) in
    let z : x -ℤ pos 1 ≡ lo +ℤ pos k = omega (arith, ints) in
    let ih : parity cs (lo +ℤ pos k) ≡ f (lo +ℤ pos k) = parity_of_changes lo hi cs f a h k (omega (arith, ints)) in
    let here : has int_cmp cs x ≡ xor (f x) (f (x -ℤ pos 1)) = simp (eq_more x lo (omega (arith, ints))) at (h x (omega (arith, ints)) q) in
    let e : has int_cmp cs x ≡ xor (parity cs x) (parity cs (x -ℤ pos 1)) = has_is_change lo hi cs x a in
    let before : parity cs (x -ℤ pos 1) ≡ f (x -ℤ pos 1) = rw z ih in
    xor_back (parity cs x) (f (x -ℤ pos 1)) (f x) (sym (rw before at e) ∙ here)
