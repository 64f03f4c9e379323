-- How many cuts and ranges there are.
use Rattle.std.proofs.Common.{◌≡◌, ℕ, suc, ◌+◌, ◌*◌, ◌≤◌, List, [], ◌∷◌, length, refl, arith, ◌∙◌}
use Rattle.std.specs.Prelude.{ℤ, pos, ◌+ℤ◌, ◌≤ℤ◌, ◌<ℤ◌, Bool, true, false, ◌||◌, int_le, cond}
use Rattle.std.specs.List.{count_by}
use Rattle.std.specs.Ordering.{int_cmp, int_eq}
use Rattle.std.proofs.lemmas.Int.{ints, by_lt_z}
use Rattle.std.proofs.lemmas.List.Sums.{sum_by-cons, count_by-le-length}
use Rattle.number_line.specs.Ranges.{IsCanonical}
use Rattle.ordered_lists.specs.Lists.{has}
use Rattle.cut_points.specs.Cuts.{IsAscending, cuts, cuts_alone}
use Rattle.number_line.proofs.OrderLemmas.{le_yes, le_no, lt_yes, lt_no}
use Rattle.cut_points.proofs.CutLemmas.{has_cons, eq_same, eq_less, eq_more, nothing_left}

-- how many of a list are b or more
from_on : ℤ → List ℤ → ℕ
from_on b ys = count_by (λ y. int_le b y) ys

from_cons : (b y : ℤ) (ys : List ℤ) → from_on b (y ∷ ys) ≡ cond (int_le b y) 1 0 + from_on b ys
unfolding from_on
from_cons b y ys = sum_by-cons (λ y. cond (int_le b y) 1 0) y ys

one_less : (lo b y : ℤ) → lo ≤ℤ b → cond (int_le b y) 1 0 ≤ cond (int_le lo y) 1 0
one_less lo b y h = by_lt_z y b (λ k. rw (le_no b y k) (omega arith)) (λ k. rw (le_yes b y k, le_yes lo y (omega (arith, ints))) (omega arith))

fewer : (lo b : ℤ) (ys : List ℤ) → lo ≤ℤ b → from_on b ys ≤ from_on lo ys
unfolding from_on
fewer lo b [] h = omega arith
fewer lo b (y ∷ ys) h = omega (arith, from_cons lo y ys, from_cons b y ys, one_less lo b y h, fewer lo b ys h)

fewer_by_one : (lo c : ℤ) (ys : List ℤ) → lo ≤ℤ c → has int_cmp ys c ≡ true → suc (from_on (c +ℤ pos 1) ys) ≤ from_on lo ys
fewer_by_one lo c [] h e = absurd cc
fewer_by_one lo c (y ∷ ys) h e = by_lt_z c y
    (λ k. later (fewer_by_one lo c ys h) (eq_more y c k))
    (λ k. by_lt_z y c (λ m. later (fewer_by_one lo c ys h) (eq_less y c m)) (λ m. here (omega (arith, ints))))
  where
    later : (has int_cmp ys c ≡ true → suc (from_on (c +ℤ pos 1) ys) ≤ from_on lo ys) → int_eq y c ≡ false
        → suc (from_on (c +ℤ pos 1) (y ∷ ys)) ≤ from_on lo (y ∷ ys)
    later ih q =
        let rest : has int_cmp ys c ≡ true = rw q at e in
        let more = ih rest in
        omega (arith, from_cons lo y ys, from_cons (c +ℤ pos 1) y ys, one_less lo (c +ℤ pos 1) y (omega (arith, ints)), more)

    here : c ≡ y → suc (from_on (c +ℤ pos 1) (y ∷ ys)) ≤ from_on lo (y ∷ ys)
    here q =
        let no : ◌≡◌ {A = ℕ} (cond (int_le (c +ℤ pos 1) y) 1 0) 0 = rw (le_no (c +ℤ pos 1) y (omega (arith, ints))) refl in
        let yes : ◌≡◌ {A = ℕ} (cond (int_le lo y) 1 0) 1 = rw (le_yes lo y (omega (arith, ints))) refl in
        omega (arith, from_cons lo y ys, from_cons (c +ℤ pos 1) y ys, no, yes, fewer lo (c +ℤ pos 1) ys (omega (arith, ints)))

or_left : (a b : Bool) → a ≡ true → (a || b) ≡ true
or_left true b e = refl
or_left false b e = absurd cc

or_right : (a b : Bool) → b ≡ true → (a || b) ≡ true
or_right true b e = refl
or_right false b e = e

below_from : (lo hi : ℤ) (cs ys : List ℤ) → IsAscending lo hi cs → ((x : ℤ) → has int_cmp cs x ≡ true → has int_cmp ys x ≡ true)
    → length cs ≤ from_on lo ys
below_from lo hi [] ys a h = omega arith
below_from lo hi (c ∷ cs) ys a h =
    let rest = below_from (c +ℤ pos 1) hi cs ys a.2 (λ x e. h x (has_cons c cs x ∙ or_right (int_eq c x) (has int_cmp cs x) e)) in
    let one = fewer_by_one lo c ys a.0 (h c (has_cons c cs c ∙ or_left (int_eq c c) (has int_cmp cs c) (eq_same c))) in
    omega (arith, rest, one)

-- an ascending list is no longer than a list that has each of its numbers
pub no_longer : (lo hi : ℤ) (cs ys : List ℤ) → IsAscending lo hi cs → ((x : ℤ) → has int_cmp cs x ≡ true → has int_cmp ys x ≡ true)
    → length cs ≤ length ys
unfolding from_on
no_longer lo hi cs ys a h = let few = below_from lo hi cs ys a h in omega (arith, few, count_by-le-length (λ y. int_le lo y) ys)

-- two cuts for each range, but for the last
pub two_cuts : (lo hi : ℤ) (rs : List (ℤ × ℤ)) → IsCanonical lo hi rs → 2 * length rs ≤ length (cuts hi rs) + 1
two_cuts lo hi [] c = omega arith
two_cuts lo hi (r ∷ rest) c = by_lt_z r.1 hi (below (two_cuts (r.1 +ℤ pos 2) hi rest c.3)) last
  where
    below : 2 * length rest ≤ length (cuts hi rest) + 1 → r.1 <ℤ hi → 2 * length (r ∷ rest) ≤ length (cuts hi (r ∷ rest)) + 1
    below ih h = rw (lt_yes r.1 hi h) (omega (arith, ih))

    last : hi ≤ℤ r.1 → 2 * length (r ∷ rest) ≤ length (cuts hi (r ∷ rest)) + 1
    last h = rw (lt_no r.1 hi h, nothing_left (r.1 +ℤ pos 2) hi rest (omega (arith, ints)) c.3) (omega arith)

-- at most two for each range taken alone
pub length_alone : (hi : ℤ) (rs : List (ℤ × ℤ)) → length (cuts_alone hi rs) ≤ 2 * length rs
length_alone hi [] = omega arith
length_alone hi (r ∷ rs) = by_lt_z r.1 hi (below (length_alone hi rs)) (last (length_alone hi rs))
  where
    below : length (cuts_alone hi rs) ≤ 2 * length rs → r.1 <ℤ hi → length (cuts_alone hi (r ∷ rs)) ≤ 2 * length (r ∷ rs)
    below ih k = rw (lt_yes r.1 hi k) (omega (arith, ih))

    last : length (cuts_alone hi rs) ≤ 2 * length rs → hi ≤ℤ r.1 → length (cuts_alone hi (r ∷ rs)) ≤ 2 * length (r ∷ rs)
    last ih k = rw (lt_no r.1 hi k) (omega (arith, ih))
