use Rattle.std.proofs.Common.{◌≡◌, ℕ, zero, suc, List, [], ◌∷◌, refl, ap, arith, sym, ◌∙◌}
use Rattle.std.specs.Prelude.{ℤ, pos, ◌+ℤ◌, ◌-ℤ◌, ◌≤ℤ◌, ◌<ℤ◌, Bool, true, false, not, if◌then◌else◌}
use Rattle.std.specs.Ordering.{int_cmp}
use Rattle.std.proofs.lemmas.Int.{ints, by_lt_z}
use Rattle.std.specs.Bool.{Decides}
use Rattle.number_line.specs.Segments.{segments, IsCut, runs, same_bool}
use Rattle.number_line.specs.Ranges.{xor}
use Rattle.ordered_lists.specs.Lists.{has}
use Rattle.number_line.proofs.SegmentLemmas.{distance, cut_is_segments}
use Rattle.cut_points.specs.Cuts.{from_cuts, IsAscending}
use Rattle.cut_points.proofs.CutLemmas.{changes, ascending_from, has_cons, has_below, eq_less, eq_same, eq_more}
use Rattle.cut_points.proofs.RunLemmas.{changes_are_runs}
use Rattle.set_document.specs.Visits.{numbers_noted, walk, IsConstantBetween}

-- f is one from b to b + k, where no number between is visited
constant_on : {L : Type 0} (f : ℤ → L) (b : ℤ) (k : ℕ) → ((x : ℤ) → b <ℤ x → x ≤ℤ (b +ℤ pos k) → f x ≡ f (x -ℤ pos 1)) → f (b +ℤ pos k) ≡ f b
constant_on f b zero h = let z : b +ℤ pos 0 ≡ b = omega (arith, ints) in rw z
constant_on f b (suc k) h =
    let x = b +ℤ pos (suc k) in
    let z : x -ℤ pos 1 ≡ b +ℤ pos k = omega (arith, ints) in
    h x (omega (arith, ints)) (omega (arith, ints)) ∙ rw z (constant_on f b k (λ y p q. h y p (omega (arith, ints))))

-- so at the number before the next one that is visited f is what it was at the last
pub as_at_last : {L : Type 0} (f : ℤ → L) (hi b v : ℤ) (vs : List ℤ) → b <ℤ v → IsAscending (b +ℤ pos 1) hi (v ∷ vs) → IsConstantBetween f hi b (v ∷ vs)
    → f (v -ℤ pos 1) ≡ f b
as_at_last f hi b v vs less a h =
    let d = distance b (v -ℤ pos 1) (omega (arith, ints)) in
    let e : f (b +ℤ pos d.0) ≡ f b = constant_on f b d.0 (λ x p q. h x p (omega (arith, ints, d.1)) (has_below v hi (v ∷ vs) x (omega (arith, ints), a.1, a.2) (omega (arith, ints, d.1)))) in
    rw d.1 e

later_on : {L : Type 0} (f : ℤ → L) (hi b v : ℤ) (vs : List ℤ) → b <ℤ v → IsConstantBetween f hi b (v ∷ vs) → IsConstantBetween f hi v vs
later_on f hi b v vs less h = λ x p q e. h x (omega (arith, ints)) q (has_cons v vs x ∙ rw (eq_less v x p) e)

pub noted_ascends : (before : Bool) (f : ℤ → Bool) (lo hi : ℤ) (vs : List ℤ) → IsAscending lo hi vs → IsAscending lo hi (numbers_noted before f vs)
noted_ascends before f lo hi [] a = tt
noted_ascends before f lo hi (v ∷ vs) a = at (noted_ascends (f v) f (v +ℤ pos 1) hi vs a.2) (same_bool before (f v))
  where
    at : IsAscending (v +ℤ pos 1) hi (numbers_noted (f v) f vs) → (b : Bool) → IsAscending lo hi (if b then numbers_noted (f v) f vs else v ∷ numbers_noted (f v) f vs)
    at ih true = ascending_from (v +ℤ pos 1) lo hi (numbers_noted (f v) f vs) (omega (arith, ints)) ih
    at ih false = (a.0, a.1, ih)

xor_self : (a b : Bool) → a ≡ b → false ≡ xor a b
xor_self true b e = rw (← e)
xor_self false b e = e

differ : (a b : Bool) → not (same_bool a b) ≡ xor b a
differ true true = refl
differ true false = refl
differ false true = refl
differ false false = refl

-- behind b the noted numbers are those at which f changes
noted_has : (f : ℤ → Bool) (hi b : ℤ) (vs : List ℤ) → IsAscending (b +ℤ pos 1) hi vs → IsConstantBetween f hi b vs
    → (x : ℤ) → b <ℤ x → x ≤ℤ hi → has int_cmp (numbers_noted (f b) f vs) x ≡ xor (f x) (f (x -ℤ pos 1))
noted_has f hi b [] a h x p q = xor_self (f x) (f (x -ℤ pos 1)) (h x p q refl)
noted_has f hi b (v ∷ vs) a h x p q = by_lt_z x v before (λ k. by_lt_z v x (after (noted_has f hi v vs a.2 (later_on f hi b v vs (omega (arith, ints)) h) x)) (λ m. here (omega (arith, ints))))
  where
    rest : List ℤ
    rest = numbers_noted (f v) f vs

    before : x <ℤ v → has int_cmp (numbers_noted (f b) f (v ∷ vs)) x ≡ xor (f x) (f (x -ℤ pos 1))
    before k =
        let up : IsAscending v hi (v ∷ vs) = (omega (arith, ints), a.1, a.2) in
        has_below v hi (numbers_noted (f b) f (v ∷ vs)) x (noted_ascends (f b) f v hi (v ∷ vs) up) k
        ∙ xor_self (f x) (f (x -ℤ pos 1)) (h x p q (has_below v hi (v ∷ vs) x up k))

    after : (v <ℤ x → x ≤ℤ hi → has int_cmp (numbers_noted (f v) f vs) x ≡ xor (f x) (f (x -ℤ pos 1))) → v <ℤ x → has int_cmp (numbers_noted (f b) f (v ∷ vs)) x ≡ xor (f x) (f (x -ℤ pos 1))
    after ih m = at (same_bool (f b) (f v))
      where
        at : (c : Bool) → has int_cmp (if c then numbers_noted (f v) f vs else v ∷ numbers_noted (f v) f vs) x ≡ xor (f x) (f (x -ℤ pos 1))
        at true = ih m q
        at false = has_cons v (numbers_noted (f v) f vs) x ∙ rw (eq_less v x m) (ih m q)

    here : x ≡ v → has int_cmp (numbers_noted (f b) f (v ∷ vs)) x ≡ xor (f x) (f (x -ℤ pos 1))
    here e =
        let last : f (v -ℤ pos 1) ≡ f b = as_at_last f hi b v vs (omega (arith, ints)) a h in
        let none : has int_cmp (numbers_noted (f v) f vs) v ≡ false = has_below (v +ℤ pos 1) hi (numbers_noted (f v) f vs) v (noted_ascends (f v) f (v +ℤ pos 1) hi vs a.2) (omega (arith, ints)) in
        rw (e, last) (at (same_bool (f b) (f v)) none ∙ differ (f b) (f v))
      where
        at : (c : Bool) → has int_cmp (numbers_noted (f v) f vs) v ≡ false → has int_cmp (if c then numbers_noted (f v) f vs else v ∷ numbers_noted (f v) f vs) v ≡ not c
        at true none = none
        at false none = has_cons v (numbers_noted (f v) f vs) v ∙ rw (eq_same v) refl

-- the ranges of the noted numbers are the runs
pub noted_are_runs : (f : ℤ → Bool) (lo hi : ℤ) (n : ℕ) (vs : List ℤ) → hi ≡ lo +ℤ pos n → IsAscending (lo +ℤ pos 1) hi vs → IsConstantBetween f hi lo vs
    → from_cuts hi (numbers_noted false f (lo ∷ vs)) ≡ runs f lo n
noted_are_runs f lo hi n vs e a h =
    changes_are_runs lo hi n (numbers_noted false f (lo ∷ vs)) f e (noted_ascends false f lo hi (lo ∷ vs) (omega (arith, ints), omega (arith, ints), a))
    (λ x p q. by_lt_z lo x (λ k. above x k (noted_has f hi lo vs a h x k q)) (λ k. least x (omega (arith, ints))))
  where
    above : (x : ℤ) → lo <ℤ x → has int_cmp (numbers_noted (f lo) f vs) x ≡ xor (f x) (f (x -ℤ pos 1)) → has int_cmp (numbers_noted false f (lo ∷ vs)) x ≡ changes lo f x
    above x k i = rw (eq_more x lo k) (at (same_bool false (f lo)))
      where
        at : (c : Bool) → has int_cmp (if c then numbers_noted (f lo) f vs else lo ∷ numbers_noted (f lo) f vs) x ≡ xor (f x) (f (x -ℤ pos 1))
        at true = i
        at false = has_cons lo (numbers_noted (f lo) f vs) x ∙ rw (eq_less lo x k) i

    least : (x : ℤ) → x ≡ lo → has int_cmp (numbers_noted false f (lo ∷ vs)) x ≡ changes lo f x
    least x m =
        let none : has int_cmp (numbers_noted (f lo) f vs) lo ≡ false = has_below (lo +ℤ pos 1) hi (numbers_noted (f lo) f vs) lo (noted_ascends (f lo) f (lo +ℤ pos 1) hi vs a) (omega (arith, ints)) in
        rw (m, eq_same lo) (at (f lo) refl none)
      where
        at : (c : Bool) → f lo ≡ c → has int_cmp (numbers_noted (f lo) f vs) lo ≡ false → has int_cmp (if same_bool false c then numbers_noted (f lo) f vs else lo ∷ numbers_noted (f lo) f vs) lo ≡ c
        at true d none = has_cons lo (numbers_noted (f lo) f vs) lo ∙ rw (eq_same lo) refl
        at false d none = none

-- ---- rows

module _ {L : Type 0} (same : L → L → Bool) (decides : (a b : L) → Decides (same a b) (a ≡ b)) (f : ℤ → L) (hi : ℤ) where
  equal_same : (a b : L) → a ≡ b → same a b ≡ true
  equal_same a b e = (decides a b).1 e

  -- the walk is the cut of f: b is the last visited number, and the row that is open began at `first`
  pub walk_cut : (first b : ℤ) (vs : List ℤ) → first ≤ℤ b → b ≤ℤ hi → f b ≡ f first
      → ((x : ℤ) → first ≤ℤ x → x <ℤ b → same (f x) (f (x +ℤ pos 1)) ≡ true)
      → IsAscending (b +ℤ pos 1) hi vs → IsConstantBetween f hi b vs → IsCut same f hi first (walk same f hi first vs)
  walk_cut first b [] low high e old a h = (
    refl,
    omega (arith, ints),
    omega (arith, ints),
    refl,
    (λ x p q. by_lt_z x b (λ k. old x p k) (λ k. step x k (omega (arith, ints)))),
    (λ k. absurd (omega (arith, ints))),
    refl,
  )
    where
      step : (x : ℤ) → b ≤ℤ x → (x +ℤ pos 1) ≤ℤ hi → same (f x) (f (x +ℤ pos 1)) ≡ true
      step x k m =
          let z : (x +ℤ pos 1) -ℤ pos 1 ≡ x = omega (arith, ints) in
          let d : f (x +ℤ pos 1) ≡ f ((x +ℤ pos 1) -ℤ pos 1) = h (x +ℤ pos 1) (omega (arith, ints)) m refl in
          equal_same (f x) (f (x +ℤ pos 1)) (sym (rw z at d))
  walk_cut first b (v ∷ vs) low high e old a h = at (same (f first) (f v)) refl
      (λ g. walk_cut first v vs (omega (arith, ints)) a.1 g (on_to g) a.2 later)
      (walk_cut v v vs (omega (arith, ints)) a.1 refl (λ x p q. absurd (omega (arith, ints))) a.2 later)
    where
      later : IsConstantBetween f hi v vs
      later = later_on f hi b v vs (omega (arith, ints)) h

      last : f (v -ℤ pos 1) ≡ f first
      last = as_at_last f hi b v vs (omega (arith, ints)) a h ∙ e

      before_v : (x : ℤ) → first ≤ℤ x → x <ℤ (v -ℤ pos 1) → same (f x) (f (x +ℤ pos 1)) ≡ true
      before_v x p q = by_lt_z x b (λ k. old x p k) (λ k. step k)
        where
          step : b ≤ℤ x → same (f x) (f (x +ℤ pos 1)) ≡ true
          step k =
              let z : (x +ℤ pos 1) -ℤ pos 1 ≡ x = omega (arith, ints) in
              let none : has int_cmp (v ∷ vs) (x +ℤ pos 1) ≡ false = has_below v hi (v ∷ vs) (x +ℤ pos 1) (omega (arith, ints), a.1, a.2) (omega (arith, ints)) in
              let d : f (x +ℤ pos 1) ≡ f ((x +ℤ pos 1) -ℤ pos 1) = h (x +ℤ pos 1) (omega (arith, ints)) (omega (arith, ints)) none in
              equal_same (f x) (f (x +ℤ pos 1)) (sym (rw z at d))

      on_to : f v ≡ f first → (x : ℤ) → first ≤ℤ x → x <ℤ v → same (f x) (f (x +ℤ pos 1)) ≡ true
      on_to g x p q = by_lt_z x (v -ℤ pos 1) (λ k. before_v x p k)
          (λ k. let z : x ≡ v -ℤ pos 1 = omega (arith, ints) in let y : x +ℤ pos 1 ≡ v = omega (arith, ints) in
          equal_same (f x) (f (x +ℤ pos 1)) (ap f z ∙ (last ∙ (sym g ∙ sym (ap f y)))))

      at : (c : Bool) → same (f first) (f v) ≡ c → (f v ≡ f first → IsCut same f hi first (walk same f hi first vs)) → IsCut same f hi v (walk same f hi v vs)
          → IsCut same f hi first (if c then walk same f hi first vs else record { first = first; last = v -ℤ pos 1; label = f first } ∷ walk same f hi v vs)
      at true c one two = one (sym ((decides (f first) (f v)).0 c))
      at false c one two =
          let y : (v -ℤ pos 1) +ℤ pos 1 ≡ v = omega (arith, ints) in
          (refl, omega (arith, ints), omega (arith, ints), refl, before_v, (λ k. rw (y, last) c), rw y two)

  pub walk_is_segments : (lo : ℤ) (n : ℕ) (vs : List ℤ) → hi ≡ lo +ℤ pos n → IsAscending (lo +ℤ pos 1) hi vs → IsConstantBetween f hi lo vs
      → walk same f hi lo vs ≡ segments same f lo n
  walk_is_segments lo n vs e a h = cut_is_segments same f hi lo n (walk same f hi lo vs) e
      (walk_cut lo lo vs (omega (arith, ints)) (omega (arith, ints)) refl (λ x p q. absurd (omega (arith, ints))) a h)
