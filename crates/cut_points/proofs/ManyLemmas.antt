-- The cuts of many ranges: what their union has, and streams of one value each.
use Rattle.std.proofs.Common.{◌≡◌, ℕ, zero, suc, ◌<◌, List, [], ◌∷◌, length, refl, ap, arith, sym, subst, ◌∙◌}
use Rattle.std.specs.Prelude.{ℤ, Bool, true, false, ◌||◌, All, Any, Contains, Some, map, slice_index_or}
use Rattle.std.specs.List.{AllByRecursion, AllZip}
use Rattle.std.specs.Iterator.Adapters.{once_item, once_steps}
use Rattle.std.specs.declared.iter.Once.{Once}
use Rattle.std.specs.declared.cmp.Ordering.{Ordering}
use Rattle.std.specs.Ordering.{int_cmp, int_eq}
use Rattle.std.proofs.lemmas.Iterator.Adapters.{YieldsList-from_once}
use Rattle.std.proofs.lemmas.List.Elements.{All-head, All-tail}
use Rattle.std.proofs.lemmas.Bool.Decides.{Decides-int_eq}
use Rattle.element_core.specs.Numbering.{Numbering, IsNumbering}
use Rattle.ordered_lists.specs.Lists.{has}
use Rattle.ordered_lists.specs.Multiway.{IsMultiwayUnion}
use Rattle.range_map.specs.Sweep.{numbers_of}
use Rattle.sorted_iter.specs.Orders.{GivesList}
use Rattle.cut_points.proofs.CutLemmas.{has_cons, eq_same}
use Rattle.cut_points.proofs.ValueLemmas.{has_at}

or_left : (a b : Bool) → a ≡ true → (a || b) ≡ true
or_left true b e = refl
or_left false b e = absurd cc

or_right : (a b : Bool) → b ≡ true → (a || b) ≡ true
or_right true b e = refl
or_right false b e = e

-- two tests of which each is true where the other is
same_truth : (a b : Bool) → (a ≡ true → b ≡ true) → (b ≡ true → a ≡ true) → a ≡ b
same_truth true b f g = sym (f refl)
same_truth false true f g = g refl
same_truth false false f g = refl

module _ {T : Type 0} (cmp : T → T → Ordering) (n : Numbering T) (law : IsNumbering cmp n) where
  -- a value of one of the lists of one value is one of the values
  from_one : (each : List T) (y : T) (k : ℕ) (l : List T) → k < length (map (λ v. v ∷ []) each) → slice_index_or (map (λ v. v ∷ []) each) k l ≡ l
      → Contains l y → has int_cmp (numbers_of n each) (n.number y) ≡ true
  from_one [] y k l p e c = absurd (omega arith)
  from_one (v ∷ vs) y zero l p e c =
      has_cons (n.number v) (numbers_of n vs) (n.number y) ∙ or_left (int_eq (n.number v) (n.number y)) (has int_cmp (numbers_of n vs) (n.number y))
      (ap (λ z. int_eq (n.number v) (n.number z)) (sym (alone l e c)) ∙ eq_same (n.number v))
    where
      first : (j : ℕ) → j < 1 → slice_index_or (v ∷ []) j y ≡ y → v ≡ y
      first zero q f = f
      first (suc j) q f = absurd (omega arith)

      alone : (l : List T) → v ∷ [] ≡ l → Contains l y → v ≡ y
      alone l e c = let d : Contains (v ∷ []) y = subst (λ z. Contains z y) (sym e) c in first d.0 d.1 d.2
  from_one (v ∷ vs) y (suc k) l p e c =
      has_cons (n.number v) (numbers_of n vs) (n.number y) ∙ or_right (int_eq (n.number v) (n.number y)) (has int_cmp (numbers_of n vs) (n.number y)) (from_one vs y k l (omega arith) e c)

  union_within : (each all : List T) (x : ℤ) → AllByRecursion (λ y. Any (λ l. Contains l y) (map (λ v. v ∷ []) each)) all
      → has int_cmp (numbers_of n all) x ≡ true → has int_cmp (numbers_of n each) x ≡ true
  union_within each [] x h e = absurd cc
  union_within each (y ∷ ys) x h e = by (int_eq (n.number y) x) refl (union_within each ys x h.1)
    where
      by : (b : Bool) → int_eq (n.number y) x ≡ b → (has int_cmp (numbers_of n ys) x ≡ true → has int_cmp (numbers_of n each) x ≡ true)
          → has int_cmp (numbers_of n each) x ≡ true
      by true q ih =
          let m : n.number y ≡ x = (Decides-int_eq (n.number y) x).0 q in
          let d = h.0 in
          rw m at (from_one each y d.0 d.1 d.2 d.3 d.4)
      by false q ih = ih (rw q at e)

  union_covers : (each all : List T) (x : ℤ) → AllByRecursion n.IsValue each → AllByRecursion n.IsValue all
      → All (AllByRecursion (λ v. has cmp all v ≡ true)) (map (λ v. v ∷ []) each)
      → has int_cmp (numbers_of n each) x ≡ true → has int_cmp (numbers_of n all) x ≡ true
  union_covers [] all x v w h e = absurd cc
  union_covers (y ∷ ys) all x v w h e =
      by (int_eq (n.number y) x) refl (union_covers ys all x v.1 w (All-tail (AllByRecursion (λ v. has cmp all v ≡ true)) (y ∷ []) (map (λ v. v ∷ []) ys) h))
    where
      by : (b : Bool) → int_eq (n.number y) x ≡ b → (has int_cmp (numbers_of n ys) x ≡ true → has int_cmp (numbers_of n all) x ≡ true)
          → has int_cmp (numbers_of n all) x ≡ true
      by true q ih =
          let m : n.number y ≡ x = (Decides-int_eq (n.number y) x).0 q in
          let there = All-head (AllByRecursion (λ v. has cmp all v ≡ true)) (y ∷ []) (map (λ v. v ∷ []) ys) h in
          rw m at (sym (has_at cmp n law all y w v.0) ∙ there.0)
      by false q ih = ih (rw q at e)

  -- the union has the numbers of all values
  pub union_numbers : (each all : List T) → AllByRecursion n.IsValue each → AllByRecursion n.IsValue all
      → IsMultiwayUnion cmp (map (λ v. v ∷ []) each) all
      → (x : ℤ) → has int_cmp (numbers_of n all) x ≡ has int_cmp (numbers_of n each) x
  union_numbers each all v w u x =
      same_truth (has int_cmp (numbers_of n all) x) (has int_cmp (numbers_of n each) x) (union_within each all x u.from_inputs) (union_covers each all x v w u.covers)

-- each stream of one value gives it
pub streams_give : {T : Type 0} (streams : List (Once T)) (values : List T) → map once_item streams ≡ map (λ v. Some v) values
    → AllZip (GivesList once_steps) streams (map (λ v. v ∷ []) values)
streams_give [] [] e = tt
streams_give [] (v ∷ values) e = absurd cc
streams_give (s ∷ streams) [] e = absurd cc
streams_give (s ∷ streams) (v ∷ values) e =
    let here : once_item s ≡ Some v = cc in
    let rest : map once_item streams ≡ map (λ v. Some v) values = cc in
    (record { runs = (YieldsList-from_once (Some v) here).runs }, streams_give streams values rest)
