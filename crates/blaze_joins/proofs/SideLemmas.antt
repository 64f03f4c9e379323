-- The sides of a walk over several maps: where the first of them ends, and the piece that they make.
use Rattle.std.proofs.Common.{◌≡◌, List, [], ◌∷◌, map, refl, ap, arith, sym, ◌∙◌, length}
use Rattle.std.specs.Prelude.{ℤ, pos, ◌+ℤ◌, ◌≤ℤ◌, Bool, true, ◌&&◌, ◌||◌, Option, Some, None, is_some}
use Rattle.std.specs.Int.{int_min}
use Rattle.std.specs.List.{list_any, list_all}
use Rattle.std.proofs.lemmas.Int.{ints}
use Rattle.element_core.specs.Numbering.{Numbering}
use Rattle.number_line.specs.Pieces.{HoldersOfAll, holders_of_all_at, same_holders_of_all, value_in, in_any, in_all}
use Rattle.number_line.proofs.PieceLemmas.{AreCutTo, with_piece}
use Rattle.number_line.proofs.ManyLemmas.{IsSide, AreSides, OneEnds, cut_all_sides}
use Rattle.blaze_joins.specs.declared.many.Side.{Side}
use Rattle.blaze_joins.specs.Filled.{IsOptionClone}
use Rattle.blaze_joins.specs.PlaceView.{at_place}
use Rattle.blaze_joins.specs.SideView.{holders_in, least_of, ends_of, IsSideOf, AreSidesOf}

-- ---- the least of some numbers

pub min_low : (a b : ℤ) → int_min a b ≤ℤ a
min_low a b = grind (arith, ints)

pub min_low_right : (a b : ℤ) → int_min a b ≤ℤ b
min_low_right a b = grind (arith, ints)

pub min_other : (a b : ℤ) → (a ≡ int_min a b → ⊥) → int_min a b ≡ b
min_other a b h = grind (arith, ints)

min_apart : (a b c : ℤ) → int_min (int_min a b) c ≡ int_min a (int_min b c)
min_apart a b c = grind (arith, ints)

min_is : (a b : ℤ) → b ≤ℤ a → int_min a b ≡ b
min_is a b h = grind (arith, ints)

pub min_above : (n a b : ℤ) → n ≤ℤ a → n ≤ℤ b → n ≤ℤ int_min a b
min_above n a b h k = grind (arith, ints)

pub least_high : (hi : ℤ) (list : List ℤ) → least_of hi list ≤ℤ hi
least_high hi [] = omega (arith, ints)
least_high hi (n ∷ rest) = let a = least_high hi rest in let b = min_low_right n (least_of hi rest) in omega (arith, ints)

-- the least so far, and of those still to come
pub least_first : (hi : ℤ) (list : List ℤ) → int_min hi (least_of hi list) ≡ least_of hi list
least_first hi list = min_is hi (least_of hi list) (least_high hi list)

pub least_next : (hi so_far n new : ℤ) (rest : List ℤ) → new ≡ int_min so_far n → int_min new (least_of hi rest) ≡ int_min so_far (least_of hi (n ∷ rest))
least_next hi so_far n new rest is = rw is (min_apart so_far n (least_of hi rest))

pub least_end : (hi so_far : ℤ) → so_far ≤ℤ hi → int_min so_far (least_of hi []) ≡ so_far
least_end hi so_far h = grind (arith, ints)

-- what is at most the least is at most the first, and at most the least of the others
pub below_first : (hi end n : ℤ) (rest : List ℤ) → end ≤ℤ least_of hi (n ∷ rest) → end ≤ℤ n
below_first hi end n rest h = let low = min_low n (least_of hi rest) in omega (arith, ints)

pub below_rest : (hi end n : ℤ) (rest : List ℤ) → end ≤ℤ least_of hi (n ∷ rest) → end ≤ℤ least_of hi rest
below_rest hi end n rest h = let low = min_low_right n (least_of hi rest) in omega (arith, ints)

-- ---- sides

module _ {T V : Type 0} (numbers : Numbering T) (same : V → V → Bool) (n : ℤ) where
  sides_in : List (List ((ℤ × ℤ) × V)) → List (Side T) → List (ℤ × Option ((ℤ × ℤ) × V))
  sides_in [] sides = []
  sides_in (m ∷ maps) [] = []
  sides_in (m ∷ maps) (s ∷ sides) = (numbers.number s.end, at_place m s.place) ∷ sides_in maps sides

  holders_are : (maps : List (List ((ℤ × ℤ) × V))) (sides : List (Side T)) → map (λ s. s.1) (sides_in maps sides) ≡ holders_in maps sides
  unfolding sides_in
  holders_are [] sides = refl
  holders_are (m ∷ maps) [] = refl
  holders_are (m ∷ maps) (s ∷ sides) = ap (λ t. at_place m s.place ∷ t) (holders_are maps sides)

  one_side : (m : List ((ℤ × ℤ) × V)) (s : Side T) (end : ℤ) → IsSideOf numbers same n m s → end ≤ℤ numbers.number s.end → IsSide numbers.greatest n end m (numbers.number s.end, at_place m s.place)
  one_side m s end is h = record {
    far = h;
    holds = λ x low high. is.at.left.later x low ∙ is.held.holds x low high;
    stops = λ k.
        let low = is.held.low in
        rw (is.at.left.later (numbers.number s.end +ℤ pos 1) (omega (arith, ints))) (is.held.stops k);
  }

  are_sides : (end : ℤ) (maps : List (List ((ℤ × ℤ) × V))) (sides : List (Side T)) → AreSidesOf numbers same n maps sides → end ≤ℤ least_of numbers.greatest (ends_of numbers sides)
      → AreSides numbers.greatest n end maps (sides_in maps sides)
  unfolding sides_in
  are_sides end [] [] all h = tt
  are_sides end [] (s ∷ sides) all h = absurd all
  are_sides end (m ∷ maps) [] all h = absurd all
  are_sides end (m ∷ maps) (s ∷ sides) all h =
      let here = min_low (numbers.number s.end) (least_of numbers.greatest (ends_of numbers sides)) in
      let later = min_low_right (numbers.number s.end) (least_of numbers.greatest (ends_of numbers sides)) in
      (one_side m s end all.0 (omega (arith, ints)), are_sides end maps sides all.1 (omega (arith, ints)))

  one_ends : (end : ℤ) (maps : List (List ((ℤ × ℤ) × V))) (sides : List (Side T)) → AreSidesOf numbers same n maps sides → end ≡ least_of numbers.greatest (ends_of numbers sides)
      → OneEnds numbers.greatest n end (sides_in maps sides)
  unfolding sides_in
  one_ends end [] [] all is = is
  one_ends end [] (s ∷ sides) all is = absurd all
  one_ends end (m ∷ maps) [] all is = absurd all
  one_ends end (m ∷ maps) (s ∷ sides) all is = λ other.
      one_ends end maps sides all.1 (is ∙ min_other (numbers.number s.end) (least_of numbers.greatest (ends_of numbers sides)) (λ e. other (e ∙ sym is)))

  -- the first end comes at n or behind it
  pub ends_low : (maps : List (List ((ℤ × ℤ) × V))) (sides : List (Side T)) → n ≤ℤ numbers.greatest → AreSidesOf numbers same n maps sides → n ≤ℤ least_of numbers.greatest (ends_of numbers sides)
  ends_low [] [] high all = high
  ends_low [] (s ∷ sides) high all = absurd all
  ends_low (m ∷ maps) [] high all = absurd all
  ends_low (m ∷ maps) (s ∷ sides) high all = min_above n (numbers.number s.end) (least_of numbers.greatest (ends_of numbers sides)) all.0.held.low (ends_low maps sides high all.1)

  -- what holds the numbers from n to the first end is one piece more, if it is wanted
  pub cut_sides : (wanted : HoldersOfAll V → Bool) (end next : ℤ) (maps : List (List ((ℤ × ℤ) × V))) (sides : List (Side T)) → numbers.least ≤ℤ n → n ≤ℤ numbers.greatest
      → AreSidesOf numbers same n maps sides → end ≡ least_of numbers.greatest (ends_of numbers sides) → next ≡ end +ℤ pos 1 → (pieces : List ((ℤ × ℤ) × HoldersOfAll V))
      → AreCutTo same_holders_of_all wanted (holders_of_all_at maps) numbers.least numbers.greatest n pieces
      → AreCutTo same_holders_of_all wanted (holders_of_all_at maps) numbers.least numbers.greatest next (with_piece wanted pieces ((n, end), holders_in maps sides))
  cut_sides wanted end next maps sides low high all is above pieces cut =
      let ordered = ends_low maps sides high all in
      let least = least_high numbers.greatest (ends_of numbers sides) in
      rw (← holders_are maps sides)
      (cut_all_sides numbers.greatest n end wanted numbers.least next maps (sides_in maps sides) pieces low (omega (arith, ints)) (omega (arith, ints)) above
      (are_sides end maps sides all (omega (arith, ints))) (one_ends end maps sides all is) cut)

  -- whether one, or each, of the maps has a holder
  pub one_there : (maps : List (List ((ℤ × ℤ) × V))) (sides : List (Side T)) → AreSidesOf numbers same n maps sides → list_any (λ s. is_some s.place) sides ≡ in_any (holders_in maps sides)
  one_there [] [] all = refl
  one_there [] (s ∷ sides) all = absurd all
  one_there (m ∷ maps) [] all = absurd all
  one_there (m ∷ maps) (s ∷ sides) all = rw (all.0.there) (ap (λ b. is_some (at_place m s.place) || b) (one_there maps sides all.1))

  pub each_there : (maps : List (List ((ℤ × ℤ) × V))) (sides : List (Side T)) → AreSidesOf numbers same n maps sides → list_all (λ s. is_some s.place) sides ≡ in_all (holders_in maps sides)
  each_there [] [] all = refl
  each_there [] (s ∷ sides) all = absurd all
  each_there (m ∷ maps) [] all = absurd all
  each_there (m ∷ maps) (s ∷ sides) all = rw (all.0.there) (ap (λ b. is_some (at_place m s.place) && b) (each_there maps sides all.1))

  pub sides_long : (maps : List (List ((ℤ × ℤ) × V))) (sides : List (Side T)) → AreSidesOf numbers same n maps sides → length maps ≡ length sides
  sides_long [] [] all = refl
  sides_long [] (s ∷ sides) all = absurd all
  sides_long (m ∷ maps) [] all = absurd all
  sides_long (m ∷ maps) (s ∷ sides) all = let rest = sides_long maps sides all.1 in omega arith

-- what holds a key has a value, and so has a clone
pub value_there : {V : Type 0} (h : Option ((ℤ × ℤ) × V)) → is_some (value_in h) ≡ is_some h
value_there None = refl
value_there (Some p) = refl

pub clone_there : {V : Type 0} (is_clone : V → V → Type 0) (source : Option V) → is_some source ≡ true → IsOptionClone is_clone source None → ⊥
clone_there is_clone None e h = cc
clone_there is_clone (Some v) e h = h
