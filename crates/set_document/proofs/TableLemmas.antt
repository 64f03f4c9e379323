-- From the ranges of names, grouped, placed and filled, to the rows of the table.
use Rattle.std.proofs.Common.{◌≡◌, ℕ, ◌+◌, List, [], ◌∷◌, map, refl, sym, ◌∙◌, ap, subst, reverse, arith, w64}
use Rattle.std.specs.Prelude.{ℤ, pos, ◌+ℤ◌, ◌≤ℤ◌, ◌<ℤ◌, Bool, true, false, Option, Some, None, nat_eq, unwrap_or}
use Rattle.std.specs.Cmp.Lexicographic.{pointwise}
use Rattle.std.specs.Option.{option_map, option_eq}
use Rattle.std.proofs.lemmas.Bool.Decides.{Decides-eqb}
use Rattle.std.proofs.lemmas.Int.{ints}
use Rattle.std.proofs.lemmas.Slice.Eq.{bytes_eq-Decides}
use Rattle.number_line.specs.Segments.{segments}
use Rattle.number_line.specs.Valued.{value_at, IsCanonicalMap, HasValues}
use Rattle.number_line.specs.Rows.{segment_of, place_at, with_places}
use Rattle.number_line.proofs.RowLemmas.{value_revalued, revalued_canonical, total_is_segments, value_is_placed, place_is_valued, nothing_is_placed, value_reversed, places_canonical, same_value_same_place}
use Rattle.element_core.specs.Numberings.{signed}
use Rattle.blaze_joins.specs.LastValue.{last_value_at}
use Rattle.range_map.specs.Valued.{pairs_in_numbers}
use Rattle.range_multimap.specs.Grouped.{grouped_at, group_of}
use Rattle.set_document.proofs.ReadLemmas.{numbers_are}
use Rattle.set_document.specs.Table.{row_of}
use Rattle.set_document.specs.Tabled.{names_of_slot, rows_of_table}

option_is : {V : Type 0} (same : V → V → Bool) → ((a b : V) → same a b ≡ true → a ≡ b) → (a b : Option V) → option_eq same a b ≡ true → a ≡ b
option_is same decides None None e = refl
option_is same decides None (Some b) e = cc
option_is same decides (Some a) None e = cc
option_is same decides (Some a) (Some b) e = ap Some (decides a b e)

number_is : (a b : ℕ) → nat_eq a b ≡ true → a ≡ b
number_is a b e = (Decides-eqb a b).0 e

list_is : (a b : List ℕ) → pointwise nat_eq a b ≡ true → a ≡ b
list_is a b e = (bytes_eq-Decides a b).0 e

pub list_itself : (a : List ℕ) → pointwise nat_eq a a ≡ true
list_itself a = (bytes_eq-Decides a a).1 refl

place_itself : (a : Option ℕ) → option_eq nat_eq a a ≡ true
place_itself None = refl
place_itself (Some i) = (Decides-eqb i i).1 refl

group_read : (vs : List ℕ) → unwrap_or (group_of vs) [] ≡ vs
group_read [] = refl
group_read (v ∷ vs) = refl

-- the groups hold the lists of h, the places say which group holds a number, and the slots fill the gaps
module _ (lo hi : ℤ) (h : ℤ → List ℕ) (groups : List ((ℤ × ℤ) × List ℕ)) (places : List ((ℤ × ℤ) × ℕ)) (slots : List ((ℤ × ℤ) × Option ℕ))
    (groups_canonical : IsCanonicalMap (pointwise nat_eq) lo hi groups) (grouped : HasValues (pointwise nat_eq) (λ x. group_of (h x)) lo hi groups)
    (placed : HasValues nat_eq (value_at (reverse (with_places 0 groups))) lo hi places)
    (slots_canonical : IsCanonicalMap (option_eq nat_eq) lo hi slots) (filled : HasValues (option_eq nat_eq) (λ x. Some (value_at places x)) lo hi slots) where
  group_at : (x : ℤ) → lo ≤ℤ x → x ≤ℤ hi → value_at groups x ≡ group_of (h x)
  group_at x p q = option_is (pointwise nat_eq) list_is (value_at groups x) (group_of (h x)) (grouped x p q)

  slot_at : (x : ℤ) → lo ≤ℤ x → x ≤ℤ hi → value_at slots x ≡ Some (place_at groups x)
  slot_at x p q =
      let slot : value_at slots x ≡ Some (value_at places x) = option_is (option_eq nat_eq) (option_is nat_eq number_is) (value_at slots x) (Some (value_at places x)) (filled x p q) in
      let last : value_at places x ≡ value_at (reverse (with_places 0 groups)) x = option_is nat_eq number_is (value_at places x) (value_at (reverse (with_places 0 groups)) x) (placed x p q) in
      let first = value_reversed nat_eq hi lo (with_places 0 groups) x (places_canonical (pointwise nat_eq) hi 0 lo groups groups_canonical) in
      let place = place_is_valued 0 groups x in
      slot ∙ ap Some (last ∙ (first ∙ (place ∙ no_more (place_at groups x))))
    where
      no_more : (r : Option ℕ) → option_map (λ i. i + 0) r ≡ r
      no_more None = refl
      no_more (Some i) = let e : i + 0 ≡ i = omega arith in ap Some e

  held_there : (x : ℤ) → lo ≤ℤ x → x ≤ℤ hi → names_of_slot groups (place_at groups x) ≡ h x
  held_there x p q = ap (λ r. unwrap_or r []) (value_is_placed groups x ∙ group_at x p q) ∙ group_read (h x)

  pub row_at : (x : ℤ) → lo ≤ℤ x → x ≤ℤ hi → value_at (rows_of_table groups slots) x ≡ Some (h x)
  row_at x p q = value_revalued (names_of_slot groups) slots x ∙ (ap (option_map (names_of_slot groups)) (slot_at x p q) ∙ ap Some (held_there x p q))

  some_is : {V : Type 0} {a b : V} → Some a ≡ Some b → a ≡ b
  some_is e = cc

  -- neighbouring numbers at which the same names hold are in one slot
  one_slot : (x : ℤ) → lo ≤ℤ x → x <ℤ hi → h x ≡ h (x +ℤ pos 1) → place_at groups x ≡ place_at groups (x +ℤ pos 1)
  one_slot x p q e =
      let here = group_at x p (omega (arith, ints)) in
      let there = group_at (x +ℤ pos 1) (omega (arith, ints)) (omega (arith, ints)) in
      let alike : value_at groups x ≡ value_at groups (x +ℤ pos 1) = here ∙ (ap group_of e ∙ sym there) in
      go (value_at groups x) refl alike
    where
      go : (r : Option (List ℕ)) → value_at groups x ≡ r → value_at groups x ≡ value_at groups (x +ℤ pos 1) → place_at groups x ≡ place_at groups (x +ℤ pos 1)
      go None none alike = nothing_is_placed groups x none ∙ sym (nothing_is_placed groups (x +ℤ pos 1) (sym alike ∙ none))
      go (Some v) some alike = same_value_same_place (pointwise nat_eq) hi lo groups x v v groups_canonical some (sym alike ∙ some) (list_itself v)

  slots_apart : (x : ℤ) (a b : Option ℕ) → lo ≤ℤ x → x <ℤ hi → value_at slots x ≡ Some a → value_at slots (x +ℤ pos 1) ≡ Some b
      → option_eq nat_eq a b ≡ false → pointwise nat_eq (names_of_slot groups a) (names_of_slot groups b) ≡ false
  slots_apart x a b p q e f differ = go (pointwise nat_eq (names_of_slot groups a) (names_of_slot groups b)) refl
    where
      go : (t : Bool) → pointwise nat_eq (names_of_slot groups a) (names_of_slot groups b) ≡ t → t ≡ false
      go false k = refl
      go true k =
          let a_is : a ≡ place_at groups x = some_is (sym e ∙ slot_at x p (omega (arith, ints))) in
          let b_is : b ≡ place_at groups (x +ℤ pos 1) = some_is (sym f ∙ slot_at (x +ℤ pos 1) (omega (arith, ints)) (omega (arith, ints))) in
          let alike : names_of_slot groups a ≡ names_of_slot groups b = list_is (names_of_slot groups a) (names_of_slot groups b) k in
          let here = held_there x p (omega (arith, ints)) in
          let there = held_there (x +ℤ pos 1) (omega (arith, ints)) (omega (arith, ints)) in
          let one : h x ≡ h (x +ℤ pos 1) = sym here ∙ (ap (names_of_slot groups) (sym a_is) ∙ (alike ∙ (ap (names_of_slot groups) b_is ∙ there))) in
          let same : a ≡ b = a_is ∙ (one_slot x p q one ∙ sym b_is) in
          let itself : option_eq nat_eq a b ≡ true = ap (option_eq nat_eq a) (sym same) ∙ place_itself a in
          absurd cc

  pub rows_canonical : IsCanonicalMap (pointwise nat_eq) lo hi (rows_of_table groups slots)
  rows_canonical = revalued_canonical (names_of_slot groups) (option_eq nat_eq) (pointwise nat_eq) hi lo slots slots_canonical slots_apart

-- rows with the names that hold at each number are the rows of the segments
row_read : (rows : List ((ℤ × ℤ) × List ℕ)) → map row_of (map segment_of rows) ≡ rows
row_read [] = refl
row_read (row ∷ rows) = ap (λ rest. row ∷ rest) (row_read rows)

pub rows_are_segments : (lo hi : ℤ) (n : ℕ) (h : ℤ → List ℕ) (rows : List ((ℤ × ℤ) × List ℕ)) → hi ≡ lo +ℤ pos n → IsCanonicalMap (pointwise nat_eq) lo hi rows
    → ((x : ℤ) → lo ≤ℤ x → x ≤ℤ hi → value_at rows x ≡ Some (h x)) → rows ≡ map row_of (segments (pointwise nat_eq) h lo n)
rows_are_segments lo hi n h rows e canonical values =
    let segmented = total_is_segments (pointwise nat_eq) list_is list_itself h hi lo n rows e canonical (λ x p q. ap (λ r. option_eq (pointwise nat_eq) r (Some (h x))) (values x p q) ∙ list_itself (h x)) in
    sym (row_read rows) ∙ ap (map row_of) segmented

-- groups of what holds, and of the places of their ranges, in terms of the names that hold
pub grouped_held : (lo hi : ℤ) (holders : List ((ℤ × ℤ) × ℕ)) (groups : List ((ℤ × ℤ) × List ℕ)) (h : ℤ → List ℕ) → ((x : ℤ) → grouped_at holders x ≡ h x)
    → HasValues (pointwise nat_eq) (λ x. group_of (grouped_at holders x)) lo hi groups → HasValues (pointwise nat_eq) (λ x. group_of (h x)) lo hi groups
grouped_held lo hi holders groups h e v = λ x p q. subst (λ vs. option_eq (pointwise nat_eq) (value_at groups x) (group_of vs) ≡ true) (e x) (v x p q)

pub placed_groups : (lo hi : ℤ) (list places : List ((ℤ × ℤ) × ℕ)) (groups : List ((ℤ × ℤ) × List ℕ)) → list ≡ with_places 0 groups
    → HasValues nat_eq (last_value_at (pairs_in_numbers (signed w64) list)) lo hi places → HasValues nat_eq (value_at (reverse (with_places 0 groups))) lo hi places
placed_groups lo hi list places groups e v = subst (λ l. HasValues nat_eq (value_at (reverse l)) lo hi places) (numbers_are list ∙ e) v
