-- Ranges made of cuts, two cuts a range: those made, and those that the cuts to come give.
use Rattle.std.proofs.Common.{◌≡◌, List, [], ◌∷◌, ◌++◌, map, refl, ap, arith, sym, ◌∙◌, append_assoc, append-nil}
use Rattle.std.specs.Prelude.{ℤ, pos, ◌+ℤ◌, ◌-ℤ◌, Option, Some, None, option_map, IfSome, IfNone}
use Rattle.std.specs.Borrow.{Bor}
use Rattle.std.specs.Option.{option_to_list, option_copied}
use Rattle.std.specs.Slice.Iter.{iter_rest, iter_steps}
use Rattle.std.specs.declared.slice.Iter.{Iter}
use Rattle.std.proofs.lemmas.Int.{ints}
use Rattle.std.proofs.lemmas.List.{nil_from_length}
use Rattle.element_core.specs.Numbering.{Numbering}
use Rattle.range_map.specs.Range.{in_numbers}
use Rattle.range_map.specs.Set.{all_in_numbers}
use Rattle.cut_points.specs.Cuts.{IsAscending, from_cuts}
use Rattle.cut_points.proofs.CutLemmas.{ascending_from}

-- the next of the items, if there is one, and those that are left behind it
pub next_number : {T : Type 0} (number : T → ℤ) (s t : Iter T) (r : Option (Bor T)) → iter_steps s r t
    → IfSome (option_copied r) (λ cut. map number (iter_rest s) ≡ number cut ∷ map number (iter_rest t))
    × IfNone (option_copied r) ((map number (iter_rest s) ≡ []) × (map number (iter_rest t) ≡ []))
next_number number s t None steps =
    let none : iter_rest s ≡ [] = nil_from_length (iter_rest s) steps.0 in
    (tt, (ap (map number) none, rw steps.1 (ap (map number) none)))
next_number number s t (Some x) steps = (ap (map number) steps, tt)

-- the next cut begins the range r, and the one after it, if there is one, ends it
module _ {T : Type 0} (number : T → ℤ) (hi : ℤ) (r : ℤ × ℤ) (start : ℤ) (after : Option T) (before mid rest : List ℤ)
    (first : before ≡ start ∷ mid) (second : IfSome after (λ cut. mid ≡ number cut ∷ rest)) (none : IfNone after ((mid ≡ []) × (rest ≡ []))) where
  pub still_ascends : (lo : ℤ) → IsAscending lo hi before → IsAscending lo hi rest
  still_ascends lo a = at after second none
    where
      at : (after : Option T) → IfSome after (λ cut. mid ≡ number cut ∷ rest) → IfNone after ((mid ≡ []) × (rest ≡ [])) → IsAscending lo hi rest
      at None s n = rw n.1 tt
      at (Some cut) s n =
          let b : IsAscending lo hi (start ∷ number cut ∷ rest) = rw (first, s) at a in
          ascending_from (number cut +ℤ pos 1) lo hi rest (omega (arith, ints)) b.2.2

  pub one_more : (made all : List (ℤ × ℤ)) → r ∷ [] ≡ from_cuts hi (start ∷ option_to_list (option_map number after)) → made ++ from_cuts hi before ≡ all
      → (made ++ r ∷ []) ++ from_cuts hi rest ≡ all
  one_more made all e same = append_assoc made (r ∷ []) (from_cuts hi rest) ∙ (ap (λ l. made ++ l) (at after second none e) ∙ same)
    where
      at : (after : Option T) → IfSome after (λ cut. mid ≡ number cut ∷ rest) → IfNone after ((mid ≡ []) × (rest ≡ []))
          → r ∷ [] ≡ from_cuts hi (start ∷ option_to_list (option_map number after)) → r ∷ from_cuts hi rest ≡ from_cuts hi before
      at None s n e = rw (first, n.0, n.1) e
      at (Some cut) s n e =
          let is : r ≡ (start, number cut -ℤ pos 1) = cc in
          rw (first, s, is) refl

module _ {T : Type 0} (n : Numbering T) where
  pub numbers_push : (ranges : List (T × T)) (r : T × T) → all_in_numbers n (ranges ++ r ∷ []) ≡ all_in_numbers n ranges ++ in_numbers n r ∷ []
  numbers_push [] r = refl
  numbers_push (s ∷ rest) r = ap (λ l. in_numbers n s ∷ l) (numbers_push rest r)

-- no cut is to come
pub all_made : (hi : ℤ) (made all : List (ℤ × ℤ)) (rest : List ℤ) → rest ≡ [] → made ++ from_cuts hi rest ≡ all → made ≡ all
all_made hi made all rest e same = sym (append-nil made) ∙ ap (λ l. made ++ from_cuts hi l) (sym e) ∙ same
