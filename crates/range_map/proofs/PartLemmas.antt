-- The parts of a pair in the ranges of a set: those from the first that doesn't end before it, up to the first that begins behind it.
use Rattle.std.proofs.Common.{◌≡◌, true, false, List, [], ◌∷◌, ◌++◌, refl, ap, sym, ◌∙◌, arith, append_assoc, append-nil}
use Rattle.std.specs.Prelude.{ℤ, pos, ◌+ℤ◌, ◌≤ℤ◌, ◌<ℤ◌, ◌&&◌}
use Rattle.std.specs.Int.{int_min, int_max}
use Rattle.std.proofs.lemmas.Int.{ints}
use Rattle.number_line.specs.Ranges.{lies_in, IsCanonical}
use Rattle.number_line.specs.Kept.{overlaps}
use Rattle.number_line.specs.Parts.{common, parts, all_with, parts_of_pairs, IsPairClone}
use Rattle.number_line.proofs.CloneLemmas.{zipped_append}
use Rattle.number_line.proofs.PartLemmas.{parts_past, part_first}
use Rattle.number_line.proofs.ZippedLemmas.{IsZipped, zipped_start, zipped_step, zipped_end}
use Rattle.range_map.specs.Changing.{IsPartsPushed}
use Rattle.range_map.specs.Merging.{EndFrom}

-- ---- one range after another

-- of a canonical list whose ranges don't end before r none has a part in r where the first has none
pub no_part : (r s : ℤ × ℤ) (lo hi : ℤ) (rest : List (ℤ × ℤ)) → r.0 ≤ℤ r.1 → IsCanonical lo hi (s ∷ rest) → r.0 ≤ℤ s.1 → ((x : ℤ) → (lies_in r x && lies_in s x) ≡ false)
    → parts r (s ∷ rest) ≡ []
no_part r s lo hi rest ordered c ends none = parts_past r s.0 hi (s ∷ rest) (omega (arith, ints), c.1, c.2, c.3) (apart r s ordered c.1 ends (none (int_max r.0 s.0)))
  where
    apart : (r s : ℤ × ℤ) → r.0 ≤ℤ r.1 → s.0 ≤ℤ s.1 → r.0 ≤ℤ s.1 → (lies_in r (int_max r.0 s.0) && lies_in s (int_max r.0 s.0)) ≡ false → r.1 <ℤ s.0
    apart r s e f g h = grind (arith, ints)

-- where both begin no later than they end, they have a number in common
pub overlap : (r s : ℤ × ℤ) → int_max r.0 s.0 ≤ℤ int_min r.1 s.1 → overlaps r s ≡ true
overlap r s h = grind (arith, ints)

module _ {V : Type 0} (is_clone : V → V → Type 0) (old : List ((ℤ × ℤ) × V)) (r : ℤ × ℤ) (value : V) (lo hi : ℤ) (all : List (ℤ × ℤ)) where
  -- the parts of r in the ranges before `left` stand behind the old pairs
  pub record IsPartsTo (left : List (ℤ × ℤ)) (made : List ((ℤ × ℤ) × V)) : Type 0 where
    pub floor : ℤ
    pub canonical : IsCanonical floor hi left
    pub end_from : EndFrom r.0 left
    pub added : List ((ℤ × ℤ) × V)
    pub is : made ≡ old ++ added
    pub zipped : IsZipped (IsPairClone is_clone) (all_with value (parts r left)) (all_with value (parts r all)) added

  pub parts_start : IsCanonical lo hi all → EndFrom r.0 all → IsPartsTo all old
  parts_start c e = record {
    floor = lo;
    canonical = c;
    end_from = e;
    added = [];
    is = sym (append-nil old);
    zipped = zipped_start (IsPairClone is_clone) (all_with value (parts r all));
  }

  pub parts_step : (left rest : List (ℤ × ℤ)) (made new : List ((ℤ × ℤ) × V)) (s : ℤ × ℤ) (k : ℤ × ℤ) (copy : V) → left ≡ s ∷ rest → new ≡ made ++ (k, copy) ∷ []
      → k ≡ common r s → k.0 ≤ℤ k.1 → is_clone value copy → IsPartsTo left made → IsPartsTo rest new
  parts_step left rest made new s k copy is_left is_new is_common ordered clone so_far =
      let c = rw is_left at so_far.canonical in
      let e = rw is_left at so_far.end_from in
      let meets : overlaps r s ≡ true = overlap r s (rw is_common at ordered) in
      let first : all_with value (parts r left) ≡ (common r s, value) ∷ all_with value (parts r rest) = rw is_left (ap (all_with value) (part_first r s rest meets)) in
      record {
        floor = s.1 +ℤ pos 2;
        canonical = c.3;
        end_from = e.1;
        added = so_far.added ++ (k, copy) ∷ [];
        is = is_new ∙ (ap (λ l. l ++ (k, copy) ∷ []) so_far.is ∙ append_assoc old so_far.added ((k, copy) ∷ []));
        zipped = zipped_step (IsPairClone is_clone) _ _ _ _ _ (common r s, value) (k, copy) refl first (is_common, clone) so_far.zipped;
      }

  pub parts_all : (left : List (ℤ × ℤ)) (made : List ((ℤ × ℤ) × V)) → parts r left ≡ [] → IsPartsTo left made → IsPartsPushed is_clone old r value all made
  parts_all left made none so_far = record {
    added = so_far.added;
    is = so_far.is;
    clones = zipped_end (IsPairClone is_clone) _ _ _ (ap (all_with value) none) so_far.zipped;
  }

  -- nor is there a part where the first range that is left has none
  pub parts_end : (left rest : List (ℤ × ℤ)) (made : List ((ℤ × ℤ) × V)) (s : ℤ × ℤ) → left ≡ s ∷ rest → r.0 ≤ℤ r.1 → ((x : ℤ) → (lies_in r x && lies_in s x) ≡ false)
      → IsPartsTo left made → IsPartsPushed is_clone old r value all made
  parts_end left rest made s is_left ordered none so_far =
      let c = rw is_left at so_far.canonical in
      let e = rw is_left at so_far.end_from in
      parts_all left made (rw is_left (no_part r s so_far.floor hi rest ordered c e.0 none)) so_far

-- ---- one pair after another

pub pairs_step : {V : Type 0} (is_clone : V → V → Type 0) (left rest all made new : List ((ℤ × ℤ) × V)) (p : (ℤ × ℤ) × V) (ranges some : List (ℤ × ℤ)) → left ≡ p ∷ rest
    → parts p.0 some ≡ parts p.0 ranges → IsPartsPushed is_clone made p.0 p.1 some new
    → IsZipped (IsPairClone is_clone) (parts_of_pairs left ranges) (parts_of_pairs all ranges) made
    → IsZipped (IsPairClone is_clone) (parts_of_pairs rest ranges) (parts_of_pairs all ranges) new
pairs_step is_clone left rest all made new p ranges some is_left same pushed so_far =
    zipped_append (IsPairClone is_clone) _ (all_with p.1 (parts p.0 ranges)) _ _ _ _ pushed.added pushed.is (ap (λ l. parts_of_pairs l ranges) is_left)
    (rw same at pushed.clones) so_far
