-- The numbers between two ends that no range of a canonical list holds.
use Rattle.std.proofs.Common.{◌≡◌, List, [], ◌∷◌, ◌++◌, arith, ◌∙◌, inl, inr}
use Rattle.std.specs.Prelude.{ℤ, pos, ◌+ℤ◌, ◌-ℤ◌, ◌≤ℤ◌, ◌<ℤ◌, true, false, not}
use Rattle.std.proofs.lemmas.Int.{ints, by_lt_z}
use Rattle.std.proofs.Math.Bool.{or-false}
use Rattle.number_line.specs.Ranges.{lies_in, holds, IsCanonical}
use Rattle.number_line.proofs.RangeLemmas.{below_start, from_lower, first_holds, rest_holds}
use Rattle.element_core.specs.Numbering.{Numbering}
use Rattle.range_map.specs.Range.{IsRange, in_numbers}
use Rattle.range_map.specs.Set.{all_in_numbers}
use Rattle.range_map.specs.Merging.{EndApart, IsGapPushed}
use Rattle.range_map.proofs.CanonicalLemmas.{to_higher, above_end, apart_from_end, holds-push, canonical-push}

inside : (r : ℤ × ℤ) (x : ℤ) → r.0 ≤ℤ x → x ≤ℤ r.1 → lies_in r x ≡ true
inside r x p q = grind (arith, ints)

before : (r : ℤ × ℤ) (x : ℤ) → x <ℤ r.0 → lies_in r x ≡ false
before r x h = grind (arith, ints)

behind : (r : ℤ × ℤ) (x : ℤ) → r.1 <ℤ x → lies_in r x ≡ false
behind r x h = grind (arith, ints)

-- `out` holds the numbers from lo to below `floor` that `all` doesn't hold, and `rest` is what `all` holds from there on
pub record IsComplement (lo hi : ℤ) (all out rest : List (ℤ × ℤ)) (floor : ℤ) : Type 0 where
  pub canonical : IsCanonical lo (floor -ℤ pos 2) out
  pub rest_canonical : IsCanonical floor hi rest
  pub from_lo : lo ≤ℤ floor
  pub below : (x : ℤ) → lo ≤ℤ x → x <ℤ floor → holds out x ≡ not (holds all x)
  pub above : (x : ℤ) → floor ≤ℤ x → holds all x ≡ holds rest x

module _ (lo hi : ℤ) (all : List (ℤ × ℤ)) where
  module _ (out : List (ℤ × ℤ)) (floor : ℤ) where
    out_above : (rest : List (ℤ × ℤ)) → IsComplement lo hi all out rest floor → (x : ℤ) → floor ≤ℤ x → holds out x ≡ false
    out_above rest c x h = above_end lo (floor -ℤ pos 2) out x c.canonical (omega (arith, ints))

    -- a range more in `out`, from the floor on, and the numbers up to its end
    push_below : (g : ℤ × ℤ) (rest : List (ℤ × ℤ)) → IsComplement lo hi all out rest floor → g.0 ≡ floor
        → (x : ℤ) → lo ≤ℤ x → x <ℤ floor → holds (out ++ g ∷ []) x ≡ not (holds all x)
    push_below g rest c e x p q = holds-push out g x ∙ rw (before g x (omega (arith, ints)), or-false (holds out x)) (c.below x p q)

    push_above : (g : ℤ × ℤ) (rest : List (ℤ × ℤ)) → IsComplement lo hi all out rest floor
        → (x : ℤ) → floor ≤ℤ x → holds (out ++ g ∷ []) x ≡ lies_in g x
    push_above g rest c x h = holds-push out g x ∙ rw (out_above rest c x h)

    module _ (r : ℤ × ℤ) (rest : List (ℤ × ℤ)) (c : IsComplement lo hi all out (r ∷ rest) floor) where
      after : IsCanonical (r.1 +ℤ pos 1) hi rest
      after = from_lower (r.1 +ℤ pos 2) (r.1 +ℤ pos 1) hi rest (omega (arith, ints)) c.rest_canonical.3

      above_after : (x : ℤ) → (r.1 +ℤ pos 1) ≤ℤ x → holds all x ≡ holds rest x
      above_after x h =
          let low : floor ≤ℤ r.0 = c.rest_canonical.0 in
          let ordered : r.0 ≤ℤ r.1 = c.rest_canonical.1 in
          c.above x (omega (arith, ints)) ∙ rest_holds r rest x (omega (arith, ints))

      -- the next range begins at the floor: no gap
      skipped : r.0 ≤ℤ floor → IsComplement lo hi all out rest (r.1 +ℤ pos 1)
      skipped h =
          let low : floor ≤ℤ r.0 = c.rest_canonical.0 in
          let ordered : r.0 ≤ℤ r.1 = c.rest_canonical.1 in
          let from_lo = c.from_lo in
          record {
            canonical = to_higher lo (floor -ℤ pos 2) ((r.1 +ℤ pos 1) -ℤ pos 2) out (omega (arith, ints)) c.canonical;
            rest_canonical = after;
            from_lo = omega (arith, ints);
            below = λ x p q. by_lt_z x floor
                (λ u. c.below x p u)
                (λ u. out_above (r ∷ rest) c x u ∙ rw (c.above x u, first_holds r rest x (omega (arith, ints)) (omega (arith, ints))));
            above = above_after;
          }

      -- the gap from the floor to below the next range
      pushed : (g : ℤ × ℤ) → g.0 ≡ floor → g.1 +ℤ pos 1 ≡ r.0 → g.0 ≤ℤ g.1 → IsComplement lo hi all (out ++ g ∷ []) rest (r.1 +ℤ pos 1)
      pushed g e f h =
          let low : floor ≤ℤ r.0 = c.rest_canonical.0 in
          let ordered : r.0 ≤ℤ r.1 = c.rest_canonical.1 in
          let from_lo = c.from_lo in
          record {
            canonical = canonical-push lo ((r.1 +ℤ pos 1) -ℤ pos 2) out g (rw e c.canonical) (omega (arith, ints)) h (omega (arith, ints));
            rest_canonical = after;
            from_lo = omega (arith, ints);
            below = λ x p q. by_lt_z x floor
                (λ u. push_below g (r ∷ rest) c e x p u)
                (λ u. push_above g (r ∷ rest) c x u ∙ rw (c.above x u) (by_lt_z x r.0
                (λ v. rw (
                  inside g x (omega (arith, ints)) (omega (arith, ints)),
                  below_start r.0 hi (r ∷ rest) x (omega (arith, ints), c.rest_canonical.1, c.rest_canonical.2, c.rest_canonical.3) v,
                ))
                (λ v. rw (behind g x (omega (arith, ints)), first_holds r rest x v (omega (arith, ints))))));
            above = above_after;
          }

      pub complement_step : (new : List (ℤ × ℤ)) → IsGapPushed out floor r.0 new → IsComplement lo hi all new rest (r.1 +ℤ pos 1)
      complement_step new (inl h) = rw h.0 (skipped h.1)
      complement_step new (inr (g, e, p, q, h)) = rw e (pushed g p q h)

    pub complement_apart : (rest : List (ℤ × ℤ)) → IsComplement lo hi all out rest floor → EndApart floor out
    complement_apart rest c = apart_from_end lo (floor -ℤ pos 2) floor out c.canonical (omega (arith, ints))

    -- nothing is left, and the floor is past the end
    pub complement_full : (rest : List (ℤ × ℤ)) → IsComplement lo hi all out rest floor → floor ≡ hi +ℤ pos 1
        → IsCanonical lo hi out × ((x : ℤ) → lo ≤ℤ x → x ≤ℤ hi → holds out x ≡ not (holds all x))
    complement_full rest c e =
        (to_higher lo (floor -ℤ pos 2) hi out (omega (arith, ints)) c.canonical, (λ x p q. c.below x p (omega (arith, ints))))

    -- nothing is left, and a last range goes from the floor to the end
    pub complement_end : (g : ℤ × ℤ) → IsComplement lo hi all out [] floor → g.0 ≡ floor → g.1 ≡ hi → g.0 ≤ℤ g.1
        → IsCanonical lo hi (out ++ g ∷ []) × ((x : ℤ) → lo ≤ℤ x → x ≤ℤ hi → holds (out ++ g ∷ []) x ≡ not (holds all x))
    complement_end g c e f h =
        let from_lo = c.from_lo in (
          canonical-push lo hi out g (rw e c.canonical) (omega (arith, ints)) h (omega (arith, ints)),
          (λ x p q. by_lt_z x floor
              (λ u. push_below g [] c e x p u)
              (λ u. push_above g [] c x u ∙ rw (c.above x u) (inside g x (omega (arith, ints)) (omega (arith, ints))))),
        )

-- the same of ranges of a numbered type
module _ {T : Type 0} (numbers : Numbering T) (all : List (T × T)) (out : List (ℤ × ℤ)) where
  pub after_gap : (new : List (ℤ × ℤ)) (rest behind : List (T × T)) (range : T × T) (floor : ℤ) → rest ≡ range ∷ behind
      → IsComplement numbers.least numbers.greatest (all_in_numbers numbers all) out (all_in_numbers numbers rest) floor
      → IsGapPushed out floor (numbers.number range.0) new
      → IsComplement numbers.least numbers.greatest (all_in_numbers numbers all) new (all_in_numbers numbers behind) (numbers.number range.1 +ℤ pos 1)
  after_gap new rest behind range floor is c pushed =
      complement_step numbers.least numbers.greatest (all_in_numbers numbers all) out floor (in_numbers numbers range) (all_in_numbers numbers behind)
      (rw is at c) new pushed

  pub up_to_greatest : (last : T × T) (floor : ℤ)
      → IsComplement numbers.least numbers.greatest (all_in_numbers numbers all) out [] floor
      → IsRange numbers last → numbers.number last.0 ≡ floor → numbers.number last.1 ≡ numbers.greatest
      → IsCanonical numbers.least numbers.greatest (out ++ in_numbers numbers last ∷ [])
      × ((x : ℤ) → numbers.least ≤ℤ x → x ≤ℤ numbers.greatest → holds (out ++ in_numbers numbers last ∷ []) x ≡ not (holds (all_in_numbers numbers all) x))
  up_to_greatest last floor c range e f =
      complement_end numbers.least numbers.greatest (all_in_numbers numbers all) out floor (in_numbers numbers last) c e f range.ordered
