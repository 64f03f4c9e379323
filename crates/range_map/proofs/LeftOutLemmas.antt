-- Numbers that are left out of a set one after another: the gaps between them, and whether one was less than the one before it.
use Rattle.std.proofs.Common.{◌≡◌, List, [], ◌∷◌, ◌++◌, refl, ap, sym, ◌∙◌, arith, inl, inr}
use Rattle.std.specs.Prelude.{ℤ, pos, ◌+ℤ◌, ◌-ℤ◌, ◌≤ℤ◌, ◌<ℤ◌, Bool, true, false, not, ◌&&◌, ◌||◌, int_le, Option, Some, None, IfSome}
use Rattle.std.specs.Bool.{MatchBool}
use Rattle.std.specs.Option.{option_map}
use Rattle.std.specs.Ordering.{int_eq}
use Rattle.std.proofs.lemmas.Int.{ints, by_lt_z}
use Rattle.std.proofs.lemmas.List.{map-append}
use Rattle.std.proofs.Math.Bool.{or-false}
use Rattle.element_core.specs.Numbering.{Numbering}
use Rattle.number_line.specs.Ranges.{lies_in, holds, IsCanonical}
use Rattle.number_line.specs.Except.{never_fall_from, never_fall, is_among, IsAllBut}
use Rattle.range_map.specs.LeftOut.{number_after}
use Rattle.range_map.specs.Merging.{EndApart, IsGapPushed}
use Rattle.range_map.specs.Sweep.{numbers_of}
use Rattle.range_map.proofs.CanonicalLemmas.{to_higher, above_end, apart_from_end, holds-push, canonical-push}

-- ---- in order

abbrev last_from : ℤ → List ℤ → ℤ
last_from n [] = n
last_from n (x ∷ rest) = last_from x rest

-- the last of the numbers, if there is one
abbrev pub last_of : List ℤ → Option ℤ
last_of [] = None
last_of (x ∷ rest) = Some (last_from x rest)

abbrev follows : Option ℤ → ℤ → Bool
follows None x = true
follows (Some last) x = int_le last x

and_assoc : (a b c : Bool) → (a && (b && c)) ≡ ((a && b) && c)
and_assoc true b c = refl
and_assoc false b c = refl

and_true : (a : Bool) → a ≡ (a && true)
and_true true = refl
and_true false = refl

falls_from : (n : ℤ) (given : List ℤ) (x : ℤ) → never_fall_from n (given ++ x ∷ []) ≡ (never_fall_from n given && int_le (last_from n given) x)
falls_from n [] x = sym (and_true (int_le n x))
falls_from n (y ∷ rest) x = ap (λ b. int_le n y && b) (falls_from y rest x) ∙ and_assoc (int_le n y) (never_fall_from y rest) (int_le (last_from y rest) x)

falls_push : (given : List ℤ) (x : ℤ) → never_fall (given ++ x ∷ []) ≡ (never_fall given && follows (last_of given) x)
falls_push [] x = refl
falls_push (y ∷ rest) x = falls_from y rest x

last_from_push : (n : ℤ) (given : List ℤ) (x : ℤ) → last_from n (given ++ x ∷ []) ≡ x
last_from_push n [] x = refl
last_from_push n (y ∷ rest) x = last_from_push y rest x

last_push : (given : List ℤ) (x : ℤ) → last_of (given ++ x ∷ []) ≡ Some x
last_push [] x = refl
last_push (y ∷ rest) x = ap (λ n. Some n) (last_from_push y rest x)

among_push : (given : List ℤ) (x y : ℤ) → is_among (given ++ x ∷ []) y ≡ (is_among given y || int_eq x y)
among_push [] x y = or-false (int_eq x y)
among_push (z ∷ rest) x y = ap (λ b. int_eq z y || b) (among_push rest x y) ∙ or_assoc (int_eq z y) (is_among rest y) (int_eq x y)
  where
    or_assoc : (a b c : Bool) → (a || (b || c)) ≡ ((a || b) || c)
    or_assoc true b c = refl
    or_assoc false b c = refl

-- ---- left out

module _ (lo hi : ℤ) where
  -- `out` holds the numbers from lo to below n that aren't among the given ones, none of which is n or above
  pub record IsLeftOutTo (given : List ℤ) (n : ℤ) (out : List (ℤ × ℤ)) : Type 0 where
    pub from_lo : lo ≤ℤ n
    pub canonical : IsCanonical lo (n -ℤ pos 2) out
    pub within : IsCanonical lo hi out
    pub below : (x : ℤ) → lo ≤ℤ x → x <ℤ n → holds out x ≡ not (is_among given x)
    pub above : (x : ℤ) → n ≤ℤ x → is_among given x ≡ false
    pub last : (x : ℤ) → lo ≤ℤ x → x +ℤ pos 1 ≡ n → is_among given x ≡ true

  left_out_start : IsLeftOutTo [] lo []
  left_out_start = record {
    from_lo = omega (arith, ints);
    canonical = tt;
    within = tt;
    below = λ x p q. absurd (omega (arith, ints, p, q));
    above = λ x p. refl;
    last = λ x p e. absurd (omega (arith, ints, p, e));
  }

  module _ (given : List ℤ) (n : ℤ) (out : List (ℤ × ℤ)) (so_far : IsLeftOutTo given n out) where
    nothing_above : (x : ℤ) → n ≤ℤ x → holds out x ≡ false
    nothing_above x h = above_end lo (n -ℤ pos 2) out x so_far.canonical (omega (arith, ints, h))

    pub left_out_apart : EndApart n out
    left_out_apart = apart_from_end lo (n -ℤ pos 2) n out so_far.canonical (omega (arith, ints))

    outside : (g : ℤ × ℤ) (x : ℤ) → x <ℤ g.0 → lies_in g x ≡ false
    outside g x h = grind (arith, ints)

    beyond : (g : ℤ × ℤ) (x : ℤ) → g.1 <ℤ x → lies_in g x ≡ false
    beyond g x h = grind (arith, ints)

    inside : (g : ℤ × ℤ) (x : ℤ) → g.0 ≤ℤ x → x ≤ℤ g.1 → lies_in g x ≡ true
    inside g x h k = grind (arith, ints)

    -- with the gap from n up to below x, the numbers below x
    gap_below : (g : ℤ × ℤ) (x y : ℤ) → g.0 ≡ n → g.1 +ℤ pos 1 ≡ x → lo ≤ℤ y → y <ℤ x → holds (out ++ g ∷ []) y ≡ not (is_among given y)
    gap_below g x y e f low less = by_lt_z y n
        (λ u. holds-push out g y ∙ rw (outside g y (omega (arith, ints, e, u)), or-false (holds out y)) (so_far.below y low u))
        (λ u. holds-push out g y ∙ rw (nothing_above y u, inside g y (omega (arith, ints, e, u)) (omega (arith, ints, f, less)), so_far.above y u) refl)

    gap_at : (g : ℤ × ℤ) (y : ℤ) → n ≤ℤ y → g.1 <ℤ y → holds (out ++ g ∷ []) y ≡ false
    gap_at g y u h = holds-push out g y ∙ rw (nothing_above y u, beyond g y h) refl

    -- x itself isn't held
    not_x : (x : ℤ) (new : List (ℤ × ℤ)) → holds new x ≡ false → holds new x ≡ not (is_among (given ++ x ∷ []) x)
    not_x x new none =
        let itself : int_eq x x ≡ true = grind (arith, ints) in
        none ∙ rw (among_push given x x, itself) (at (is_among given x))
      where
        at : (b : Bool) → false ≡ not (b || true)
        at true = refl
        at false = refl

    other : (x y : ℤ) (new : List (ℤ × ℤ)) → y <ℤ x → holds new y ≡ not (is_among given y) → holds new y ≡ not (is_among (given ++ x ∷ []) y)
    other x y new less h =
        let differs : int_eq x y ≡ false = grind (arith, ints) in
        rw (among_push given x y, differs, or-false (is_among given y)) h

    same_number : (x y : ℤ) → y <ℤ (x +ℤ pos 1) → x ≤ℤ y → y ≡ x
    same_number x y h k = omega (arith, ints, h, k)

    step_same : (x : ℤ) → lo ≤ℤ x → n ≤ℤ (x +ℤ pos 1) → x ≤ℤ n → (y : ℤ) → lo ≤ℤ y → y <ℤ (x +ℤ pos 1) → holds out y ≡ not (is_among (given ++ x ∷ []) y)
    step_same x low after h y p q = by_lt_z y x
        (λ u. other x y out u (so_far.below y p (omega (arith, ints, u, h))))
        (λ u.
        let e : x ≡ y = sym (same_number x y q u) in
        rw (← e) (not_x x out (by_lt_z x n
        (λ v. so_far.below x low v ∙ ap not (so_far.last x low (omega (arith, ints, v, after))))
        (λ v. nothing_above x v))))

    step_gap : (g : ℤ × ℤ) (x : ℤ) → g.0 ≡ n → g.1 +ℤ pos 1 ≡ x → g.0 ≤ℤ g.1 → (y : ℤ) → lo ≤ℤ y → y <ℤ (x +ℤ pos 1) → holds (out ++ g ∷ []) y ≡ not (is_among (given ++ x ∷ []) y)
    step_gap g x e f o y p q = by_lt_z y x
        (λ u. other x y (out ++ g ∷ []) u (gap_below g x y e f p u))
        (λ u.
        let same : x ≡ y = sym (same_number x y q u) in
        rw (← same) (not_x x (out ++ g ∷ []) (gap_at g x (omega (arith, ints, e, f, o)) (omega (arith, ints, f)))))

    step_above : (x : ℤ) → n ≤ℤ (x +ℤ pos 1) → (y : ℤ) → (x +ℤ pos 1) ≤ℤ y → is_among (given ++ x ∷ []) y ≡ false
    step_above x after y h =
        let differs : int_eq x y ≡ false = grind (arith, ints) in
        rw (among_push given x y, differs, or-false (is_among given y)) (so_far.above y (omega (arith, ints, after, h)))

    step_last : (x : ℤ) (y : ℤ) → lo ≤ℤ y → y +ℤ pos 1 ≡ x +ℤ pos 1 → is_among (given ++ x ∷ []) y ≡ true
    step_last x y low e =
        let is : y ≡ x = omega (arith, ints, e) in
        let same : int_eq x x ≡ true = grind (arith, ints) in
        rw (is, among_push given x x, same) (at (is_among given x))
      where
        at : (b : Bool) → (b || true) ≡ true
        at true = refl
        at false = refl

    -- one number more
    pub left_out_step : (x : ℤ) (new : List (ℤ × ℤ)) → lo ≤ℤ x → x ≤ℤ hi → n ≤ℤ (x +ℤ pos 1) → IsGapPushed out n x new → IsLeftOutTo (given ++ x ∷ []) (x +ℤ pos 1) new
    left_out_step x new low high after (inl h) = rw h.0 record {
      from_lo = omega (arith, ints, low);
      canonical = to_higher lo (n -ℤ pos 2) ((x +ℤ pos 1) -ℤ pos 2) out (omega (arith, ints, after)) so_far.canonical;
      within = so_far.within;
      below = step_same x low after h.1;
      above = step_above x after;
      last = step_last x;
    }
    left_out_step x new low high after (inr (g, e, p, q, h)) =
        let before : IsCanonical lo (g.0 -ℤ pos 2) out = rw p so_far.canonical in
        let from : lo ≤ℤ g.0 = rw p so_far.from_lo in
        rw e record {
          from_lo = omega (arith, ints, low);
          canonical = canonical-push lo ((x +ℤ pos 1) -ℤ pos 2) out g before from h (omega (arith, ints, q));
          within = canonical-push lo hi out g before from h (omega (arith, ints, q, high));
          below = step_gap g x p q h;
          above = step_above x after;
          last = step_last x;
        }

    -- and no more
    pub left_out_end : (new : List (ℤ × ℤ)) → IsGapPushed out n (hi +ℤ pos 1) new → IsAllBut lo hi given new
    left_out_end new (inl h) = rw h.0 record { canonical = so_far.within; members = λ x p q. so_far.below x p (omega (arith, ints, q, h.1)) }
    left_out_end new (inr (g, e, p, q, h)) =
        let before : IsCanonical lo (g.0 -ℤ pos 2) out = rw p so_far.canonical in
        let from : lo ≤ℤ g.0 = rw p so_far.from_lo in
        rw e record {
          canonical = canonical-push lo hi out g before from h (omega (arith, ints, q));
          members = λ x u v. gap_below g (hi +ℤ pos 1) x p q u (omega (arith, ints, v));
        }

-- ---- values of a numbered type

module _ {T : Type 0} (numbers : Numbering T) where
  -- the values given so far came in order, up to `last`, and `out` are the gaps between them
  pub record IsInOrderTo (given : List T) (last : Option T) (out : List (ℤ × ℤ)) : Type 0 where
    pub in_order : never_fall (numbers_of numbers given) ≡ true
    pub last_is : last_of (numbers_of numbers given) ≡ option_map numbers.number last
    pub left_out : IsLeftOutTo numbers.least numbers.greatest (numbers_of numbers given) (number_after numbers last) out

  -- or one of them was less than the one before it
  abbrev pub IsWalkedTo : Bool → List T → Option T → List (ℤ × ℤ) → Type 0
  IsWalkedTo falls given last out = MatchBool falls (never_fall (numbers_of numbers given) ≡ false) (IsInOrderTo given last out)

  pub walk_start : IsInOrderTo [] None []
  walk_start = record { in_order = refl; last_is = refl; left_out = left_out_start numbers.least numbers.greatest }

  numbers-push : (given : List T) (x : T) → numbers_of numbers (given ++ x ∷ []) ≡ numbers_of numbers given ++ numbers.number x ∷ []
  numbers-push given x = map-append numbers.number given (x ∷ [])

  -- what fell stays fallen
  pub walk_fallen : (given : List T) (x : T) → never_fall (numbers_of numbers given) ≡ false → never_fall (numbers_of numbers (given ++ x ∷ [])) ≡ false
  walk_fallen given x h = rw (numbers-push given x, falls_push (numbers_of numbers given) (numbers.number x), h) refl

  below-less : (a b : ℤ) → b <ℤ a → int_le a b ≡ false
  below-less a b h = grind (arith, ints)

  not_below-most : (a b : ℤ) → a ≤ℤ b → int_le a b ≡ true
  not_below-most a b k = grind (arith, ints)

  less_follows : (o : Option T) (v x : T) → o ≡ Some v → numbers.number x <ℤ numbers.number v → follows (option_map numbers.number o) (numbers.number x) ≡ false
  less_follows o v x is less = rw is (below-less (numbers.number v) (numbers.number x) less)

  not_less_follows : (o : Option T) (x : T) → IfSome o (λ v. numbers.number v ≤ℤ numbers.number x) → numbers.least ≤ℤ numbers.number x
      → (follows (option_map numbers.number o) (numbers.number x) ≡ true) × (number_after numbers o ≤ℤ (numbers.number x +ℤ pos 1))
  not_less_follows None x h low = (refl, omega (arith, ints, low))
  not_less_follows (Some v) x h low = (not_below-most (numbers.number v) (numbers.number x) h, omega (arith, ints, h))

  module _ (given : List T) (last : Option T) (out : List (ℤ × ℤ)) (x : T) (so_far : IsInOrderTo given last out) where
    fallen_or_not : never_fall (numbers_of numbers (given ++ x ∷ [])) ≡ follows (option_map numbers.number last) (numbers.number x)
    fallen_or_not = rw (numbers-push given x, falls_push (numbers_of numbers given) (numbers.number x), so_far.in_order, so_far.last_is) refl

    -- x is less than the last one
    pub walk_falls : (v : T) → last ≡ Some v → numbers.number x <ℤ numbers.number v → never_fall (numbers_of numbers (given ++ x ∷ [])) ≡ false
    walk_falls v is less = fallen_or_not ∙ less_follows last v x is less

    pub walk_step : (new : List (ℤ × ℤ)) → IfSome last (λ v. numbers.number v ≤ℤ numbers.number x) → numbers.least ≤ℤ numbers.number x → numbers.number x ≤ℤ numbers.greatest
        → IsGapPushed out (number_after numbers last) (numbers.number x) new → IsInOrderTo (given ++ x ∷ []) (Some x) new
    walk_step new not_below low high pushed =
        let after = not_less_follows last x not_below low in
        record {
          in_order = fallen_or_not ∙ after.0;
          last_is = rw (numbers-push given x) (last_push (numbers_of numbers given) (numbers.number x));
          left_out = rw (numbers-push given x)
              (left_out_step numbers.least numbers.greatest (numbers_of numbers given) (number_after numbers last) out so_far.left_out (numbers.number x) new low high after.1 pushed);
        }
