-- The numbers that two canonical lists both hold.
use Rattle.std.proofs.Common.{◌≡◌, List, [], ◌∷◌, ◌++◌, refl, ap, arith, sym, ◌∙◌, inl, inr}
use Rattle.std.specs.Prelude.{ℤ, pos, ◌+ℤ◌, ◌-ℤ◌, ◌≤ℤ◌, ◌<ℤ◌, Bool, true, false, not, ◌&&◌, ◌||◌, int_le}
use Rattle.std.specs.Bool.{MatchBool, OnTrue}
use Rattle.std.specs.Int.{int_min, int_max}
use Rattle.std.proofs.lemmas.Int.{ints, by_lt_z}
use Rattle.std.proofs.Math.Bool.{or-false}
use Rattle.number_line.specs.Ranges.{lies_in, holds, IsCanonical}
use Rattle.number_line.proofs.RangeLemmas.{below_start, from_lower, first_holds}
use Rattle.range_map.specs.Merging.{EndApart, IsCommonPushed}
use Rattle.range_map.proofs.CanonicalLemmas.{to_higher, holds-push, canonical-push, apart_from_end}

-- `out` holds what the lists `a` and `b` both held before `left` and `right`, which are left of them
pub record IsCommon (lo hi : ℤ) (a b out left right : List (ℤ × ℤ)) : Type 0 where
  pub within : IsCanonical lo hi out
  pub members : (x : ℤ) → (holds out x || (holds left x && holds right x)) ≡ (holds a x && holds b x)
  pub left_canonical : IsCanonical lo hi left
  pub right_canonical : IsCanonical lo hi right
  pub top : ℤ
  pub canonical : IsCanonical lo top out
  pub past : (x : ℤ) → x ≤ℤ (top +ℤ pos 1) → (holds left x && holds right x) ≡ false

greater_start : (p q : ℤ × ℤ) → p.0 ≤ℤ p.1 → q.0 ≤ℤ q.1 → p.0 ≤ℤ q.1 → q.0 ≤ℤ p.1 → (lies_in p (int_max p.0 q.0) && lies_in q (int_max p.0 q.0)) ≡ true
greater_start p q e f g h = grind (arith, ints)

-- each range begins by the end of the other, and so both hold a number
pub shared_number : (b : Bool) (p q : ℤ × ℤ) → p.0 ≤ℤ p.1 → q.0 ≤ℤ q.1 → p.0 ≤ℤ q.1 → MatchBool b (p.1 <ℤ q.0) (q.0 ≤ℤ p.1)
    → OnTrue (not b) ((x : ℤ) × ((lies_in p x && lies_in q x) ≡ true))
shared_number true p q e f g h = tt
shared_number false p q e f g h = (int_max p.0 q.0, greater_start p q e f g h)

both_first : (x a b c d : ℤ) → (int_le (int_max a c) x && int_le x (int_min b d)) ≡ ((int_le a x && int_le x b) && (int_le c x && int_le x d))
both_first x a b c d = grind (arith, ints)

left_parts : (out a l b k : Bool) → (a && k) ≡ false → ((out || (a && b)) || (l && (b || k))) ≡ (out || ((a || l) && (b || k)))
left_parts true a l b k h = refl
left_parts false true l true k h = refl
left_parts false true true false k h = refl
left_parts false true false false k h = sym h
left_parts false false l b k h = refl

right_parts : (out a l b k : Bool) → (b && l) ≡ false → ((out || (a && b)) || ((a || l) && k)) ≡ (out || ((a || l) && (b || k)))
right_parts true a l b k h = refl
right_parts false true l true k h = refl
right_parts false true l false k h = refl
right_parts false false true true k h = absurd (cc)
right_parts false false true false k h = refl
right_parts false false false b k h = refl

less_left : (a l r : Bool) → ((a || l) && r) ≡ false → (l && r) ≡ false
less_left true true r h = h
less_left true false r h = refl
less_left false l r h = h

less_right : (l b k : Bool) → (l && (b || k)) ≡ false → (l && k) ≡ false
less_right true true k h = absurd (cc)
less_right true false k h = h
less_right false b k h = refl

no_left : (l r : Bool) → l ≡ false → (l && r) ≡ false
no_left l r e = rw e

no_right : (l r : Bool) → r ≡ false → (l && r) ≡ false
no_right true r e = e
no_right false r e = refl

module _ (lo hi : ℤ) (a b : List (ℤ × ℤ)) where
  pub common_start : IsCanonical lo hi a → IsCanonical lo hi b → IsCommon lo hi a b [] a b
  common_start p q = record {
    within = tt;
    members = λ x. refl;
    left_canonical = p;
    right_canonical = q;
    top = lo -ℤ pos 2;
    canonical = tt;
    past = λ x h. no_left (holds a x) (holds b x) (below_start lo hi a x p (omega (arith, ints)));
  }

  -- nothing is left of one list
  pub common_end : (out left right : List (ℤ × ℤ)) → IsCommon lo hi a b out left right → ((x : ℤ) → (holds left x && holds right x) ≡ false)
      → (x : ℤ) → holds out x ≡ (holds a x && holds b x)
  common_end out left right c none x = sym (or-false (holds out x)) ∙ (ap (λ t. holds out x || t) (sym (none x)) ∙ c.members x)

  module _ (out : List (ℤ × ℤ)) (p q : ℤ × ℤ) (l k : List (ℤ × ℤ)) (c : IsCommon lo hi a b out (p ∷ l) (q ∷ k)) where
    both_hold : (x : ℤ) → p.0 ≤ℤ x → x ≤ℤ p.1 → q.0 ≤ℤ x → x ≤ℤ q.1 → (holds (p ∷ l) x && holds (q ∷ k) x) ≡ true
    both_hold x e f g h = rw (first_holds p l x e f, first_holds q k x g h)

    -- the range of what both first ranges hold lies past what was found before
    past_top : (r : ℤ × ℤ) → r.0 ≡ int_max p.0 q.0 → r.1 ≡ int_min p.1 q.1 → r.0 ≤ℤ r.1 → c.top ≤ℤ (r.0 -ℤ pos 2)
    past_top r e f h =
        let ends : (p.0 ≤ℤ r.0) × (q.0 ≤ℤ r.0) = rw e (grind (arith, ints), grind (arith, ints)) in
        let tops : (r.1 ≤ℤ p.1) × (r.1 ≤ℤ q.1) = rw f (grind (arith, ints), grind (arith, ints)) in
        let yes = both_hold r.0 ends.0 (omega (arith, ints)) ends.1 (omega (arith, ints)) in
        by_lt_z (c.top +ℤ pos 1) r.0 (λ u. omega (arith, ints)) (λ u. let no = c.past r.0 u in absurd (cc))

    found_members : (new : List (ℤ × ℤ)) → IsCommonPushed out p q new → (x : ℤ) → holds new x ≡ (holds out x || (lies_in p x && lies_in q x))
    found_members new (inl h) x = rw (h.0, h.1 x) (sym (or-false (holds out x)))
    found_members new (inr (r, e, f, g, h)) x =
        rw e (holds-push out r x ∙ ap (λ t. holds out x || t) (rw (f, g) (both_first x p.0 p.1 q.0 q.1)))

    ends_in : (r : ℤ × ℤ) → r.0 ≡ int_max p.0 q.0 → r.1 ≡ int_min p.1 q.1 → (lo ≤ℤ r.0) × (r.1 ≤ℤ hi)
    ends_in r e f =
        let low : lo ≤ℤ p.0 = c.left_canonical.0 in
        let high : p.1 ≤ℤ hi = c.left_canonical.2 in
        (rw e (grind (arith, ints)), rw f (grind (arith, ints)))

    pushed_canonical : (r : ℤ × ℤ) → r.0 ≡ int_max p.0 q.0 → r.1 ≡ int_min p.1 q.1 → r.0 ≤ℤ r.1 → (high : ℤ) → r.1 ≤ℤ high → IsCanonical lo high (out ++ r ∷ [])
    pushed_canonical r e f h high t =
        canonical-push lo high out r (to_higher lo c.top (r.0 -ℤ pos 2) out (past_top r e f h) c.canonical) (ends_in r e f).0 h t

    left_after : (x : ℤ) → x ≤ℤ (p.1 +ℤ pos 1) → holds l x ≡ false
    left_after x h = below_start (p.1 +ℤ pos 2) hi l x c.left_canonical.3 (omega (arith, ints))

    right_after : (x : ℤ) → x ≤ℤ (q.1 +ℤ pos 1) → holds k x ≡ false
    right_after x h = below_start (q.1 +ℤ pos 2) hi k x c.right_canonical.3 (omega (arith, ints))

    left_rest : IsCanonical lo hi l
    left_rest =
        let low : lo ≤ℤ p.0 = c.left_canonical.0 in
        let ordered : p.0 ≤ℤ p.1 = c.left_canonical.1 in
        from_lower (p.1 +ℤ pos 2) lo hi l (omega (arith, ints)) c.left_canonical.3

    right_rest : IsCanonical lo hi k
    right_rest =
        let low : lo ≤ℤ q.0 = c.right_canonical.0 in
        let ordered : q.0 ≤ℤ q.1 = c.right_canonical.1 in
        from_lower (q.1 +ℤ pos 2) lo hi k (omega (arith, ints)) c.right_canonical.3

    behind : (r : ℤ × ℤ) (x : ℤ) → r.1 <ℤ x → lies_in r x ≡ false
    behind r x h = grind (arith, ints)

    -- the left first range ends first
    module _ (sooner : p.1 <ℤ q.1) where
      left_members : (new : List (ℤ × ℤ)) → IsCommonPushed out p q new → (x : ℤ) → (holds new x || (holds l x && holds (q ∷ k) x)) ≡ (holds a x && holds b x)
      left_members new f x =
          let apart : (lies_in p x && holds k x) ≡ false = by_lt_z p.1 x
          (λ u. no_left (lies_in p x) (holds k x) (behind p x u))
          (λ u. no_right (lies_in p x) (holds k x) (right_after x (omega (arith, ints)))) in
          ap (λ t. t || (holds l x && holds (q ∷ k) x)) (found_members new f x)
          ∙ (left_parts (holds out x) (lies_in p x) (holds l x) (lies_in q x) (holds k x) apart ∙ c.members x)

      pub left_step : (new : List (ℤ × ℤ)) → IsCommonPushed out p q new → IsCommon lo hi a b new l (q ∷ k)
      left_step new (inl h) = record {
        within = rw h.0 c.within;
        members = left_members new (inl h);
        left_canonical = left_rest;
        right_canonical = c.right_canonical;
        top = c.top;
        canonical = rw h.0 c.canonical;
        past = λ x u. less_left (lies_in p x) (holds l x) (holds (q ∷ k) x) (c.past x u);
      }
      left_step new (inr (r, e, f, g, h)) = record {
        within = rw e (pushed_canonical r f g h hi (ends_in r f g).1);
        members = left_members new (inr (r, e, f, g, h));
        left_canonical = left_rest;
        right_canonical = c.right_canonical;
        top = r.1;
        canonical = rw e (pushed_canonical r f g h r.1 (omega (arith, ints)));
        past = λ x u. no_left (holds l x) (holds (q ∷ k) x) (let top : r.1 ≤ℤ p.1 = rw g (grind (arith, ints)) in left_after x (omega (arith, ints)));
      }

    -- the right first range ends first, or both end together
    module _ (no_later : q.1 ≤ℤ p.1) where
      right_members : (new : List (ℤ × ℤ)) → IsCommonPushed out p q new → (x : ℤ) → (holds new x || (holds (p ∷ l) x && holds k x)) ≡ (holds a x && holds b x)
      right_members new f x =
          let apart : (lies_in q x && holds l x) ≡ false = by_lt_z q.1 x
          (λ u. no_left (lies_in q x) (holds l x) (behind q x u))
          (λ u. no_right (lies_in q x) (holds l x) (left_after x (omega (arith, ints)))) in
          ap (λ t. t || (holds (p ∷ l) x && holds k x)) (found_members new f x)
          ∙ (right_parts (holds out x) (lies_in p x) (holds l x) (lies_in q x) (holds k x) apart ∙ c.members x)

      pub right_step : (new : List (ℤ × ℤ)) → IsCommonPushed out p q new → IsCommon lo hi a b new (p ∷ l) k
      right_step new (inl h) = record {
        within = rw h.0 c.within;
        members = right_members new (inl h);
        left_canonical = c.left_canonical;
        right_canonical = right_rest;
        top = c.top;
        canonical = rw h.0 c.canonical;
        past = λ x u. less_right (holds (p ∷ l) x) (lies_in q x) (holds k x) (c.past x u);
      }
      right_step new (inr (r, e, f, g, h)) = record {
        within = rw e (pushed_canonical r f g h hi (ends_in r f g).1);
        members = right_members new (inr (r, e, f, g, h));
        left_canonical = c.left_canonical;
        right_canonical = right_rest;
        top = r.1;
        canonical = rw e (pushed_canonical r f g h r.1 (omega (arith, ints)));
        past = λ x u. no_right (holds (p ∷ l) x) (holds k x) (let top : r.1 ≤ℤ q.1 = rw g (grind (arith, ints)) in right_after x (omega (arith, ints)));
      }

-- what both first ranges hold lies apart from what was found before
in_front : (p q b d : Bool) → (p && q) ≡ true → ((p || b) && (q || d)) ≡ true
in_front true true b d h = refl
in_front true false b d h = absurd (cc)
in_front false q b d h = absurd (cc)

pub common_apart : (lo hi : ℤ) (a b out left right l k : List (ℤ × ℤ)) (p q : ℤ × ℤ) → left ≡ p ∷ l → right ≡ q ∷ k → IsCommon lo hi a b out left right
    → (x : ℤ) → (lies_in p x && lies_in q x) ≡ true → EndApart x out
common_apart lo hi a b out left right l k p q left_is right_is c x h =
    let yes : (holds left x && holds right x) ≡ true = rw (left_is, right_is) (in_front (lies_in p x) (lies_in q x) (holds l x) (holds k x) h) in
    by_lt_z (c.top +ℤ pos 1) x (λ u. apart_from_end lo c.top x out c.canonical (omega (arith, ints))) (λ u. let no = c.past x u in absurd (cc))

-- the same, where the lists are known to begin so
module _ (lo hi : ℤ) (a b out new left right l k : List (ℤ × ℤ)) (p q : ℤ × ℤ) (left_is : left ≡ p ∷ l) (right_is : right ≡ q ∷ k)
    (c : IsCommon lo hi a b out left right) (found : IsCommonPushed out p q new) where
  pub common_left : p.1 <ℤ q.1 → IsCommon lo hi a b new l right
  common_left sooner = rw right_is (left_step lo hi a b out p q l k (rw (left_is, right_is) at c) sooner new found)

  pub common_right : q.1 ≤ℤ p.1 → IsCommon lo hi a b new left k
  common_right no_later = rw left_is (right_step lo hi a b out p q l k (rw (left_is, right_is) at c) no_later new found)
