-- The laws of the marks of std's iterators.
use Rattle.std.proofs.Common.{◌≡◌, ℕ, ◌+◌, ◌-◌, ◌<◌, Bool, true, false, List, [], ◌∷◌, length, ◌≤◌, Option, Some, None, refl, sym, ap, subst, ◌∙◌, arith}
use Rattle.std.proofs.lemmas.Int.{ints}
use Rattle.std.specs.Prelude.{ℤ, pos, ◌+ℤ◌, ◌<ℤ◌}
use Rattle.std.specs.Range.{range_steps, range_inclusive_steps, range_inclusive_left, range_inclusive_len, range_inclusive_start, range_inclusive_end, range_inclusive_exhausted}
use Rattle.std.specs.Cmp.{IsTotalOrder, ranks, nat_cmp_total, int_cmp_total, int_cmp_is}
use Rattle.std.specs.Int.{int_gap}
use Rattle.std.specs.List.Sorted.{IsStrictlySortedBy}
use Rattle.std.specs.Map.Iter.{TakesFirst, deref}
use Rattle.std.specs.Ordering.{nat_cmp, int_cmp, MatchOrdering}
use Rattle.std.specs.declared.cmp.Ordering.{Ordering}
use Rattle.std.specs.declared.cmp.Ordering.TheVariants.{Less, Equal, Greater}
use Rattle.std.specs.declared.ops.Range.{Range}
use Rattle.std.specs.declared.ops.RangeInclusive.{RangeInclusive}
use Rattle.std.specs.Iterator.{Yields}
use Rattle.std.specs.Iterator.Adapters.{once_steps, once_item}
use Rattle.std.specs.declared.iter.Once.{Once}
use Rattle.sorted_iter.specs.GoesOn.{ascends-back}
use Rattle.sorted_iter.specs.Orders.{Rests, InOrder, AtMostOne}
use Rattle.sorted_iter.specs.Laws.{in_order-by_bound, over_rests}
use Rattle.sorted_iter.specs.Sources.{in_order-of_rest}

module _ {A : Type 0} {cmp : A → A → Ordering} (o : IsTotalOrder cmp) (gap : A → A → ℕ) (follows : A → A → Type 0)
    (up : (x y : A) → follows x y → cmp x y ≡ Less) where
  pub range-in_order : (s : Range A) → InOrder cmp (range_steps gap follows) s
  range-in_order = in_order-by_bound cmp (range_steps gap follows) (λ b s. cmp b s.start ≡ Less) (λ s. gap s.start s.end ≡ 0)
      (λ s t x k. ap (λ z. cmp z t.start) k.1.1 ∙ up s.start t.start k.1.2)
      (λ s t x b k h. (ap (cmp b) k.1.1 ∙ h, o.trans b s.start t.start h (up s.start t.start k.1.2)))
      (λ s t k. ap (λ z. gap z t.end) k.1.1 ∙ ap (gap s.start) k.0 ∙ k.1.0)
      (λ s t x k h. let l = k.1.0 in omega arith)

  begun : (e : Bool) (a b : A) (n : ℕ) → n + 1 ≡ range_inclusive_len gap a b e → e ≡ false
  begun true a b n h = absurd (omega arith)
  begun false a b n h = refl

  begun_at : (s t : RangeInclusive A) → range_inclusive_left gap t + 1 ≡ range_inclusive_left gap s → range_inclusive_exhausted s ≡ false
  begun_at s t h = begun (range_inclusive_exhausted s) (range_inclusive_start s) (range_inclusive_end s) (range_inclusive_left gap t) h

  pub range_inclusive-in_order : (s : RangeInclusive A) → InOrder cmp (range_inclusive_steps gap follows) s
  range_inclusive-in_order = in_order-by_bound cmp (range_inclusive_steps gap follows) (λ b s. range_inclusive_exhausted s ≡ false
      → cmp b (range_inclusive_start s) ≡ Less) (λ s. range_inclusive_left gap s ≡ 0)
      (λ s t x k e. ap (λ z. cmp z (range_inclusive_start t)) k.1.0 ∙ up (range_inclusive_start s) (range_inclusive_start t) (k.1.2 e))
      (λ s t x b k h.
      let l = h (begun_at s t k.1.1) in (
        ap (cmp b) k.1.0 ∙ l,
        λ e. o.trans b (range_inclusive_start s) (range_inclusive_start t) l
            (up (range_inclusive_start s) (range_inclusive_start t) (k.1.2 e)),
      ))
      (λ s t k. ap (range_inclusive_left gap) k.1.1 ∙ k.1.0)
      (λ s t x k h. let l = k.1.1 in omega arith)

-- ---- the integers

nat_up : (x y : ℕ) → y ≡ x + 1 → nat_cmp x y ≡ Less
nat_up x y e = go (nat_cmp x y) (ranks x y)
  where
    go : (r : Ordering) → MatchOrdering r (x < y) (x ≡ y) (y < x) → r ≡ Less
    go Less k = refl
    go Equal k = absurd (omega arith)
    go Greater k = absurd (omega arith)

abbrev nat_gap : ℕ → ℕ → ℕ
nat_gap x y = y - x

abbrev nat_follows : ℕ → ℕ → Type 0
nat_follows x y = y ≡ x + 1

pub nat_range-in_order : (s : Range ℕ) → InOrder nat_cmp (range_steps nat_gap nat_follows) s
nat_range-in_order = range-in_order nat_cmp_total nat_gap nat_follows nat_up

pub nat_range_inclusive-in_order : (s : RangeInclusive ℕ) → InOrder nat_cmp (range_inclusive_steps nat_gap nat_follows) s
nat_range_inclusive-in_order = range_inclusive-in_order nat_cmp_total nat_gap nat_follows nat_up

abbrev int_follows : ℤ → ℤ → Type 0
int_follows x y = y ≡ x +ℤ pos 1

int_up : (x y : ℤ) → y ≡ x +ℤ pos 1 → int_cmp x y ≡ Less
int_up x y e = let l : x <ℤ y = omega (arith, ints) in sym (int_cmp_is x y Less l)

pub int_range-in_order : (s : Range ℤ) → InOrder int_cmp (range_steps int_gap int_follows) s
int_range-in_order = range-in_order int_cmp_total int_gap int_follows int_up

pub int_range_inclusive-in_order : (s : RangeInclusive ℤ) → InOrder int_cmp (range_inclusive_steps int_gap int_follows) s
int_range_inclusive-in_order = range_inclusive-in_order int_cmp_total int_gap int_follows int_up

-- ---- sets

-- the keys of a `BTreeSet`, as references
pub keys-in_order : {K : Type 0} (cmp : K → K → Ordering) (s : List K) → IsStrictlySortedBy cmp s
    → InOrder (λ x y. cmp x.now y.now) (TakesFirst (deref {X = K})) s
keys-in_order {K} cmp s h = in_order-of_rest (λ x. x.now) (TakesFirst (deref {X = K})) (λ l. l) (λ l. l ≡ [])
    (λ l m x k. (k, λ z. let w : [] ≡ x.now ∷ m = sym z ∙ k in absurd cc)) (λ l m k. k.1) cmp s h

-- the items of an iterator that is seen as the list of what it has left
module _ {A K : Type 0} (shows : A → K) where
  pub shown-in_order : (cmp : K → K → Ordering) (s : List K) → IsStrictlySortedBy cmp s
      → InOrder (λ x y. cmp (shows x) (shows y)) (TakesFirst shows) s
  shown-in_order cmp s h = in_order-of_rest shows (TakesFirst shows) (λ l. l) (λ l. l ≡ [])
      (λ l m x k. (k, λ z. let w : [] ≡ shows x ∷ m = sym z ∙ k in absurd cc)) (λ l m k. k.1) cmp s h

  pub shown-goes_on : (cmp : K → K → Ordering) (s t : List K) (r : Option A) → IsStrictlySortedBy cmp s → TakesFirst shows s r t
      → IsStrictlySortedBy cmp t
  shown-goes_on cmp s t None h e = subst (IsStrictlySortedBy cmp) (e.0 ∙ sym e.1) h
  shown-goes_on cmp s t (Some x) h e = ascends-back cmp (shows x ∷ []) t (subst (IsStrictlySortedBy cmp) e h)

-- ---- one item or none

once_ends : {A : Type 0} (n : ℕ) (s t : Once A) → once_item s ≡ None → Rests once_steps n s t → once_item t ≡ None
once_ends n s t h e = over_rests once_steps (λ z. once_item z ≡ None) (λ a b k. k.1) n s t h e

pub once-one : {A : Type 0} (s : Once A) → AtMostOne once_steps s
once-one {A} s = record {
  one = one;
  stays_ended = λ xs t n u x v e f k. let z = once_ends n t u e.2.1 f in let w : Some x ≡ None = k.0 ∙ z in absurd cc;
}
  where
    one : (xs : List A) (t : Once A) → Yields once_steps s xs t → length xs ≤ 1
    one [] t e = omega arith
    one (x ∷ []) t e = omega arith
    one (x ∷ y ∷ xs) t e = let w : Some y ≡ None = e.2.1.0 ∙ e.1.1 in absurd cc
