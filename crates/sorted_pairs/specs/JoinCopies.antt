-- Copies of joins.
use Rattle.std.specs.Prelude.{◌≡◌, ◌⊎◌, Bool, true, List, Option, Some, None, ⊤}
use Rattle.std.specs.Iterator.{Count}
use Rattle.std.specs.List.{AllZip}
use Rattle.std.specs.List.Sorted.{IsStrictlySortedBy}
use Rattle.std.specs.declared.cmp.Ordering.{Ordering}
use Rattle.ordered_lists.specs.Lists.{by_key}
use Rattle.sorted_iter.specs.declared.sides.Sides.{Sides}
use Rattle.sorted_iter.specs.Lookahead.{WillGive}
use Rattle.sorted_iter.specs.Orders.{GivesList}
use Rattle.sorted_iter.specs.TwoSides.{sides_can}
use Rattle.sorted_pairs.specs.JoinStreams.{keys_ascend}

-- w is the value v or a clone of it
abbrev pub IsSelfOrClone : {V : Type 0} → (V → V → Type 0) → V → V → Type 0
IsSelfOrClone clones v w = (w ≡ v) ⊎ clones v w

-- the same of values that may be missing
abbrev pub IsMaybeClone : {V : Type 0} → (V → V → Type 0) → Option V → Option V → Type 0
IsMaybeClone clones None None = ⊤
IsMaybeClone clones None (Some w) = ⊥
IsMaybeClone clones (Some v) None = ⊥
IsMaybeClone clones (Some v) (Some w) = IsSelfOrClone clones v w

-- items of the two joins: their keys are equal, and the values of q are those of p or clones of them
module _ {K V W : Type 0} (eq : K → K → Bool) (clones : V → V → Type 0) (clones' : W → W → Type 0) where
  abbrev pub IsBothCopy : K × (V × W) → K × (V × W) → Type 0
  IsBothCopy p q = (eq q.0 p.0 ≡ true) × IsSelfOrClone clones p.1.0 q.1.0 × IsSelfOrClone clones' p.1.1 q.1.1

  abbrev pub IsLeftCopy : K × (V × Option W) → K × (V × Option W) → Type 0
  IsLeftCopy p q = (eq q.0 p.0 ≡ true) × IsSelfOrClone clones p.1.0 q.1.0 × IsMaybeClone clones' p.1.1 q.1.1

  abbrev pub IsRightCopy : K × (Option V × W) → K × (Option V × W) → Type 0
  IsRightCopy p q = (eq q.0 p.0 ≡ true) × IsMaybeClone clones p.1.0 q.1.0 × IsSelfOrClone clones' p.1.1 q.1.1

  abbrev pub IsEitherCopy : K × (Option V × Option W) → K × (Option V × Option W) → Type 0
  IsEitherCopy p q = (eq q.0 p.0 ≡ true) × IsMaybeClone clones p.1.0 q.1.0 × IsMaybeClone clones' p.1.1 q.1.1

-- The join t is a copy of the join s, of which `sides` are the two sides: it may be called and is in order where s is. Where what is to
-- come from the sides of s is known, what is to come from t is, item by item, a copy of what is to come from s.
pub record IsJoinCopy {U S T K V W C : Type 0} (sides : U → Sides S T (K × V) (K × W)) (cmp : K → K → Ordering)
    (f : List (K × V) → List (K × W) → List C) (copies : C → C → Type 0) (can : S → Type 0) (left : S → Count) (firsts : S → Option (K × V)
    → S → Type 0)
    (can' : T → Type 0) (left' : T → Count) (seconds : T → Option (K × W) → T → Type 0) (steps : U → Option C → U → Type 0)
    (s t : U) : Type 0 where
  pub callable : sides_can can left can' left' (sides s) → sides_can can left can' left' (sides t)
  pub in_order : keys_ascend cmp firsts seconds (sides s) → keys_ascend cmp firsts seconds (sides t)
  pub lists : (xs : List (K × V)) (ys : List (K × W)) → WillGive firsts (sides s).left xs → WillGive seconds (sides s).right ys
      → IsStrictlySortedBy (by_key cmp) xs → IsStrictlySortedBy (by_key cmp) ys
      → GivesList steps s (f xs ys) × ((zs : List C) × AllZip copies (f xs ys) zs × GivesList steps t zs)
