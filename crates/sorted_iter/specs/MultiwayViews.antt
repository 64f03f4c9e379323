-- The stream as its heads.
use Rattle.std.specs.Prelude.{List, Option}
use Rattle.std.specs.declared.iter.Iterator as iterators
use Rattle.std.specs.declared.cmp.Ord as orders
use Rattle.std.specs.declared.cmp.PartialEq as equalities
use Rattle.std.specs.declared.cmp.PartialOrd as partial_orders
use Rattle.std.specs.declared.cmp.Ordering.{Ordering}
use Rattle.sorted_iter.specs.declared.multiway.heads.InputHead.{InputHead}
use Rattle.sorted_iter.specs.declared.multiway.MultiwayUnion.{MultiwayUnion}
use Rattle.sorted_iter.specs.MultiwaySteps.{multi_steps}

module _ {S A : Type 0} {i : iterators.Ghosts S A} {o : orders.Ghosts A} {e : equalities.Ghosts A} {p : partial_orders.Ghosts A} where
  abbrev pub union_heads : MultiwayUnion S A i o e p → List (InputHead S A)
  union_heads s = s.heads.items

  -- one call of `next`
  abbrev pub multiway_steps : (A → A → Ordering) → (S → Option A → S → Type 0) → MultiwayUnion S A i o e p → Option A
      → MultiwayUnion S A i o e p → Type 0
  multiway_steps cmp steps s r t = multi_steps cmp steps (union_heads s) r (union_heads t)
