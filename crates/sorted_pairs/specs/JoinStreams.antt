-- The streams of the four joins, as their contracts see them.
use Rattle.std.specs.Prelude.{Option}
use Rattle.std.specs.declared.cmp.Ordering.{Ordering}
use Rattle.sorted_iter.specs.declared.sides.Sides.{Sides}
use Rattle.sorted_iter.specs.TwoSides.{StepsTwo, sides_ascend}
use Rattle.ordered_lists.specs.Lists.{by_key}
use Rattle.sorted_pairs.specs.declared.join.Join.{Join}
use Rattle.sorted_pairs.specs.declared.left_join.LeftJoin.{LeftJoin}
use Rattle.sorted_pairs.specs.declared.right_join.RightJoin.{RightJoin}
use Rattle.sorted_pairs.specs.declared.outer_join.OuterJoin.{OuterJoin}
use Rattle.sorted_pairs.specs.Matches.{join_walk, left_join_walk, right_join_walk, outer_join_walk}

module _ {S T A B : Type 0} where
  abbrev pub join_sides : Join S T A B → Sides S T A B
  join_sides s = s.sides

  abbrev pub left_join_sides : LeftJoin S T A B → Sides S T A B
  left_join_sides s = s.sides

  abbrev pub right_join_sides : RightJoin S T A B → Sides S T A B
  right_join_sides s = s.sides

  abbrev pub outer_join_sides : OuterJoin S T A B → Sides S T A B
  outer_join_sides s = s.sides

module _ {S T K V W : Type 0} (cmp : K → K → Ordering) (firsts : S → Option (K × V) → S → Type 0) (seconds : T → Option (K × W) → T
    → Type 0) where
  -- the keys of both sides ascend
  abbrev pub keys_ascend : Sides S T (K × V) (K × W) → Type 0
  keys_ascend s = sides_ascend (by_key cmp) firsts (by_key cmp) seconds s

  abbrev pub join_steps : Join S T (K × V) (K × W) → Option (K × (V × W)) → Join S T (K × V) (K × W) → Type 0
  join_steps s r t = StepsTwo (join_walk cmp) firsts seconds (join_sides s) r (join_sides t)

  abbrev pub left_join_steps : LeftJoin S T (K × V) (K × W) → Option (K × (V × Option W)) → LeftJoin S T (K × V) (K × W) → Type 0
  left_join_steps s r t = StepsTwo (left_join_walk cmp) firsts seconds (left_join_sides s) r (left_join_sides t)

  abbrev pub right_join_steps : RightJoin S T (K × V) (K × W) → Option (K × (Option V × W)) → RightJoin S T (K × V) (K × W) → Type 0
  right_join_steps s r t = StepsTwo (right_join_walk cmp) firsts seconds (right_join_sides s) r (right_join_sides t)

  abbrev pub outer_join_steps : OuterJoin S T (K × V) (K × W) → Option (K × (Option V × Option W)) → OuterJoin S T (K × V) (K × W) → Type 0
  outer_join_steps s r t = StepsTwo (outer_join_walk cmp) firsts seconds (outer_join_sides s) r (outer_join_sides t)
