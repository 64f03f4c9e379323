-- What the four joins give: their order, their runs and their lists.
use Rattle.std.proofs.Common.{◌≡◌, List, Option, refl, sym, ap, subst, ◌∙◌}
use Rattle.std.specs.Iterator.{Yields, AlwaysYields}
use Rattle.std.specs.Cmp.{IsTotalOrder}
use Rattle.std.specs.List.Sorted.{IsStrictlySortedBy}
use Rattle.std.specs.declared.cmp.Ordering.{Ordering}
use Rattle.std.proofs.iter.runs.Made.{run, took}
use Rattle.ordered_lists.specs.Lists.{by_key}
use Rattle.ordered_lists.specs.Joins.{join, left_join, right_join, outer_join}
use Rattle.sorted_iter.specs.declared.sides.Sides.{Sides}
use Rattle.sorted_iter.specs.Orders.{InOrder, Begins}
use Rattle.sorted_iter.specs.TwoSides.{sides_of, StepsTwo}
use Rattle.sorted_iter.specs.TwoSidesLemmas.{Through, through-yields, through-always, two-always}
use Rattle.sorted_iter.proofs.StreamLemmas.{ahead_ascends, fresh_gives, behind}
use Rattle.sorted_pairs.specs.JoinStreams.{keys_ascend}
use Rattle.sorted_pairs.specs.Joined.{JoinsRuns, JoinsLists}
use Rattle.sorted_pairs.specs.MatchLaws.{join-walk, left_join-walk, right_join-walk, outer_join-walk}
use Rattle.sorted_pairs.specs.Matches.{join_walk, left_join_walk, right_join_walk, outer_join_walk}

module _ {S T K V W : Type 0} {firsts : S → Option (K × V) → S → Type 0} {seconds : T → Option (K × W) → T → Type 0} where
  pub sides-ascend : (cmp : K → K → Ordering) {x : S} {y : T} (s : Sides S T (K × V) (K × W)) → s ≡ sides_of x y → InOrder (by_key cmp) firsts x → InOrder (by_key cmp) seconds y → keys_ascend cmp firsts seconds s
  sides-ascend cmp s e a b = subst (keys_ascend cmp firsts seconds) (sym e) (ahead_ascends a, ahead_ascends b)

module _ {U S T K V W C : Type 0} (op f : List (K × V) → List (K × W) → List C) (cmp : K → K → Ordering) (firsts : S → Option (K × V) → S → Type 0) (seconds : T → Option (K × W) → T → Type 0)
    (equal : (xs : List (K × V)) (ys : List (K × W)) → IsStrictlySortedBy (by_key cmp) xs → IsStrictlySortedBy (by_key cmp) ys → op xs ys ≡ f xs ys) (sides : U → Sides S T (K × V) (K × W)) (s : U) (x : S) (y : T) (fresh : sides s ≡ sides_of x y) where
  abbrev Steps : Sides S T (K × V) (K × W) → Option C → Sides S T (K × V) (K × W) → Type 0
  Steps = StepsTwo op firsts seconds

  joined-lists : JoinsLists cmp f (Through sides Steps) s firsts x seconds y
  joined-lists xs ys a b c d = record {
    runs = through-always sides Steps (f xs ys) s (subst (λ k. AlwaysYields Steps (λ z. z) k (f xs ys)) (sym fresh) (two-always op firsts seconds (f xs ys) (sides_of x y) xs ys (fresh_gives a) (fresh_gives b) (equal xs ys c d)));
  }

  joined-runs : JoinsRuns cmp f (Through sides Steps) s firsts x seconds y
  joined-runs = record {
    behind = λ p on at.
        let d = took p in
        let start : sides p.from ≡ sides_of x y = ap sides at ∙ fresh in
        let m = behind op firsts seconds x y p.items p.whole (sides d.0, subst (λ k. Yields Steps k p.items (sides d.0)) start (through-yields sides Steps p.items p.from d.0 d.1), λ w. (sides (d.2 w).0, (d.2 w).1)) in (
          run firsts x m.us m.left_whole m.left_ran,
          refl {a = x},
          (
            run seconds y m.vs m.right_whole m.right_ran,
            refl {a = y},
            record { front = λ xs ys i j c e. subst (Begins p.whole p.items) (equal _ _ c e) (m.front xs ys i j) },
          ),
        );
  }

module _ {U S T K V W : Type 0} {cmp : K → K → Ordering} (o : IsTotalOrder cmp) (firsts : S → Option (K × V) → S → Type 0) (seconds : T → Option (K × W) → T → Type 0) (sides : U → Sides S T (K × V) (K × W)) (s : U) (x : S) (y : T) (fresh : sides s ≡ sides_of x y) where
  pub join-runs : JoinsRuns cmp (join cmp) (Through sides (StepsTwo (join_walk cmp) firsts seconds)) s firsts x seconds y
  join-runs = joined-runs (join_walk cmp) (join cmp) cmp firsts seconds (join-walk o) sides s x y fresh

  pub join-lists : JoinsLists cmp (join cmp) (Through sides (StepsTwo (join_walk cmp) firsts seconds)) s firsts x seconds y
  join-lists = joined-lists (join_walk cmp) (join cmp) cmp firsts seconds (join-walk o) sides s x y fresh

  pub left_join-runs : JoinsRuns cmp (left_join cmp) (Through sides (StepsTwo (left_join_walk cmp) firsts seconds)) s firsts x seconds y
  left_join-runs = joined-runs (left_join_walk cmp) (left_join cmp) cmp firsts seconds (left_join-walk o) sides s x y fresh

  pub left_join-lists : JoinsLists cmp (left_join cmp) (Through sides (StepsTwo (left_join_walk cmp) firsts seconds)) s firsts x seconds y
  left_join-lists = joined-lists (left_join_walk cmp) (left_join cmp) cmp firsts seconds (left_join-walk o) sides s x y fresh

  pub right_join-runs : JoinsRuns cmp (right_join cmp) (Through sides (StepsTwo (right_join_walk cmp) firsts seconds)) s firsts x seconds y
  right_join-runs = joined-runs (right_join_walk cmp) (right_join cmp) cmp firsts seconds (right_join-walk o) sides s x y fresh

  pub right_join-lists : JoinsLists cmp (right_join cmp) (Through sides (StepsTwo (right_join_walk cmp) firsts seconds)) s firsts x seconds y
  right_join-lists = joined-lists (right_join_walk cmp) (right_join cmp) cmp firsts seconds (right_join-walk o) sides s x y fresh

  pub outer_join-runs : JoinsRuns cmp (outer_join cmp) (Through sides (StepsTwo (outer_join_walk cmp) firsts seconds)) s firsts x seconds y
  outer_join-runs = joined-runs (outer_join_walk cmp) (outer_join cmp) cmp firsts seconds (outer_join-walk o) sides s x y fresh

  pub outer_join-lists : JoinsLists cmp (outer_join cmp) (Through sides (StepsTwo (outer_join_walk cmp) firsts seconds)) s firsts x seconds y
  outer_join-lists = joined-lists (outer_join_walk cmp) (outer_join cmp) cmp firsts seconds (outer_join-walk o) sides s x y fresh
