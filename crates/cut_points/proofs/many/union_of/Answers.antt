use Rattle.std.proofs.Common.{◌∷◌, [], map, subst, Ok}
use Rattle.std.specs.Iterator.Adapters.{once_steps}
use Rattle.sorted_iter.specs.MultiwaySteps.{MultiListsAre}
use Rattle.sorted_iter.specs.MultiwayViews.{union_heads}
use Rattle.sorted_iter.proofs.SourceLists.{list-of_into_iter, items-of_run}
use Rattle.sorted_iter.proofs.MultiwayCallers.{union-of_collect}
use Rattle.cut_points.proofs.ManyLemmas.{streams_give}
use Rattle.cut_points.proofs.many.union_of.Goals as goal

pub returns : goal.returns
returns g c =
    let values = c.args.values.now in
    let streams = c.in_ok-streams.streams.items in
    let m = c.in_ok-multiway_union.ensures.gives in
    let same = items-of_run m.2.0 m.2.1 m.2.2 (list-of_into_iter m.0 streams m.1.0 m.1.3) in
    let lists = subst (MultiListsAre g.T.Ord.cmp _ _ once_steps) same m.2.3.1 in
    union-of_collect union_heads (map (λ v. v ∷ []) values) {E = Unit {0}} (Ok c.in_ok-collect.field-0) lists
    (streams_give streams values c.in_ok-streams.ensures) c.in_ok-collect.ensures.ran
