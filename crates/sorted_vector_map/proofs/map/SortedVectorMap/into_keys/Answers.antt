use Rattle.std.proofs.Common.{◌≡◌, List, map, ap, ◌∙◌, subst}
use Rattle.std.specs.List.Sorted.{IsStrictlySortedBy}
use Rattle.ordered_lists.specs.Lists.{by_key}
use Rattle.ordered_lists.proofs.PairLemmas.{keys_ascend}
use Rattle.sorted_vector_map.specs.Content.{Content}
use Rattle.sorted_vector_map.proofs.ComingLemmas.{comes_by_value}
use Rattle.sorted_vector_map.proofs.map.SortedVectorMap.into_keys.Goals as goal

pub returns-clause-keys : goal.returns-clause-keys
returns-clause-keys g c =
    let same : c.self.inside.items.items ≡ c.args.self.pairs = ap (λ (m : Content g.row.K.Denot g.row.V.Denot). m.pairs) c.self.view_is in
    comes_by_value _ _ (c.of.ensures.all ∙ ap (λ (ps : List (g.row.K.Denot × g.row.V.Denot)). map (λ p. p.0) ps) same) c.of.ensures.countable

pub returns-clause-ascending : goal.returns-clause-ascending
returns-clause-ascending g c =
    let same : c.self.inside.items.items ≡ c.args.self.pairs = ap (λ (m : Content g.row.K.Denot g.row.V.Denot). m.pairs) c.self.view_is in
    keys_ascend g.K.Ord.cmp _ (subst (IsStrictlySortedBy (by_key g.K.Ord.cmp)) same c.self.invariant)
