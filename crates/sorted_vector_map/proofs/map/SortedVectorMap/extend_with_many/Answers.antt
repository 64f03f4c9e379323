use Rattle.std.proofs.Common.{◌≡◌, [], arith, sym, ap, ◌∙◌, subst}
use Rattle.std.specs.List.Sorted.{IsStrictlySortedBy}
use Rattle.ordered_lists.specs.Lists.{by_key, sets}
use Rattle.ordered_lists.proofs.PairLemmas.{by_key_total}
use Rattle.ordered_lists.proofs.MergeLemmas.{merged_behind, sets_ascend, sets_none, no_item}
use Rattle.sorted_vector_map.specs.Content.{Content}
use Rattle.sorted_vector_map.proofs.map.SortedVectorMap.extend_with_many.Goals as goal

pub merge_in-requires-clause-whole : goal.merge_in-requires-clause-whole
merge_in-requires-clause-whole g c =
    let kept = c.keep_last-2.ensures.same c.in-Some.tail.items ∙ ap (sets (by_key g.K.Ord.cmp) c.in-Some.tail.items) (sym c.deref.ensures.value) in
    let joined = merged_behind (by_key g.K.Ord.cmp) c.args.self.now.pairs c.open_for.new.self.pairs c.in-Some.tail.items c.deref.result.now c.keep_last-2.new.items.items c.in-Some.ensures.parts c.in-Some.ensures.stays kept in
    subst (IsStrictlySortedBy (by_key g.K.Ord.cmp)) (sym joined) (sets_ascend (by_key g.K.Ord.cmp) (by_key_total g.met.K.Ord.total) c.args.self.now.pairs c.deref.result.now c.in-Some.ensures.ascending)

pub returns-clause-pairs : goal.returns-clause-pairs
returns-clause-pairs g c =
    let kept = c.keep_last-2.ensures.same c.in-Some.tail.items ∙ ap (sets (by_key g.K.Ord.cmp) c.in-Some.tail.items) (sym c.deref.ensures.value) in
    let joined = merged_behind (by_key g.K.Ord.cmp) c.args.self.now.pairs c.open_for.new.self.pairs c.in-Some.tail.items c.deref.result.now c.keep_last-2.new.items.items c.in-Some.ensures.parts c.in-Some.ensures.stays kept in
    c.merge_in.ensures ∙ joined ∙ ap (sets (by_key g.K.Ord.cmp) c.args.self.now.pairs) c.deref.ensures.value ∙ c.sort_by_key.ensures.same c.args.self.now.pairs c.in-Some.ensures.ascending

pub returns-then-capacity-eq0-clause-pairs : goal.returns-then-capacity-eq0-clause-pairs
returns-then-capacity-eq0-clause-pairs g c =
    let mine : c.self.inside.items.items ≡ c.args.self.now.pairs = ap (λ (m : Content g.row.K.Denot g.row.V.Denot). m.pairs) c.self.view_is in
    let none : c.self.inside.items.items ≡ [] = no_item c.self.inside.items.items (omega (arith, c.self.inside.items.ok, c.capacity.ensures, c.if-capacity-eq0.true)) in
    let ascending : IsStrictlySortedBy (by_key g.K.Ord.cmp) [] = subst (IsStrictlySortedBy (by_key g.K.Ord.cmp)) none c.self.invariant in
    sym (sets_none (by_key g.K.Ord.cmp) c.keep_last.new.items.items c.keep_last.ensures.ascending) ∙ c.keep_last.ensures.same [] ∙ c.sort_by_key.ensures.same [] ascending
    ∙ ap (λ t. sets (by_key g.K.Ord.cmp) t c.args.new.items) (sym none ∙ mine)
