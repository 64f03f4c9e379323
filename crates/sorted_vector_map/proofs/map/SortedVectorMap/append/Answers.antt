use Rattle.std.proofs.Common.{◌≡◌, [], arith, sym, ap, ◌∙◌, subst}
use Rattle.std.specs.List.Sorted.{IsStrictlySortedBy}
use Rattle.ordered_lists.specs.Lists.{by_key, sets}
use Rattle.ordered_lists.proofs.PairLemmas.{by_key_total}
use Rattle.ordered_lists.proofs.MergeLemmas.{merged_behind, sets_ascend, sets_none, no_item}
use Rattle.std.proofs.lemmas.Bool.Decides.{nat_tests}
use Rattle.std.specs.Vec.{vec_len}
use Rattle.sorted_vector_map.specs.Content.{Content}
use Rattle.ordered_lists.proofs.StableLemmas.{sorted_ascending}
use Rattle.sorted_vector_map.proofs.map.SortedVectorMap.append.Goals as goal

pub open_for-requires : goal.open_for-requires
open_for-requires g c = rw c.deref.ensures.value (sorted_ascending (by_key g.K.Ord.cmp) (by_key_total g.met.K.Ord.total) _ c.other.invariant)

pub merge_in-requires-clause-whole : goal.merge_in-requires-clause-whole
merge_in-requires-clause-whole g c =
    let given : c.replace-new.result.items ≡ c.deref.result.now = ap (λ (v : _). v.items) c.replace-new.ensures.value ∙ sym c.deref.ensures.value in
    let joined = merged_behind (by_key g.K.Ord.cmp) c.args.self.now.pairs c.open_for.new.self.pairs c.in-Some.tail.items c.deref.result.now c.replace-new.result.items c.in-Some.ensures.parts c.in-Some.ensures.stays (ap (sets (by_key g.K.Ord.cmp) c.in-Some.tail.items) given) in
    subst (IsStrictlySortedBy (by_key g.K.Ord.cmp)) (sym joined) (sets_ascend (by_key g.K.Ord.cmp) (by_key_total g.met.K.Ord.total) c.args.self.now.pairs c.deref.result.now c.in-Some.ensures.ascending)

pub invariant_of-other-2 : goal.invariant_of-other-2
unfolding IsStrictlySortedBy
invariant_of-other-2 g c = rw (c.replace-new.ensures.after, c.new.ensures.items) tt

pub returns-then-is_empty-clause-pairs : goal.returns-then-is_empty-clause-pairs
returns-then-is_empty-clause-pairs g c =
    let mine : c.self.inside.items.items ≡ c.args.self.now.pairs = ap (λ (m : Content g.row.K.Denot g.row.V.Denot). m.pairs) c.self.view_is in
    let theirs : c.other.inside.items.items ≡ c.args.other.now.pairs = ap (λ (m : Content g.row.K.Denot g.row.V.Denot). m.pairs) c.other.view_is in
    let len : vec_len c.self.inside.items ≡ 0 = grind (arith, nat_tests) in
    let none : c.self.inside.items.items ≡ [] = no_item c.self.inside.items.items (omega (arith, c.self.inside.items.ok)) in
    let all = sets_none (by_key g.K.Ord.cmp) c.args.other.now.pairs (subst (IsStrictlySortedBy (by_key g.K.Ord.cmp)) theirs c.other.invariant) in
    ap (λ v. v.items) c.swap.ensures.x_after ∙ theirs ∙ sym (ap (λ t. sets (by_key g.K.Ord.cmp) t c.args.other.now.pairs) (sym mine ∙ none) ∙ all)
