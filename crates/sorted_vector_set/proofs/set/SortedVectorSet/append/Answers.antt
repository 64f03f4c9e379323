use Rattle.std.proofs.Common.{◌≡◌, [], arith, sym, ap, ◌∙◌, subst}
use Rattle.std.specs.List.Sorted.{IsStrictlySortedBy}
use Rattle.std.specs.Vec.{vec_len}
use Rattle.std.proofs.lemmas.Bool.Decides.{nat_tests}
use Rattle.ordered_lists.specs.Lists.{sets}
use Rattle.ordered_lists.proofs.MergeLemmas.{merged_behind, sets_ascend, sets_none, no_item}
use Rattle.ordered_lists.proofs.StableLemmas.{sorted_ascending}
use Rattle.sorted_vector_set.specs.Content.{Content}
use Rattle.sorted_vector_set.proofs.set.SortedVectorSet.append.Goals as goal

pub open_for-requires : goal.open_for-requires
open_for-requires g c = rw c.deref.ensures.value (sorted_ascending g.T.Ord.cmp g.met.T.Ord.total _ c.other.invariant)

pub merge_in-requires-clause-whole : goal.merge_in-requires-clause-whole
merge_in-requires-clause-whole g c =
    let cmp = g.T.Ord.cmp in
    let given : c.replace-new.result.items ≡ c.deref.result.now = ap (λ (v : _). v.items) c.replace-new.ensures.value ∙ sym c.deref.ensures.value in
    let joined = merged_behind cmp c.args.self.now.items c.open_for.new.self.items c.in-Some.tail.items c.deref.result.now c.replace-new.result.items c.in-Some.ensures.parts c.in-Some.ensures.stays (ap (sets cmp c.in-Some.tail.items) given) in
    subst (IsStrictlySortedBy cmp) (sym joined) (sets_ascend cmp g.met.T.Ord.total c.args.self.now.items c.deref.result.now c.in-Some.ensures.ascending)

pub invariant_of-other-2 : goal.invariant_of-other-2
unfolding IsStrictlySortedBy
invariant_of-other-2 g c = rw (c.replace-new.ensures.after, c.new.ensures.items) tt

pub returns-then-is_empty-clause-items : goal.returns-then-is_empty-clause-items
returns-then-is_empty-clause-items g c =
    let cmp = g.T.Ord.cmp in
    let mine : c.self.inside.items.items ≡ c.args.self.now.items = ap (λ (s : Content g.row.T.Denot). s.items) c.self.view_is in
    let theirs : c.other.inside.items.items ≡ c.args.other.now.items = ap (λ (s : Content g.row.T.Denot). s.items) c.other.view_is in
    let len : vec_len c.self.inside.items ≡ 0 = grind (arith, nat_tests) in
    let none : c.self.inside.items.items ≡ [] = no_item c.self.inside.items.items (omega (arith, c.self.inside.items.ok)) in
    let all = sets_none cmp c.args.other.now.items (subst (IsStrictlySortedBy cmp) theirs c.other.invariant) in
    ap (λ v. v.items) c.swap.ensures.x_after ∙ theirs ∙ sym (ap (λ t. sets cmp t c.args.other.now.items) (sym mine ∙ none) ∙ all)
