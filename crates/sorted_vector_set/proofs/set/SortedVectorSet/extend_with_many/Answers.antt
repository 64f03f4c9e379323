use Rattle.std.proofs.Common.{◌≡◌, [], arith, sym, ap, ◌∙◌, subst}
use Rattle.std.specs.List.Sorted.{IsStrictlySortedBy}
use Rattle.ordered_lists.specs.Lists.{sets}
use Rattle.ordered_lists.proofs.MergeLemmas.{merged_behind, sets_ascend, sets_none, no_item}
use Rattle.ordered_lists.proofs.StableLemmas.{sorted_sets}
use Rattle.sorted_vector_set.specs.Content.{Content}
use Rattle.sorted_vector_set.proofs.set.SortedVectorSet.extend_with_many.Goals as goal

pub merge_in-requires-clause-whole : goal.merge_in-requires-clause-whole
merge_in-requires-clause-whole g c =
    let cmp = g.T.Ord.cmp in
    let kept = c.keep_last-2.ensures.same c.in-Some.tail.items ∙ ap (sets cmp c.in-Some.tail.items) (sym c.deref.ensures.value) in
    let joined = merged_behind cmp c.args.self.now.items c.open_for.new.self.items c.in-Some.tail.items c.deref.result.now c.keep_last-2.new.items.items c.in-Some.ensures.parts c.in-Some.ensures.stays kept in
    subst (IsStrictlySortedBy cmp) (sym joined) (sets_ascend cmp g.met.T.Ord.total c.args.self.now.items c.deref.result.now c.in-Some.ensures.ascending)

pub returns-clause-items : goal.returns-clause-items
returns-clause-items g c =
    let cmp = g.T.Ord.cmp in
    let kept = c.keep_last-2.ensures.same c.in-Some.tail.items ∙ ap (sets cmp c.in-Some.tail.items) (sym c.deref.ensures.value) in
    let joined = merged_behind cmp c.args.self.now.items c.open_for.new.self.items c.in-Some.tail.items c.deref.result.now c.keep_last-2.new.items.items c.in-Some.ensures.parts c.in-Some.ensures.stays kept in
    c.merge_in.ensures ∙ joined ∙ ap (sets cmp c.args.self.now.items) c.deref.ensures.value ∙ sorted_sets cmp g.met.T.Ord.total c.args.self.now.items _ _ c.in-Some.ensures.ascending c.sort.ensures.stable

pub returns-then-capacity-eq0-clause-items : goal.returns-then-capacity-eq0-clause-items
returns-then-capacity-eq0-clause-items g c =
    let cmp = g.T.Ord.cmp in
    let mine : c.self.inside.items.items ≡ c.args.self.now.items = ap (λ (s : Content g.row.T.Denot). s.items) c.self.view_is in
    let none : c.self.inside.items.items ≡ [] = no_item c.self.inside.items.items (omega (arith, c.self.inside.items.ok, c.capacity.ensures, c.if-capacity-eq0.true)) in
    let ascending : IsStrictlySortedBy cmp [] = subst (IsStrictlySortedBy cmp) none c.self.invariant in
    sym (sets_none cmp c.keep_last.new.items.items c.keep_last.ensures.ascending) ∙ c.keep_last.ensures.same [] ∙ sorted_sets cmp g.met.T.Ord.total [] _ _ ascending c.sort.ensures.stable
    ∙ ap (λ t. sets cmp t c.args.new.items) (sym none ∙ mine)
