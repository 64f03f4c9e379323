use Rattle.std.proofs.Common.{ap, ◌∙◌}
use Rattle.std.specs.Ordering.{int_cmp}
use Rattle.ordered_lists.specs.Lists.{has}
use Rattle.cut_points.proofs.ManyLemmas.{union_numbers}
use Rattle.cut_points.proofs.ValueLemmas.{sorted_ascends}
use Rattle.cut_points.proofs.many.all_cuts.Goals as goal

pub set_of_values-requires : goal.set_of_values-requires
set_of_values-requires g c =
    let n = g.T.Element.numbers in
    let all = c.in_ok-all.all.items in
    let values = rw c.deref-3.ensures.value at c.are_values-2.ensures in
    rw c.deref-4.ensures.value (sorted_ascends g.T.Ord.cmp n g.met.T.Element.numbered all values c.in_ok-all.ensures.ascends)

pub returns-clause-members : goal.returns-clause-members
returns-clause-members g c = λ x.
    let n = g.T.Element.numbers in
    let each = c.in_ok-each.each.items in
    let all = c.in_ok-all.all.items in
    let each_values = rw c.deref-2.ensures.value at c.are_values.ensures in
    let all_values = rw c.deref-3.ensures.value at c.are_values-2.ensures in
    let union = rw c.deref.ensures.value at c.in_ok-all.ensures in
    let found = rw c.deref-4.ensures.value at c.in_ok-found.ensures.numbers in
    ap (λ l. has int_cmp l x) found
    ∙ (union_numbers g.T.Ord.cmp n g.met.T.Element.numbered each all each_values all_values union x ∙ ap (λ l. has int_cmp l x) c.in_ok-each.ensures)

pub returns-clause-ascending : goal.returns-clause-ascending
returns-clause-ascending g c =
    let n = g.T.Element.numbers in
    let all = c.in_ok-all.all.items in
    let values = rw c.deref-3.ensures.value at c.are_values-2.ensures in
    let found = rw c.deref-4.ensures.value at c.in_ok-found.ensures.numbers in
    rw found (sorted_ascends g.T.Ord.cmp n g.met.T.Element.numbered all values c.in_ok-all.ensures.ascends)
