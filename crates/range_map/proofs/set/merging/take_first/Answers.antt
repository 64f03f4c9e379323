use Rattle.std.proofs.lemmas.List.{nil_from_length}
use Rattle.range_map.proofs.MergeLemmas.{taken_left_alone, taken_right_alone, taken_left, taken_right}
use Rattle.range_map.proofs.set.merging.take_first.Goals as goal

pub returns-in_default-clause-taken : goal.returns-in_default-clause-taken
returns-in_default-clause-taken g c =
    rw (c.in_ok-b.ensures.cases.0, nil_from_length _ c.in_default.ensures.cases) (taken_right_alone _ _ _)

pub returns-in_default-split_first-clause-taken : goal.returns-in_default-split_first-clause-taken
returns-in_default-split_first-clause-taken g c =
    rw (c.in-Some.ensures.cases.0, nil_from_length _ c.in_default-split_first.ensures.cases) (taken_left_alone _ _ _)

pub returns-then-is_below-clause-taken : goal.returns-then-is_below-clause-taken
returns-then-is_below-clause-taken g c =
    rw (c.in-Some.ensures.cases.0, c.in-Some-split_first.ensures.cases.0)
    (taken_right _ _ _ _ _ (rw (← c.start.ensures.value, ← c.start-2.ensures.value) c.if-is_below.ensures))

pub returns-else-is_below-clause-taken : goal.returns-else-is_below-clause-taken
returns-else-is_below-clause-taken g c =
    rw (c.in-Some.ensures.cases.0, c.in-Some-split_first.ensures.cases.0)
    (taken_left _ _ _ _ _ (rw (← c.start.ensures.value, ← c.start-2.ensures.value) c.if-is_below.ensures))
