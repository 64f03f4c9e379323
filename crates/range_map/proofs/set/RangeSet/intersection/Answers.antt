use Rattle.std.proofs.Common.{ap}
use Rattle.range_map.specs.Set.{all_in_numbers}
use Rattle.range_map.proofs.CommonLemmas.{common_start, common_apart, common_left, common_right}
use Rattle.range_map.proofs.set.RangeSet.intersection.Goals as goal

pub loop-first-init : goal.loop-first-init
loop-first-init g c = record {
  common = rw c.in_ok-set.ensures
      (common_start _ _ _ _ (rw c.as_slice-left.ensures.value c.self.invariant.canonical) (rw c.as_slice-right.ensures.value c.other.invariant.canonical));
}

pub push_common-requires : goal.push_common-requires
push_common-requires g c =
    common_apart _ _ _ _ _ _ _ _ _ _ _
    (ap (all_in_numbers g.T.Element.numbers) c.in-Some.ensures.cases.0) (ap (all_in_numbers g.T.Element.numbers) c.in-Some-split_first.ensures.cases.0)
    c.loop-first.invariant.common

pub loop-first-preserved-then-is_below : goal.loop-first-preserved-then-is_below
loop-first-preserved-then-is_below g c = record {
  common = common_left _ _ _ _ _ _ _ _ _ _ _ _
      (ap (all_in_numbers g.T.Element.numbers) c.in-Some.ensures.cases.0) (ap (all_in_numbers g.T.Element.numbers) c.in-Some-split_first.ensures.cases.0)
      c.loop-first.invariant.common c.in_ok-push_common.ensures
      (rw (← c.end.ensures.value, ← c.end-in-Some.ensures.value) c.if-is_below.ensures);
}

pub loop-first-preserved : goal.loop-first-preserved
loop-first-preserved g c = record {
  common = common_right _ _ _ _ _ _ _ _ _ _ _ _
      (ap (all_in_numbers g.T.Element.numbers) c.in-Some.ensures.cases.0) (ap (all_in_numbers g.T.Element.numbers) c.in-Some-split_first.ensures.cases.0)
      c.loop-first.invariant.common c.in_ok-push_common.ensures
      (rw (← c.end.ensures.value, ← c.end-in-Some.ensures.value) c.if-is_below.ensures);
}
