use Rattle.range_map.proofs.MergeLemmas.{merged_next, merged_step}
use Rattle.range_map.proofs.set.RangeSet.union.Goals as goal

pub push_joined-requires : goal.push_joined-requires
push_joined-requires g c =
    (merged_next _ _ _ _ _ _ _ _ _ _ c.loop-taken.invariant.merged c.in-Some.ensures.taken).0

pub loop-taken-preserved : goal.loop-taken-preserved
loop-taken-preserved g c = record {
  merged = merged_step _ _ _ _ _ _ _ _ _ _ _ c.loop-taken.invariant.merged c.in-Some.ensures.taken c.in_ok-push_joined.ensures;
}
