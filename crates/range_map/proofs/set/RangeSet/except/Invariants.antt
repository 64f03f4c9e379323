use Rattle.range_map.proofs.LeftOutLemmas.{IsWalkedTo}
use Rattle.range_map.proofs.set.RangeSet.except.Given as goal

abbrev pub invariant-loop-x : goal.invariant-loop-x
invariant-loop-x g l = record {
  can_next : (goal.iterator-loop-x g).can_next l.x-iterator;
  is_finite : (goal.iterator-loop-x g).is_finite l.x-iterator;
  walked : IsWalkedTo g.T.Element.numbers l.falls l.yielded l.last l.set;
}
