use Rattle.range_map.specs.Changing.{CalledAtValue}
use Rattle.ordered_lists.proofs.RetainLemmas.{HasComeTo}
use Rattle.range_map.proofs.ChangeLemmas.{StaysAtCall}
use Rattle.range_map.proofs.pairs.bring_forward.Given as goal

abbrev pub invariant-loop-at : goal.invariant-loop-at
invariant-loop-at g l = record {
  callable : goal.F-IsAlwaysCallable g l.f;
  come : HasComeTo (StaysAtCall (CalledAtValue g.F.FnMut)) l.initial.f l.initial.pairs l.f l.pairs l.kept l.at;
}
