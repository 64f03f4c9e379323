use Rattle.std.specs.Map.Calls.{CalledAtPair}
use Rattle.ordered_lists.proofs.RetainLemmas.{HasComeTo}
use Rattle.sorted_vector_map.proofs.RetainLemmas.{AtPair}
use Rattle.sorted_vector_map.proofs.retain.bring_forward.Given as goal

abbrev pub invariant-loop-at : goal.invariant-loop-at
invariant-loop-at g l = HasComeTo (AtPair (CalledAtPair g.F.FnMut)) l.initial.f l.initial.pairs l.f l.pairs l.kept l.at
