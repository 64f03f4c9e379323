use Rattle.std.specs.Fn.{CalledAt}
use Rattle.ordered_lists.proofs.RetainLemmas.{HasComeTo}
use Rattle.sorted_vector_set.proofs.KeepLemmas.{AtItem}
use Rattle.sorted_vector_set.proofs.retain.bring_forward.Given as goal

abbrev pub invariant-loop-at : goal.invariant-loop-at
invariant-loop-at g l = HasComeTo (AtItem (CalledAt g.F.FnMut)) l.initial.f l.initial.items l.f l.items l.kept l.at
