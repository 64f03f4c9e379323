use Rattle.std.proofs.Common.{◌≡◌, map}
use Rattle.std.specs.Map.Iter.{deref_pair}
use Rattle.sorted_vector_map.proofs.map.SortedVectorMap.extend_copied.Given as goal

abbrev pub invariant-loop-k : goal.invariant-loop-k
invariant-loop-k g l = l.new.items ≡ map deref_pair l.yielded
