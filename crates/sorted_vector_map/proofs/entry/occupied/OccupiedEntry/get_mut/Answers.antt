use Rattle.std.proofs.Common.{refl}
use Rattle.sorted_vector_map.specs.Entry.{keeps_within}
use Rattle.sorted_vector_map.proofs.EntryLemmas.{same_place}
use Rattle.sorted_vector_map.proofs.entry.occupied.OccupiedEntry.get_mut.Goals as goal

pub invariant_of-self-lent : goal.invariant_of-self-lent
invariant_of-self-lent g c w = (keeps_within c.args.self.now w, tt)

pub returns : goal.returns
returns g c = ((refl, λ w. same_place _ _ _ _), record { writes_back = tt; value = c.value_mut_at.ensures.value })
