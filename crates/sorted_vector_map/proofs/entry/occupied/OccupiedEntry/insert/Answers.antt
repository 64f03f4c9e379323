use Rattle.std.proofs.Common.{Some, ap, ◌∙◌}
use Rattle.sorted_vector_map.proofs.EntryLemmas.{stays_in_place, stores}
use Rattle.sorted_vector_map.proofs.entry.occupied.OccupiedEntry.insert.Goals as goal

pub returns-clause-stored : goal.returns-clause-stored
returns-clause-stored g c = stores c.args.self.now c.replace.new.dest ∙ ap Some c.replace.ensures.after

pub returns-clause-place : goal.returns-clause-place
returns-clause-place g c = stays_in_place c.args.self.now c.replace.new.dest
