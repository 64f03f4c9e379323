use Rattle.std.proofs.Common.{◌≤◌, List}
use Rattle.std.specs.Iterator.{IsFinite, Yields, size}
use Rattle.std.specs.List.{FoldsTo}
use Rattle.sorted_pairs.specs.Calls.{MayBeCalled}
use Rattle.sorted_pairs.specs.ValueLaws.{PassesOver}
use Rattle.sorted_pairs.proofs.filter_map_values.FilterMapValuesIterator.next.Given as goal

abbrev pub invariant-loop-key : goal.invariant-loop-key
invariant-loop-key g l =
    g.I.Iterator.can_next l.self.source
    × IsFinite (g.I.Iterator.remaining l.self.source)
    × (size (g.I.Iterator.remaining l.self.source) ≤ size (g.I.Iterator.remaining l.fn.self.source))
    × MayBeCalled g.I.Iterator.next_gives g.F.FnMut l.self.source l.self.f
    × ((ps : List (g.row.K.Denot × g.row.V.Denot)) × FoldsTo (PassesOver g.F.FnMut) l.fn.self.f ps l.self.f × Yields g.I.Iterator.next_gives l.fn.self.source ps l.self.source)

abbrev pub decreases-loop-key : goal.decreases-loop-key
decreases-loop-key g l = size (g.I.Iterator.remaining l.self.source)
