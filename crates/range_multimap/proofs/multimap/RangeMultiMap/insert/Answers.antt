use Rattle.std.proofs.Common.{List, [], ◌∷◌, ◌++◌}
use Rattle.std.specs.Prelude.{Bool, true, false, if◌then◌else◌}
use Rattle.element_core.specs.Numbering.{Numbering}
use Rattle.range_map.specs.Range.{IsRange}
use Rattle.range_map.specs.Valued.{AreValuedRanges}
use Rattle.range_map.proofs.DividedLemmas.{valued-push}
use Rattle.range_multimap.proofs.multimap.RangeMultiMap.insert.Goals as goal

pushed_or_not : {T V : Type 0} (numbers : Numbering T) (pushed : Bool) (list : List ((T × T) × V)) (p : (T × T) × V) → AreValuedRanges numbers list → IsRange numbers p.0
    → AreValuedRanges numbers (if pushed then list ++ p ∷ [] else list)
pushed_or_not numbers true list p all r = valued-push numbers list p all r
pushed_or_not numbers false list p all r = all

pub invariant_of-self : goal.invariant_of-self
invariant_of-self g c = rw c.push.ensures.items (pushed_or_not g.T.Element.numbers _ _ _ c.self.invariant c.start.ensures.range)
