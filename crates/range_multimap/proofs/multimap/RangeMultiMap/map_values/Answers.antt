use Rattle.std.proofs.Common.{◌≡◌, ◌∙◌}
use Rattle.std.specs.Vec.{with_items}
use Rattle.ordered_lists.proofs.RetainLemmas.{take_front}
use Rattle.range_multimap.proofs.multimap.RangeMultiMap.map_values.Goals as goal

items : (g : _) (c : goal.After-drop-f g) → (with_items c.self.inside.pairs c.answer_each.new.pairs).items ≡ c.answer_each.new.pairs
items g c = take_front _ _ _ (c.answer_each.auto.pairs ∙ c.deref_mut.ensures.len)

pub invariant_of-self : goal.invariant_of-self
invariant_of-self g c = rw (items g c) c.answer_each.ensures.ranges

pub returns : goal.returns
returns g c = rw (items g c, ← c.self.view_is, ← c.deref_mut.ensures.value) c.answer_each.ensures.answered
