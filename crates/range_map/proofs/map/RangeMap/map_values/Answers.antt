use Rattle.std.proofs.Common.{◌≡◌, ap, ◌∙◌}
use Rattle.std.specs.Fn.{CalledAt}
use Rattle.number_line.specs.Answered.{IsAnswered}
use Rattle.number_line.specs.Merged.{merged}
use Rattle.number_line.proofs.AnsweredLemmas.{answered_joined, answered_keys, answered_canonical}
use Rattle.ordered_lists.proofs.RetainLemmas.{take_front}
use Rattle.range_map.specs.Valued.{pairs_in_numbers}
use Rattle.range_map.proofs.map.RangeMap.map_values.Goals as goal

-- what the map becomes: the answers, merged
joined : (g : _) (c : goal.After-drop-f g) → pairs_in_numbers g.T.Element.numbers c.join_touching.new.pairs.items
    ≡ merged g.V.PartialEq.eq (pairs_in_numbers g.T.Element.numbers c.answer_each.new.pairs)
joined g c =
    c.join_touching.ensures.merged
    ∙ ap (λ l. merged g.V.PartialEq.eq (pairs_in_numbers g.T.Element.numbers l)) (take_front _ _ _ (c.answer_each.auto.pairs ∙ c.deref_mut.ensures.len))

answered : (g : _) (c : goal.After-drop-f g) → IsAnswered (CalledAt g.F.FnMut) c.args.f (pairs_in_numbers g.T.Element.numbers c.self.inside.pairs.items)
    (pairs_in_numbers g.T.Element.numbers c.answer_each.new.pairs)
answered g c = rw (← c.deref_mut.ensures.value) c.answer_each.ensures.answered

pub invariant_of-self : goal.invariant_of-self
invariant_of-self g c = record {
  are_ranges = c.join_touching.ensures.ranges;
  canonical = answered_canonical (CalledAt g.F.FnMut) g.V.PartialEq.eq g.V.PartialEq.eq _ _ _ _ _ _ c.self.invariant.canonical (answered g c) (joined g c);
}

pub returns-clause-canonical : goal.returns-clause-canonical
returns-clause-canonical g c = (invariant_of-self g c).canonical

pub returns-clause-joined : goal.returns-clause-joined
returns-clause-joined g c =
    rw (← c.self.view_is)
    (answered_joined (CalledAt g.F.FnMut) g.V.PartialEq.eq g.V.PartialEq.eq _ _ _ _ _ _ c.self.invariant.canonical (answered g c) (joined g c))

pub returns-clause-keys : goal.returns-clause-keys
returns-clause-keys g c =
    rw (← c.self.view_is)
    (answered_keys (CalledAt g.F.FnMut) g.V.PartialEq.eq g.V.PartialEq.eq _ _ _ _ _ _ g.met.V.Eq.laws c.self.invariant.canonical (answered g c) (joined g c))
