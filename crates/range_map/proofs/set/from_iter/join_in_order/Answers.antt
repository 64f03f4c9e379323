use Rattle.std.proofs.Common.{◌≡◌, [], ◌∷◌, ◌+◌, drop, arith, ap}
use Rattle.std.proofs.lemmas.Grind.{common_steps}
use Rattle.range_map.specs.Set.{all_in_numbers}
use Rattle.range_map.proofs.JoinLemmas.{joined_start, joined_next, joined_step, joined_all}
use Rattle.range_map.proofs.set.from_iter.join_in_order.Goals as goal

pub loop-range-init : goal.loop-range-init
loop-range-init g c = record {
  joined = rw c.in_ok-set.ensures (joined_start _ _ _ c.requires);
}

pub push_joined-requires : goal.push_joined-requires
push_joined-requires g c =
    let i = c.loop-range.range-index in
    let e : drop i c.args.ranges.now ≡ c.range-item.result ∷ drop (i + 1) c.args.ranges.now = grind (arith, common_steps) in
    joined_next _ _ _ _ _ _ _ (ap (all_in_numbers g.T.Element.numbers) e) c.loop-range.invariant.joined

pub loop-range-preserved : goal.loop-range-preserved
loop-range-preserved g c =
    let i = c.loop-range.range-index in
    let e : drop i c.args.ranges.now ≡ c.range-item.result ∷ drop (i + 1) c.args.ranges.now = grind (arith, common_steps) in
    record {
      joined = joined_step _ _ _ _ _ _ _ _ (ap (all_in_numbers g.T.Element.numbers) e) c.loop-range.invariant.joined c.in_ok-push_joined.ensures;
    }

pub returns-clause-members : goal.returns-clause-members
returns-clause-members g c =
    let none : drop c.loop-range.range-index c.args.ranges.now ≡ [] = grind (arith, common_steps) in
    joined_all _ _ _ _ _ (ap (all_in_numbers g.T.Element.numbers) none) c.loop-range.invariant.joined
