use Rattle.std.proofs.Common.{rules, ◌≡◌, ◌∷◌, length, sym, ◌∙◌, ap}
use Rattle.std.specs.Vec.Iter.{into_iter_items, into_iter_len}
use Rattle.std.proofs.lemmas.Iterator.Consumers.{YieldsList-end}
use Rattle.std.proofs.lemmas.Iterator.Adapters.{YieldsList-from_vec}
use Rattle.std.proofs.lemmas.List.{map-id}
use Rattle.range_map.proofs.DividedLemmas.{valued-push, walked-discarded, walked-grown, walked-kept, walked-end}
use Rattle.range_map.proofs.map.from_iter.divide_sorted.Goals as goal

pub loop-pair-preserved-in-Continue-branch-2 : goal.loop-pair-preserved-in-Continue-branch-2
loop-pair-preserved-in-Continue-branch-2 g c = let so_far = c.loop-pair.invariant in record {
  first = so_far.first;
  seen = valued-push g.T.Element.numbers c.loop-pair.yielded c.in-Some-pair.pair so_far.seen c.start-in-loop-pair.ensures.range;
  last = so_far.last;
  ranges = so_far.ranges;
  rules = walked-discarded g.T.Element.numbers g.V.PartialEq.eq c.in-Some.last c.loop-pair.kept.items c.loop-pair.discarded.items c.loop-pair.last
      c.loop-pair.yielded so_far.rules c.in-Some-pair.pair c.push.new.self.items c.in_ok-push.ensures.items (sym c.clash.ensures ∙ c.if-clash.true);
}

pub loop-pair-preserved-then-join : goal.loop-pair-preserved-then-join
loop-pair-preserved-then-join g c = let so_far = c.loop-pair.invariant in record {
  first = so_far.first;
  seen = valued-push g.T.Element.numbers c.loop-pair.yielded c.in-Some-pair.pair so_far.seen c.start-in-loop-pair.ensures.range;
  last = c.grow-last.ensures.range;
  ranges = so_far.ranges;
  rules = walked-grown g.T.Element.numbers g.V.PartialEq.eq c.in-Some.last c.loop-pair.kept.items c.loop-pair.discarded.items c.loop-pair.last
      c.loop-pair.yielded so_far.rules c.in-Some-pair.pair c.grow-last.result c.grow-last.ensures.value
      (sym c.clash.ensures ∙ c.if-clash.false) (sym c.join.ensures ∙ c.if-join.true);
}

pub loop-pair-preserved : goal.loop-pair-preserved
loop-pair-preserved g c = let so_far = c.loop-pair.invariant in record {
  first = so_far.first;
  seen = valued-push g.T.Element.numbers c.loop-pair.yielded c.in-Some-pair.pair so_far.seen c.start-in-loop-pair.ensures.range;
  last = rw c.replace.ensures.after c.start-in-loop-pair.ensures.range;
  ranges = rw c.in_ok-push-2.ensures.items (valued-push g.T.Element.numbers c.loop-pair.kept.items c.replace.result so_far.ranges (rw c.replace.ensures.value so_far.last));
  rules = rw c.replace.ensures.after
      (walked-kept g.T.Element.numbers g.V.PartialEq.eq c.in-Some.last c.loop-pair.kept.items c.loop-pair.discarded.items c.loop-pair.last
      c.loop-pair.yielded so_far.rules c.in-Some-pair.pair c.push-else-join.new.self.items (rw c.replace.ensures.value at c.in_ok-push-2.ensures.items)
      (sym c.clash.ensures ∙ c.if-clash.false) (sym c.join.ensures ∙ c.if-join.false));
}

-- the pairs are the first one and those that the loop went over
all_seen : (g : _) (c : goal.In_ok-push-3 g) → c.args.pairs.items ≡ c.in-Some.last ∷ c.loop-pair.yielded
all_seen g c =
    let rest = into_iter_items c.next.new.self in
    let first : c.args.pairs.items ≡ c.in-Some.last ∷ rest = search rules in
    let items : into_iter_items c.into_iter-pair-iterator.result ≡ rest = search rules in
    let len : into_iter_len c.into_iter-pair-iterator.result ≡ length rest = search rules in
    let ends = YieldsList-end (YieldsList-from_vec rest items len)
    c.loop-pair.yielded c.loop-pair.pair-iterator c.loop-pair.yielded_by c.next-in-loop-pair.result c.next-in-loop-pair.new.self c.in-None.is c.next-in-loop-pair.ensures.steps in
    first ∙ ap (λ l. c.in-Some.last ∷ l) (sym ends.0 ∙ map-id c.loop-pair.yielded)

pub returns-clause-given : goal.returns-clause-given
returns-clause-given g c = rw (all_seen g c) (c.loop-pair.invariant.first, c.loop-pair.invariant.seen)

pub returns-clause-ranges : goal.returns-clause-ranges
returns-clause-ranges g c =
    rw c.in_ok-push-3.ensures.items (valued-push g.T.Element.numbers c.loop-pair.kept.items c.loop-pair.last c.loop-pair.invariant.ranges c.loop-pair.invariant.last)

pub returns-clause-rules : goal.returns-clause-rules
returns-clause-rules g c =
    walked-end g.T.Element.numbers g.V.PartialEq.eq c.in-Some.last c.loop-pair.kept.items c.loop-pair.discarded.items c.loop-pair.last c.loop-pair.yielded
    c.push-2.new.self.items c.args.pairs.items c.in_ok-push-3.ensures.items (all_seen g c) c.loop-pair.invariant.rules
