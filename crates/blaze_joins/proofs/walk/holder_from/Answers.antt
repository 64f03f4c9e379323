use Rattle.std.proofs.Common.{ap, refl, arith}
use Rattle.std.proofs.lemmas.Int.{ints}
use Rattle.number_line.proofs.OrderLemmas.{lt_yes, lt_no}
use Rattle.range_map.specs.Valued.{pairs_in_numbers}
use Rattle.blaze_joins.proofs.PlaceLemmas.{drop_there, drop_none}
use Rattle.blaze_joins.proofs.walk.holder_from.Goals as goal

pub returns-in-None-clause-end : goal.returns-in-None-clause-end
returns-in-None-clause-end g c =
    let is = ap (pairs_in_numbers g.T.Element.numbers) (drop_none c.args.pairs.now c.args.at c.in-None.ensures.lookup.3) in
    rw is c.max_value.ensures.number

pub returns-in-None-clause-value : goal.returns-in-None-clause-value
returns-in-None-clause-value g c =
    let is = ap (pairs_in_numbers g.T.Element.numbers) (drop_none c.args.pairs.now c.args.at c.in-None.ensures.lookup.3) in
    rw is refl

pub returns-then-not-is_below-clause-end : goal.returns-then-not-is_below-clause-end
returns-then-not-is_below-clause-end g c =
    let is = ap (pairs_in_numbers g.T.Element.numbers) (drop_there c.args.pairs.now c.args.at c.in-Some.first.now c.in-Some.ensures.lookup.3.0 c.in-Some.ensures.lookup.1) in
    rw (is, lt_no _ _ (rw c.start-from.ensures.value at c.if-not-is_below.ensures), c.end-end.ensures.value) refl

pub returns-then-not-is_below-clause-value : goal.returns-then-not-is_below-clause-value
returns-then-not-is_below-clause-value g c =
    let is = ap (pairs_in_numbers g.T.Element.numbers) (drop_there c.args.pairs.now c.args.at c.in-Some.first.now c.in-Some.ensures.lookup.3.0 c.in-Some.ensures.lookup.1) in
    rw (is, lt_no _ _ (rw c.start-from.ensures.value at c.if-not-is_below.ensures)) refl

pub returns-in-Some-predecessor-clause-end : goal.returns-in-Some-predecessor-clause-end
returns-in-Some-predecessor-clause-end g c =
    let is = ap (pairs_in_numbers g.T.Element.numbers) (drop_there c.args.pairs.now c.args.at c.in-Some.first.now c.in-Some.ensures.lookup.3.0 c.in-Some.ensures.lookup.1) in
    let step = rw c.start-from.ensures.value at c.in-Some-predecessor.ensures.before.1 in
    rw (is, lt_yes _ _ (rw c.start-from.ensures.value at c.if-not-is_below.ensures)) (omega (arith, ints))

pub returns-in-Some-predecessor-clause-value : goal.returns-in-Some-predecessor-clause-value
returns-in-Some-predecessor-clause-value g c =
    let is = ap (pairs_in_numbers g.T.Element.numbers) (drop_there c.args.pairs.now c.args.at c.in-Some.first.now c.in-Some.ensures.lookup.3.0 c.in-Some.ensures.lookup.1) in
    rw (is, lt_yes _ _ (rw c.start-from.ensures.value at c.if-not-is_below.ensures)) refl
