use Rattle.std.proofs.Common.{sym, ◌∙◌}
use Rattle.sorted_pairs.proofs.MatchSteps.{unwanted, is_wanted, walked-none, left-ended_all, both-ended, left-ended, right-ended_all, right-ended, less-gives, less-on, equal-gives, equal-on, greater-gives, greater-on}
use Rattle.sorted_pairs.proofs.matching.next_match.Goals as goal

pub walk-init : goal.walk-init
walk-init g c = walked-none _ c.args.sides.now c.requires

pub returns-then-not-wants-clause-steps : goal.returns-then-not-wants-clause-steps
returns-then-not-wants-clause-steps g c = let l = rw c.in_default.is at c.take.ensures in left-ended_all c.walk.invariant l (unwanted _ c.if-not-wants.true)

pub returns-in_default-take-clause-steps : goal.returns-in_default-take-clause-steps
returns-in_default-take-clause-steps g c =
    let l = rw c.in_default.is at c.take.ensures in
    let r = rw c.in_default-take.is at c.take-in_default.ensures in
    both-ended c.walk.invariant l r

pub returns-in_default-clause-steps : goal.returns-in_default-clause-steps
returns-in_default-clause-steps g c =
    let l = rw c.in_default.is at c.take.ensures in
    let r = rw c.in-Some-take.is at c.take-in_default.ensures in
    left-ended c.walk.invariant l r (is_wanted _ c.if-not-wants.false)

pub returns-then-not-wants-2-clause-steps : goal.returns-then-not-wants-2-clause-steps
returns-then-not-wants-2-clause-steps g c =
    let l = rw c.in-Some.is at c.take.ensures in
    let r = rw c.in_default-take-2.is at c.take-in-walk.ensures in
    right-ended_all c.walk.invariant l r (unwanted _ c.if-not-wants-2.true)

pub returns-in_default-take-2-clause-steps : goal.returns-in_default-take-2-clause-steps
returns-in_default-take-2-clause-steps g c =
    let l = rw c.in-Some.is at c.take.ensures in
    let r = rw c.in_default-take-2.is at c.take-in-walk.ensures in
    right-ended c.walk.invariant l r (is_wanted _ c.if-not-wants-2.false)

pub returns-then-wants-clause-steps : goal.returns-then-wants-clause-steps
returns-then-wants-clause-steps g c =
    let l = rw c.in-Some.is at c.take.ensures in
    let r = rw c.in-Some-take-2.is at c.take-in-walk.ensures in
    less-gives c.walk.invariant l r c.put_back.ensures (sym c.cmp.ensures ∙ c.in-Less.is) c.if-wants.true

pub walk-preserved-in-Less-1 : goal.walk-preserved-in-Less-1
walk-preserved-in-Less-1 g c =
    let l = rw c.in-Some.is at c.take.ensures in
    let r = rw c.in-Some-take-2.is at c.take-in-walk.ensures in
    less-on c.walk.invariant l r c.put_back.ensures (sym c.cmp.ensures ∙ c.in-Less.is) c.if-wants.false

pub returns-then-wants-2-clause-steps : goal.returns-then-wants-2-clause-steps
returns-then-wants-2-clause-steps g c =
    let l = rw c.in-Some.is at c.take.ensures in
    let r = rw c.in-Some-take-2.is at c.take-in-walk.ensures in
    equal-gives c.walk.invariant l r (sym c.cmp.ensures ∙ c.in-Equal.is) c.if-wants-2.true

pub walk-preserved-in-Equal-1 : goal.walk-preserved-in-Equal-1
walk-preserved-in-Equal-1 g c =
    let l = rw c.in-Some.is at c.take.ensures in
    let r = rw c.in-Some-take-2.is at c.take-in-walk.ensures in
    equal-on c.walk.invariant l r (sym c.cmp.ensures ∙ c.in-Equal.is) c.if-wants-2.false

pub returns-then-wants-3-clause-steps : goal.returns-then-wants-3-clause-steps
returns-then-wants-3-clause-steps g c =
    let l = rw c.in-Some.is at c.take.ensures in
    let r = rw c.in-Some-take-2.is at c.take-in-walk.ensures in
    greater-gives c.walk.invariant l r c.put_back-in-Greater.ensures (sym c.cmp.ensures ∙ c.in-Greater.is) c.if-wants-3.true

pub walk-preserved : goal.walk-preserved
walk-preserved g c =
    let l = rw c.in-Some.is at c.take.ensures in
    let r = rw c.in-Some-take-2.is at c.take-in-walk.ensures in
    greater-on c.walk.invariant l r c.put_back-in-Greater.ensures (sym c.cmp.ensures ∙ c.in-Greater.is) c.if-wants-3.false
