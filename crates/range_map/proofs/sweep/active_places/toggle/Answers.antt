use Rattle.std.proofs.Common.{◌≡◌, ◌+◌, ◌<◌, ◌∷◌, ◌++◌, [], arith}
use Rattle.range_map.proofs.OddLemmas.{below_last, below_raise, below_push, put_behind, taken_off}
use Rattle.range_map.proofs.sweep.active_places.toggle.Goals as goal

pub returns-in_ok-push-3-clause-ascending : goal.returns-in_ok-push-3-clause-ascending
returns-in_ok-push-3-clause-ascending c =
    let front = c.pop.new.self.items in
    let last = c.in-Some.last in
    let a = below_last 0 (c.args.place + 1) front last (rw c.in-Some.ensures.items at c.requires) in
    let less : last < c.args.place = omega (arith, a.2, c.if-last-place.true) in
    let all = below_raise 0 (last + 1) c.args.place (front ++ last ∷ []) (omega (arith, less)) (below_push 0 front last a.0 (omega arith)) in
    rw (c.in_ok-push-3.ensures.items, c.in_ok-push-2.ensures.items) (below_push 0 (front ++ last ∷ []) c.args.place all (omega arith))

pub returns-in_ok-push-3-clause-toggled : goal.returns-in_ok-push-3-clause-toggled
returns-in_ok-push-3-clause-toggled c =
    let front = c.pop.new.self.items in
    let last = c.in-Some.last in
    let a = below_last 0 (c.args.place + 1) front last (rw c.in-Some.ensures.items at c.requires) in
    let less : last < c.args.place = omega (arith, a.2, c.if-last-place.true) in
    let all = below_raise 0 (last + 1) c.args.place (front ++ last ∷ []) (omega (arith, less)) (below_push 0 front last a.0 (omega arith)) in
    λ other. rw (c.in_ok-push-3.ensures.items, c.in_ok-push-2.ensures.items, c.in-Some.ensures.items) (put_behind 0 (front ++ last ∷ []) c.args.place all other)

pub returns-else-last-place-clause-ascending : goal.returns-else-last-place-clause-ascending
returns-else-last-place-clause-ascending c =
    let front = c.pop.new.self.items in
    let last = c.in-Some.last in
    let a = below_last 0 (c.args.place + 1) front last (rw c.in-Some.ensures.items at c.requires) in
    below_raise 0 last (c.args.place + 1) front (omega (arith, a.2)) a.0

pub returns-else-last-place-clause-toggled : goal.returns-else-last-place-clause-toggled
returns-else-last-place-clause-toggled c =
    let front = c.pop.new.self.items in
    let last = c.in-Some.last in
    let a = below_last 0 (c.args.place + 1) front last (rw c.in-Some.ensures.items at c.requires) in
    let same : c.args.place ≡ last = omega (arith, c.if-last-place.false) in
    λ other. rw (c.in-Some.ensures.items, same) (taken_off 0 front last a.0 other)
