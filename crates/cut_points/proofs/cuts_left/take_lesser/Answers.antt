use Rattle.std.proofs.Common.{◌∙◌}
use Rattle.cut_points.proofs.EitherLemmas.{left_first, right_first, neither, right_last}
use Rattle.cut_points.proofs.cuts_left.take_lesser.Goals as goal

pub returns-in-Less-clause-some : goal.returns-in-Less-clause-some
returns-in-Less-clause-some g c =
    let n = g.T.Element.numbers in
    let a = c.in-Some.ensures.some in
    let b = c.in-Some-peek.ensures.some in
    c.loop-first.invariant
    ∙ left_first n.least n.greatest c.loop-first.left c.loop-first.right (n.number c.in-Some.first) a.0 (n.number c.in-Some-peek.second) b.0 a.1 b.1
    c.peek.ensures.ascending c.peek-in-Some.ensures.ascending c.pass-in-Less.new.self c.pass-in-Less.ensures c.in-Less.ensures

pub returns-in-Greater-clause-some : goal.returns-in-Greater-clause-some
returns-in-Greater-clause-some g c =
    let n = g.T.Element.numbers in
    let a = c.in-Some.ensures.some in
    let b = c.in-Some-peek.ensures.some in
    c.loop-first.invariant
    ∙ right_first n.least n.greatest c.loop-first.left c.loop-first.right (n.number c.in-Some.first) a.0 (n.number c.in-Some-peek.second) b.0 a.1 b.1
    c.peek.ensures.ascending c.peek-in-Some.ensures.ascending c.pass-in-Greater.new.self c.pass-in-Greater.ensures c.in-Greater.ensures

pub loop-first-preserved : goal.loop-first-preserved
loop-first-preserved g c =
    let n = g.T.Element.numbers in
    let a = c.in-Some.ensures.some in
    let b = c.in-Some-peek.ensures.some in
    c.loop-first.invariant
    ∙ neither n.least n.greatest c.loop-first.left c.loop-first.right (n.number c.in-Some.first) a.0 (n.number c.in-Some-peek.second) b.0 a.1 b.1
    c.peek.ensures.ascending c.peek-in-Some.ensures.ascending c.pass-in-Equal.new.self c.pass-in-Equal-2.new.self
    c.pass-in-Equal.ensures c.pass-in-Equal-2.ensures c.in-Equal.ensures

pub returns-clause-some : goal.returns-clause-some
returns-clause-some g c =
    let n = g.T.Element.numbers in
    let b = c.in_ok-last.ensures.some in
    c.loop-first.invariant
    ∙ right_last n.least n.greatest c.loop-first.left c.loop-first.right c.pass-2.new.self (n.number c.in_ok-last.last) b.0
    c.in_default.ensures.none b.1 c.peek-2.ensures.ascending c.pass-2.ensures
