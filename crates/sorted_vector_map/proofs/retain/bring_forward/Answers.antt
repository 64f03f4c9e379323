use Rattle.std.proofs.Common.{◌+◌, ◌<◌, Bool, length, get_or, take, drop, subst, arith}
use Rattle.std.specs.Map.Calls.{CalledAtPair}
use Rattle.ordered_lists.proofs.RetainLemmas.{begun, before_item, passes, fails, at_end}
use Rattle.sorted_vector_map.proofs.RetainLemmas.{AtPair, pairs_called, pairs_retained}
use Rattle.sorted_vector_map.proofs.retain.bring_forward.Goals as goal
use Rattle.sorted_vector_map.proofs.retain.bring_forward.Goals.{then-passes, else-passes}

pub passes-requires : goal.passes-requires
passes-requires g c =
    let l = c.loop-at in
    let pair = get_or l.pairs l.at c.index-pairs-at.result in
    let lt : l.at < length l.pairs = omega (arith, l.invariant.len) in
    c.requires.at (take l.at c.args.pairs.now) (drop (l.at + 1) c.args.pairs.now) l.f pair.0 pair.1
    (before_item (AtPair (CalledAtPair g.F.FnMut)) c.args.f.now c.args.pairs.now l.f l.pairs l.kept l.at pair l.invariant lt (λ i. get_or l.pairs l.at (c.index-pairs-at.is i)))
    (pairs_called (CalledAtPair g.F.FnMut) _ _ _ l.invariant.calls)

pub loop-at-init : goal.loop-at-init
loop-at-init g c = begun (AtPair (CalledAtPair g.F.FnMut)) c.args.f.now c.args.pairs.now

pub loop-at-preserved : goal.loop-at-preserved
loop-at-preserved g c =
    let l = c.loop-at in
    let pair = get_or l.pairs l.at c.index-pairs-at.result in
    let lt : l.at < length l.pairs = omega (arith, l.invariant.len) in
    elim c.if-passes.branch [
      | then-passes w ↦
          let called = subst (λ (b : Bool). CalledAtPair g.F.FnMut l.f pair.0 pair.1 b c.passes.new.pair.1 c.passes.new.f) w.if-passes.true c.passes.ensures.called in
          rw (w.pairs-is, w.kept-is, w.swap.ensures.after)
          (passes (AtPair (CalledAtPair g.F.FnMut)) c.args.f.now c.args.pairs.now l.f l.pairs l.kept l.at pair c.passes.new.f c.passes.new.pair l.invariant lt (λ i. get_or l.pairs l.at (c.index-pairs-at.is i)) (called, c.passes.ensures.key))
      | else-passes w ↦
          let called = subst (λ (b : Bool). CalledAtPair g.F.FnMut l.f pair.0 pair.1 b c.passes.new.pair.1 c.passes.new.f) w.if-passes.false c.passes.ensures.called in
          rw (w.pairs-is, w.kept-is)
          (fails (AtPair (CalledAtPair g.F.FnMut)) c.args.f.now c.args.pairs.now l.f l.pairs l.kept l.at pair c.passes.new.f c.passes.new.pair l.invariant lt (λ i. get_or l.pairs l.at (c.index-pairs-at.is i)) (called, c.passes.ensures.key))
    ]

pub returns-clause-kept : goal.returns-clause-kept
returns-clause-kept g c = pairs_retained (CalledAtPair g.F.FnMut) _ _ _ (at_end _ _ _ _ _ _ _ c.loop-at.invariant (omega arith))
