use Rattle.std.proofs.Common.{◌<◌, Bool, length, get_or, subst, arith}
use Rattle.std.specs.Fn.{CalledAt}
use Rattle.range_map.specs.Changing.{CalledAtValue}
use Rattle.ordered_lists.proofs.RetainLemmas.{begun, at_end}
use Rattle.range_map.proofs.ChangeLemmas.{StaysAtCall, call_passes, call_fails, filtered_in_turn}
use Rattle.range_map.proofs.pairs.bring_forward.Goals as goal
use Rattle.range_map.proofs.pairs.bring_forward.Goals.{then-passes, else-passes}

pub loop-at-init : goal.loop-at-init
loop-at-init g c = record {
  callable = c.requires;
  come = begun (StaysAtCall (CalledAtValue g.F.FnMut)) c.args.f.now c.args.pairs.now;
}

pub loop-at-preserved : goal.loop-at-preserved
loop-at-preserved g c =
    let l = c.loop-at in
    let pair = get_or l.pairs l.at c.index-pairs-at.result in
    let lt : l.at < length l.pairs = omega (arith, l.invariant.come.len) in
    record {
      callable = c.passes.ensures.callable;
      come = elim c.if-passes.branch [
        | then-passes w ↦
            let called = subst (λ (b : Bool). CalledAt g.F.FnMut l.f pair.1 b c.passes.new.f) w.if-passes.true c.passes.ensures.called in
            rw (w.pairs-is, w.kept-is, w.swap.ensures.after)
            (call_passes (CalledAtValue g.F.FnMut) c.args.f.now c.args.pairs.now l.f c.passes.new.f l.pairs l.kept l.at pair l.invariant.come lt (λ i. get_or l.pairs l.at (c.index-pairs-at.is i)) called)
        | else-passes w ↦
            let called = subst (λ (b : Bool). CalledAt g.F.FnMut l.f pair.1 b c.passes.new.f) w.if-passes.false c.passes.ensures.called in
            rw (w.pairs-is, w.kept-is)
            (call_fails (CalledAtValue g.F.FnMut) c.args.f.now c.args.pairs.now l.f c.passes.new.f l.pairs l.kept l.at pair l.invariant.come lt (λ i. get_or l.pairs l.at (c.index-pairs-at.is i)) called)
      ];
    }

pub returns-clause-kept : goal.returns-clause-kept
returns-clause-kept g c =
    filtered_in_turn (CalledAtValue g.F.FnMut) _ _ _ (at_end (StaysAtCall (CalledAtValue g.F.FnMut)) _ _ _ _ _ _ c.loop-at.invariant.come (omega arith))
