use Rattle.std.proofs.Common.{◌≡◌, ◌+◌, ◌<◌, Bool, length, get_or, set, take, drop, refl, subst, arith}
use Rattle.std.specs.Fn.{CalledAt}
use Rattle.std.specs.List.{swap}
use Rattle.ordered_lists.proofs.RetainLemmas.{HasComeTo, begun, before_item, passes, fails, at_end, same_set}
use Rattle.sorted_vector_set.proofs.KeepLemmas.{AtItem, items_called, items_filtered}
use Rattle.sorted_vector_set.proofs.retain.bring_forward.Goals as goal
use Rattle.sorted_vector_set.proofs.retain.bring_forward.Goals.{then-passes, else-passes}

pub passes-requires : goal.passes-requires
passes-requires g c =
    let l = c.loop-at in
    let x = get_or l.items l.at c.index-items-at.result in
    let is : x ≡ get_or l.items l.at x = λ i. get_or l.items l.at (c.index-items-at.is i) in
    let lt : l.at < length l.items = omega (arith, l.invariant.len) in
    c.requires.at (take l.at c.args.items.now) (drop (l.at + 1) c.args.items.now) l.f x
    (before_item (AtItem (CalledAt g.F.FnMut)) c.args.f.now c.args.items.now l.f l.items l.kept l.at x l.invariant lt is)
    (items_called (CalledAt g.F.FnMut) _ _ _ l.invariant.calls)

pub loop-at-init : goal.loop-at-init
loop-at-init g c = begun (AtItem (CalledAt g.F.FnMut)) c.args.f.now c.args.items.now

pub loop-at-preserved : goal.loop-at-preserved
loop-at-preserved g c =
    let l = c.loop-at in
    let x = get_or l.items l.at c.index-items-at.result in
    let is : x ≡ get_or l.items l.at x = λ i. get_or l.items l.at (c.index-items-at.is i) in
    let lt : l.at < length l.items = omega (arith, l.invariant.len) in
    let same : set l.items l.at x ≡ l.items = same_set l.items l.at x is in
    elim c.if-passes.branch [
      | then-passes w ↦
          let called = subst (λ (b : Bool). CalledAt g.F.FnMut l.f x b c.passes.new.f) w.if-passes.true c.passes.ensures in
          rw (w.items-is, w.kept-is, w.swap.ensures.after)
          (subst (λ ys. HasComeTo (AtItem (CalledAt g.F.FnMut)) c.args.f.now c.args.items.now c.passes.new.f (swap ys l.kept l.at) (l.kept + 1) (l.at + 1)) same
          (passes (AtItem (CalledAt g.F.FnMut)) c.args.f.now c.args.items.now l.f l.items l.kept l.at x c.passes.new.f x l.invariant lt is (called, refl)))
      | else-passes w ↦
          let called = subst (λ (b : Bool). CalledAt g.F.FnMut l.f x b c.passes.new.f) w.if-passes.false c.passes.ensures in
          rw (w.items-is, w.kept-is)
          (subst (λ ys. HasComeTo (AtItem (CalledAt g.F.FnMut)) c.args.f.now c.args.items.now c.passes.new.f ys l.kept (l.at + 1)) same
          (fails (AtItem (CalledAt g.F.FnMut)) c.args.f.now c.args.items.now l.f l.items l.kept l.at x c.passes.new.f x l.invariant lt is (called, refl)))
    ]

pub returns-clause-kept : goal.returns-clause-kept
returns-clause-kept g c = items_filtered (CalledAt g.F.FnMut) _ _ _ (at_end _ _ _ _ _ _ _ c.loop-at.invariant (omega arith))
