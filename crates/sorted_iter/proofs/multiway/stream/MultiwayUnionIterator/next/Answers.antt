use Rattle.std.proofs.Common.{◌≡◌, ◌∷◌, [], ◌++◌, ◌<◌, arith, subst, sym}
use Rattle.std.specs.declared.cmp.Ordering.TheVariants.{Equal}
use Rattle.sorted_iter.specs.MultiwayHeads.{heads_left}
use Rattle.sorted_iter.specs.MultiwaySteps.{TakesEach}
use Rattle.sorted_iter.proofs.MultiwayTakeLemmas.{finite_heads}
use Rattle.sorted_iter.proofs.MultiwayStepLemmas.{all-more, takes-more, above_left}
use Rattle.sorted_iter.proofs.multiway.stream.MultiwayUnionIterator.next.Goals as goal

pub loop-equal-preserved : goal.loop-equal-preserved
loop-equal-preserved g c =
    let i = c.loop-equal.invariant in
    let e = c.in-Some.ensures in
    let cmp = g.I.Item.Ord.cmp in (
      e.can,
      omega (arith, i.1, e.fewer),
      (i.2.0 ++ c.in-Some.equal ∷ [], takes-more g.met.I.Item.Ord.total g.I.Iterator.next_gives (c.in_ok-x.x ∷ i.2.0) _ _ _ _ i.2.1 e.takes.1, all-more (λ y. cmp c.in_ok-x.x y ≡ Equal) i.2.0 _ i.2.2 e.takes.0),
    )

pub returns-clause-steps : goal.returns-clause-steps
returns-clause-steps g c =
    let i = c.loop-equal.invariant in
    let e = c.in_default.ensures in
    let s = subst (λ hs. TakesEach g.I.Item.Ord.cmp g.I.Iterator.next_gives c.args.self.now.heads.items (c.in_ok-x.x ∷ i.2.0) hs) (sym e.takes.0) i.2.1 in
    (i.2.0, s, i.2.2, λ low. above_left g.met.I.Item.Ord.total g.I.Iterator.next_gives c.take_equal.new.heads.items c.in_ok-x.x e.heap (rw e.takes.0 e.takes.1) low)

pub returns-clause-goes : goal.returns-clause-goes
returns-clause-goes g c =
    let i = c.loop-equal.invariant in
    let e = c.in_default.ensures in
    let left = g.I.Iterator.remaining in
    let less = subst (λ hs. heads_left left hs < heads_left left c.args.self.now.heads.items) (sym e.takes.0) i.1 in
    record { on = λ _. (e.can, finite_heads g.I.Iterator.can_next left c.take_equal.new.heads.items e.can, less); keeps = e.can; rests = λ _. tt }
