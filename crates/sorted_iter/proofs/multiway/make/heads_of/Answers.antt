use Rattle.std.proofs.Common.{IfSome, inl, inr, refl, sym, subst, append-nil, length, List, [], ◌∷◌, ◌++◌}
use Rattle.std.proofs.iter.runs.Made.{run_of_turn, run_of_exit, seen}
use Rattle.std.proofs.lemmas.List.Elements.{All-push}
use Rattle.std.specs.Iterator.{IsFinite}
use Rattle.sorted_iter.specs.declared.multiway.heads.InputHead.{InputHead}
use Rattle.sorted_iter.specs.MultiwayHeads.{can_go}
use Rattle.sorted_iter.specs.MultiwaySteps.{Started}
use Rattle.sorted_iter.proofs.MultiwayStartLemmas.{started-more}
use Rattle.sorted_iter.proofs.multiway.make.heads_of.Goals as goal

pub loop-it-preserved-in-Continue-1 : goal.loop-it-preserved-in-Continue-1
loop-it-preserved-in-Continue-1 g c =
    let i = c.loop-it.invariant in
    let n = c.in-Some.ensures.goes in
    let e = c.into_iter-it-iterator.ensures.into_iter_gives in
    let r = run_of_turn g.T.IntoIter.Iterator.next_gives _ _ _ c.loop-it.yielded_by c.in-Some.it _ c.in-Some.ensures.steps in
    let ok = subst (λ o. IfSome o (λ it. g.I.Iterator.can_next it × IsFinite (g.I.Iterator.remaining it))) r.2.2 ((c.requires.sources _ e).2 r.0 (seen _) r.1 (length c.loop-it.yielded)) in
    let on = c.in-Some-next.ensures.goes.on ok.1 in (
      n.keeps,
      (n.on i.1).1,
      rw c.in_ok-push.ensures.items (All-push (can_go g.I.Iterator.can_next g.I.Iterator.remaining) _ _ i.2 (on.0, on.1)),
      rw c.in_ok-push.ensures.items (started-more g.I.Iterator.next_gives _ _ c.in-Some.it _ i.3 (inr (c.in-Some-next.item, c.next-in-loop-it.new.self, c.in-Some-next.ensures.steps, refl))),
    )

pub loop-it-preserved : goal.loop-it-preserved
loop-it-preserved g c =
    let i = c.loop-it.invariant in
    let n = c.in-Some.ensures.goes in
    let S = InputHead g.row.I.Denot g.row.I-Item.Denot in (
      n.keeps,
      (n.on i.1).1,
      i.2,
      subst (λ (l : List S). Started g.I.Iterator.next_gives (c.loop-it.yielded ++ c.in-Some.it ∷ []) l) (append-nil c.loop-it.heads.items) (started-more g.I.Iterator.next_gives _ _ c.in-Some.it _ i.3 (inl (c.next-in-loop-it.new.self, c.in_default.ensures.steps, refl))),
    )

pub returns-clause-started : goal.returns-clause-started
returns-clause-started g c =
    let i = c.loop-it.invariant in
    let e = c.into_iter-it-iterator.ensures.into_iter_gives in
    let r = run_of_exit g.T.IntoIter.Iterator.next_gives _ _ _ c.loop-it.yielded_by _ c.in-None.ensures.steps in
    (c.into_iter-it-iterator.result, e, (r.0, r.1, r.2, subst (λ l. Started g.I.Iterator.next_gives l c.loop-it.heads.items) (sym r.3.0) i.3))
