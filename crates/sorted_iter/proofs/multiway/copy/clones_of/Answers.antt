use Rattle.std.proofs.Common.{◌≡◌, ◌+◌, [], ◌∷◌, ◌++◌, take, sym, subst, arith}
use Rattle.std.proofs.lemmas.Grind.{common_steps}
use Rattle.std.specs.List.{AllZip}
use Rattle.sorted_iter.proofs.MultiwayHintLemmas.{zip-push}
use Rattle.sorted_iter.specs.MultiwayClones.{IsHeadClone}
use Rattle.sorted_iter.proofs.multiway.copy.clones_of.Goals as goal

pub loop-head-preserved : goal.loop-head-preserved
loop-head-preserved g c =
    let heads = c.deref-head-items.result.now in
    let k = c.loop-head.head-index in
    let copies = c.loop-head.copies.items in
    let copy = c.in_ok-try_clone.field-0 in
    let more : take (k + 1) heads ≡ take k heads ++ c.head-item.result ∷ [] = grind (arith, common_steps) in
    let one = zip-push (IsHeadClone g.I.Clone.is_clone g.I.Item.Clone.is_clone) (take k heads) copies c.head-item.result copy c.loop-head.invariant c.in_ok-try_clone.ensures in
    let all = subst (λ l. AllZip (IsHeadClone g.I.Clone.is_clone g.I.Item.Clone.is_clone) l (copies ++ copy ∷ [])) (sym more) one in
    subst (AllZip (IsHeadClone g.I.Clone.is_clone g.I.Item.Clone.is_clone) (take (k + 1) heads)) (sym c.in_ok-push.ensures.items) all
