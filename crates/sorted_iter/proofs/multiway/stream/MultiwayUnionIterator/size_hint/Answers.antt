use Rattle.std.proofs.Common.{sym, subst, ap, IfSome}
use Rattle.std.specs.Iterator.{UpTo}
use Rattle.std.specs.Iterator.SizeHint.{IsWithinCount}
use Rattle.sorted_iter.proofs.MultiwayHintLemmas.{lower_within, upper_above, hint-bounds}
use Rattle.sorted_iter.specs.MultiwayHeads.{heads_count}
use Rattle.sorted_iter.specs.MultiwayHints.{BoundsRuns}
use Rattle.sorted_iter.specs.MultiwayViews.{union_heads, multiway_steps}
use Rattle.sorted_iter.proofs.multiway.stream.MultiwayUnionIterator.size_hint.Goals as goal

pub returns-clause-lower : goal.returns-clause-lower
returns-clause-lower g c =
    let left = g.I.Iterator.remaining in
    let hs = union_heads c.args.self.now in
    let e = c.hint_of.ensures in
    subst (λ n. IsWithinCount n (heads_count left hs)) (ap (λ h. h.0) (sym e.1)) (lower_within left hs e.0 e.2)

pub returns-clause-upper : goal.returns-clause-upper
returns-clause-upper g c =
    let left = g.I.Iterator.remaining in
    let hs = union_heads c.args.self.now in
    let e = c.hint_of.ensures in
    subst (λ n. IfSome n (UpTo (heads_count left hs))) (ap (λ h. h.1) (sym e.1)) (upper_above left hs e.0 e.2)

pub returns-clause-hints : goal.returns-clause-hints
returns-clause-hints g c =
    let e = c.hint_of.ensures in
    let s = c.args.self.now in
    record {
      hints = e.0;
      asked = e.2;
      is = e.1;
      bounds = λ up each. subst (BoundsRuns (multiway_steps g.I.Item.Ord.cmp g.I.Iterator.next_gives) s) (sym e.1) (hint-bounds g.met.I.Item.Ord.total g.I.Iterator.next_gives union_heads s e.0 up each);
    }
