use Rattle.sorted_iter.proofs.MultiwayCloneLemmas.{all_follow, clones_come_alike, clones_ascend, clones_heap}
use Rattle.sorted_iter.proofs.multiway.MultiwayUnion.try_clone.Goals as goal

pub returns-clause-same : goal.returns-clause-same
returns-clause-same g c =
    let o = g.met.I.Item.Ord.total in
    let steps = g.I.Iterator.next_gives in
    let can = g.I.Iterator.can_next in
    let left = g.I.Iterator.remaining in
    let z = all_follow o steps can left g.I.Clone.is_clone g.I.Item.Clone.is_clone c.requires.inputs c.requires.items c.args.self.now.heads.items c.in_ok-heads.heads.items c.in_ok-heads.ensures in
    clones_come_alike o steps can left c.args.self.now.heads.items c.in_ok-heads.heads.items z

pub returns-clause-in_order : goal.returns-clause-in_order
returns-clause-in_order g c = λ up.
    let o = g.met.I.Item.Ord.total in
    let steps = g.I.Iterator.next_gives in
    let can = g.I.Iterator.can_next in
    let left = g.I.Iterator.remaining in
    let z = all_follow o steps can left g.I.Clone.is_clone g.I.Item.Clone.is_clone c.requires.inputs c.requires.items c.args.self.now.heads.items c.in_ok-heads.heads.items c.in_ok-heads.ensures in
    clones_ascend o steps can left c.args.self.now.heads.items c.in_ok-heads.heads.items z up

pub invariant_of-result : goal.invariant_of-result
invariant_of-result g c =
    let o = g.met.I.Item.Ord.total in
    let steps = g.I.Iterator.next_gives in
    let can = g.I.Iterator.can_next in
    let left = g.I.Iterator.remaining in
    record {
      ordered = clones_heap o steps can left g.I.Clone.is_clone g.I.Item.Clone.is_clone c.requires.inputs c.requires.items c.args.self.now.heads.items c.in_ok-heads.heads.items c.in_ok-heads.ensures c.args.self.now.ordered;
    }
