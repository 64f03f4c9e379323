use Rattle.std.proofs.Common.{rules, arith}
use Rattle.ordered_lists.proofs.MergeLemmas.{less_step, greater_step, equal_step, rest_ascends}
use Rattle.sorted_vector_set.proofs.merge.next_of.Goals as goal

pub returns-in-Less-clause-merged : goal.returns-in-Less-clause-merged
returns-in-Less-clause-merged g c =
    let pop = c.pop_front.ensures in
    less_step g.T.Ord.cmp g.met.T.Ord.total _ _ _ _ c.requires (search rules) pop.items (λ lt. pop.variant.1 (omega (arith, c.args.left.now.ok.0)))

pub returns-in-Greater-clause-merged : goal.returns-in-Greater-clause-merged
returns-in-Greater-clause-merged g c =
    let pop = c.pop_front-in-Greater.ensures in
    greater_step g.T.Ord.cmp g.met.T.Ord.total c.args.left.now.items _ _ _ c.requires (search rules) pop.items (λ lt. pop.variant.1 (omega (arith, c.args.right.now.ok.0)))

pub returns-in-Greater-clause-ascending : goal.returns-in-Greater-clause-ascending
returns-in-Greater-clause-ascending g c = rest_ascends g.T.Ord.cmp g.met.T.Ord.total _ _ _ c.pop_front-in-Greater.ensures.items c.requires

pub returns-in-Equal-clause-merged : goal.returns-in-Equal-clause-merged
returns-in-Equal-clause-merged g c =
    let pop = c.pop_front-in-Equal.ensures in
    let last = c.pop_front-in-Equal-2.ensures in
    equal_step g.T.Ord.cmp g.met.T.Ord.total _ _ _ _ _ _ c.requires (search rules) pop.items last.items (λ lt. pop.variant.1 (omega (arith, c.args.left.now.ok.0))) (λ lt. last.variant.1 (omega (arith, c.args.right.now.ok.0)))

pub returns-in-Equal-clause-ascending : goal.returns-in-Equal-clause-ascending
returns-in-Equal-clause-ascending g c = rest_ascends g.T.Ord.cmp g.met.T.Ord.total _ _ _ c.pop_front-in-Equal-2.ensures.items c.requires
