use Rattle.std.proofs.Common.{◌≡◌, [], ◌++◌, sym, ap, ◌∙◌, arith}
use Rattle.std.proofs.lemmas.Bool.Decides.{nat_tests}
use Rattle.std.specs.Vec.{vec_len}
use Rattle.ordered_lists.specs.Lists.{sets}
use Rattle.ordered_lists.proofs.MergeLemmas.{sets_none, no_item}
use Rattle.sorted_vector_set.proofs.merge.merge.Goals as goal

pub returns-then-is_empty : goal.returns-then-is_empty
returns-then-is_empty g c =
    let len : vec_len c.args.left ≡ 0 = grind (arith, nat_tests) in
    let none : c.args.left.items ≡ [] = no_item c.args.left.items (omega (arith, c.args.left.ok)) in
    c.move_behind.ensures ∙ ap (λ t. c.args.merged.now.items ++ t) (sym (ap (λ t. sets g.T.Ord.cmp t c.args.right.items) none ∙ sets_none g.T.Ord.cmp c.args.right.items c.requires.ascending))
