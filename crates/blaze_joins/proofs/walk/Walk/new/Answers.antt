use Rattle.std.proofs.Common.{arith}
use Rattle.std.proofs.lemmas.Int.{ints}
use Rattle.std.proofs.lemmas.List.{length-map}
use Rattle.number_line.proofs.PieceLemmas.{left_first}
use Rattle.range_map.specs.Valued.{pair_in_numbers, pairs_in_numbers}
use Rattle.blaze_joins.proofs.WalkLemmas.{first_meeting, pieces_most}
use Rattle.blaze_joins.proofs.walk.Walk.new.Goals as goal

pub returns-clause-walk : goal.returns-clause-walk
returns-clause-walk g c =
    let numbers = g.T.Element.numbers in
    record {
      left = rw c.min_value-start.ensures.number (left_first g.V.PartialEq.eq numbers.greatest numbers.least _ c.requires.left);
      right = rw c.min_value-start.ensures.number (left_first g.W.PartialEq.eq numbers.greatest numbers.least _ c.requires.right);
      left_within = omega arith;
      right_within = omega arith;
      high = omega (arith, ints, c.in_type.ensures.high);
    }

pub returns-clause-meeting : goal.returns-clause-meeting
returns-clause-meeting g c = let numbers = g.T.Element.numbers in
    rw c.min_value-start.ensures.number (first_meeting g.V.PartialEq.eq g.W.PartialEq.eq numbers.least numbers.greatest _ _ c.requires.left c.requires.right)

pub returns-clause-most : goal.returns-clause-most
returns-clause-most g c =
    let numbers = g.T.Element.numbers in
    rw (← length-map c.args.left.now (pair_in_numbers numbers), ← length-map c.args.right.now (pair_in_numbers numbers))
    (pieces_most numbers.greatest (pairs_in_numbers numbers c.args.left.now) (pairs_in_numbers numbers c.args.right.now) (numbers.number c.min_value-start.result))
