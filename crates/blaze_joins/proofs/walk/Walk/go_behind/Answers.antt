use Rattle.std.proofs.Common.{arith}
use Rattle.std.proofs.lemmas.Int.{ints}
use Rattle.blaze_joins.proofs.PlaceLemmas.{left_behind}
use Rattle.blaze_joins.proofs.WalkLemmas.{number_behind}
use Rattle.blaze_joins.proofs.walk.Walk.go_behind.Goals as goal

pub returns-clause-start : goal.returns-clause-start
returns-clause-start g c = number_behind g.T.Element.numbers c.successor-self.result (g.T.Element.numbers.number c.args.end) c.successor-self.ensures.next c.successor-self.ensures.at_end

pub returns-clause-walk : goal.returns-clause-walk
returns-clause-walk g c =
    let numbers = g.T.Element.numbers in
    let behind = number_behind numbers c.successor-self.result (numbers.number c.args.end) c.successor-self.ensures.next c.successor-self.ensures.at_end in
    let at = c.requires.at in
    rw behind record {
      left = rw c.place_behind-self.ensures.pairs (left_behind g.V.PartialEq.eq numbers.least numbers.greatest _ at.0 _ _ at.1 c.requires.left at.2.left);
      right = rw c.place_behind-self-2.ensures.pairs (left_behind g.W.PartialEq.eq numbers.least numbers.greatest _ at.0 _ _ at.1 c.requires.right at.2.right);
      left_within = c.place_behind-self.ensures.within;
      right_within = c.place_behind-self-2.ensures.within;
      high = omega (arith, ints, c.in_type.ensures.high);
    }
