use Rattle.number_line.specs.Pieces.{in_either}
use Rattle.blaze_joins.specs.WalkView.{pieces_to_come}
use Rattle.blaze_joins.proofs.WalkSteps.{HasPassed}
use Rattle.blaze_joins.proofs.walk.Walk.next_of_either.Given as goal

abbrev pub invariant-pieces : goal.invariant-pieces
invariant-pieces g l = HasPassed g.T.Element.numbers g.V.PartialEq.eq g.W.PartialEq.eq in_either l.fn.self l.self

abbrev pub decreases-pieces : goal.decreases-pieces
decreases-pieces g l = pieces_to_come g.T.Element.numbers l.self
