use Rattle.std.proofs.lemmas.Grind.{common_steps}
use Rattle.std.proofs.Common.{◌≡◌, ◌+◌, [], ◌∷◌, drop, arith}
use Rattle.blaze_joins.specs.SideView.{IsSideOf, ends_of}
use Rattle.blaze_joins.proofs.SideLemmas.{sides_long, below_first, below_rest}
use Rattle.number_line.proofs.ZippedLemmas.{zipped_step, zipped_end}
use Rattle.blaze_joins.proofs.many.sides_behind.Goals as goal

pub side_behind-requires-clause-side : goal.side_behind-requires-clause-side
side_behind-requires-clause-side g c =
    let i = c.loop-i.i in
    let long = sides_long g.T.Element.numbers g.V.PartialEq.eq _ _ _ c.requires.sides.2 in
    let maps : drop i c.args.maps.now ≡ c.index-maps-i.result ∷ drop (i + 1) c.args.maps.now = grind (arith, common_steps) in
    let sides : drop i c.args.sides.now ≡ c.index-sides-i.result ∷ drop (i + 1) c.args.sides.now = grind (arith, common_steps) in
    let now = c.loop-i.invariant.sides in
    (now.0, now.1, (rw (maps, sides) at now.2).0)

pub side_behind-requires-clause-end : goal.side_behind-requires-clause-end
side_behind-requires-clause-end g c =
    let numbers = g.T.Element.numbers in
    let i = c.loop-i.i in
    let long = sides_long numbers g.V.PartialEq.eq _ _ _ c.requires.sides.2 in
    let sides : drop i c.args.sides.now ≡ c.index-sides-i.result ∷ drop (i + 1) c.args.sides.now = grind (arith, common_steps) in
    below_first numbers.greatest _ (numbers.number c.index-sides-i.result.end) (ends_of numbers (drop (i + 1) c.args.sides.now)) (rw sides at c.loop-i.invariant.ends)

pub loop-i-preserved : goal.loop-i-preserved
loop-i-preserved g c =
    let numbers = g.T.Element.numbers in
    let i = c.loop-i.i in
    let long = sides_long numbers g.V.PartialEq.eq _ _ _ c.requires.sides.2 in
    let maps : drop i c.args.maps.now ≡ c.index-maps-i.result ∷ drop (i + 1) c.args.maps.now = grind (arith, common_steps) in
    let sides : drop i c.args.sides.now ≡ c.index-sides-i.result ∷ drop (i + 1) c.args.sides.now = grind (arith, common_steps) in
    let now = c.loop-i.invariant.sides in
    record {
      made = zipped_step (IsSideOf numbers g.V.PartialEq.eq (numbers.number c.args.next)) _ _ _ _ _ c.index-maps-i.result c.side_behind.result c.in_ok-push.ensures.items maps
          c.side_behind.ensures c.loop-i.invariant.made;
      sides = (now.0, now.1, (rw (maps, sides) at now.2).1);
      ends = below_rest numbers.greatest _ (numbers.number c.index-sides-i.result.end) (ends_of numbers (drop (i + 1) c.args.sides.now)) (rw sides at c.loop-i.invariant.ends);
    }

pub returns : goal.returns
returns g c =
    let numbers = g.T.Element.numbers in
    let none : drop c.loop-i.i c.args.maps.now ≡ [] = grind (arith, common_steps) in
    zipped_end (IsSideOf numbers g.V.PartialEq.eq (numbers.number c.args.next)) _ _ _ none c.loop-i.invariant.made
