use Rattle.std.proofs.Common.{◌≡◌, [], ◌∷◌, ◌++◌, refl, ap, ◌∙◌}
use Rattle.std.specs.Ordering.{int_cmp}
use Rattle.number_line.specs.Ranges.{holds}
use Rattle.ordered_lists.specs.Lists.{symmetric_difference}
use Rattle.range_map.specs.Range.{in_numbers}
use Rattle.range_map.specs.Set.{all_in_numbers}
use Rattle.range_map.proofs.CanonicalLemmas.{ranges-push}
use Rattle.cut_points.specs.Cuts.{cuts, from_cuts}
use Rattle.cut_points.proofs.CutLemmas.{cuts_ascend, from_cuts_canonical}
use Rattle.cut_points.proofs.SymmetricLemmas.{symmetric_ascends, symmetric_holds}
use Rattle.cut_points.proofs.MadeLemmas.{still_ascends, one_more, numbers_push, all_made}
use Rattle.cut_points.proofs.operations.symmetric_difference.Goals as goal

pub loop-start-init : goal.loop-start-init
loop-start-init g c =
    let n = g.T.Element.numbers in
    let left = c.of-left_cuts.ensures in
    let right = c.of-right_cuts.ensures in
    record {
      are_ranges = rw c.in_ok-ranges.ensures.items tt;
      same = rw (c.in_ok-ranges.ensures.items, left.all, right.all) refl;
      ascending = rw (left.all, right.all) (symmetric_ascends n.least n.greatest (cuts n.greatest c.args.left.now) (cuts n.greatest c.args.right.now)
          (cuts_ascend n.least n.greatest c.args.left.now left.canonical) (cuts_ascend n.least n.greatest c.args.right.now right.canonical));
    }

pub loop-start-preserved : goal.loop-start-preserved
loop-start-preserved g c =
    let n = g.T.Element.numbers in
    let range = c.range_before.result in
    let made = c.loop-start.ranges.items in
    let before = symmetric_difference int_cmp c.loop-start.left_cuts c.loop-start.right_cuts in
    let mid = symmetric_difference int_cmp c.take_lesser.new.left c.take_lesser.new.right in
    let rest = symmetric_difference int_cmp c.take_lesser-after.new.left c.take_lesser-after.new.right in
    let start = n.number c.in-Some.start in
    let after = c.take_lesser-after in
    let pushed : all_in_numbers n c.push.new.self.items ≡ all_in_numbers n made ++ in_numbers n range ∷ [] =
    ap (all_in_numbers n) c.in_ok-push.ensures.items ∙ numbers_push n made range in
    record {
      are_ranges = rw c.in_ok-push.ensures.items (ranges-push n made range c.loop-start.invariant.are_ranges c.range_before.ensures.range);
      same = rw pushed (one_more n.number n.greatest (in_numbers n range) start after.result before mid rest c.in-Some.ensures.some after.ensures.some after.ensures.none
          (all_in_numbers n made) (from_cuts n.greatest (symmetric_difference int_cmp (cuts n.greatest c.args.left.now) (cuts n.greatest c.args.right.now)))
          c.range_before.ensures.ends c.loop-start.invariant.same);
      ascending = still_ascends n.number n.greatest (in_numbers n range) start after.result before mid rest c.in-Some.ensures.some after.ensures.some after.ensures.none
          n.least c.loop-start.invariant.ascending;
    }

pub from_canonical-requires : goal.from_canonical-requires
from_canonical-requires g c =
    let n = g.T.Element.numbers in
    let left = cuts n.greatest c.args.left.now in
    let right = cuts n.greatest c.args.right.now in
    let ascends = symmetric_ascends n.least n.greatest left right
    (cuts_ascend n.least n.greatest c.args.left.now c.of-left_cuts.ensures.canonical) (cuts_ascend n.least n.greatest c.args.right.now c.of-right_cuts.ensures.canonical) in
    let made = all_made n.greatest (all_in_numbers n c.loop-start.ranges.items) (from_cuts n.greatest (symmetric_difference int_cmp left right))
    (symmetric_difference int_cmp c.loop-start.left_cuts c.loop-start.right_cuts) c.in_default.ensures.none.0 c.loop-start.invariant.same in
    record {
      are_ranges = c.loop-start.invariant.are_ranges;
      canonical = rw made (from_cuts_canonical n.least n.greatest (symmetric_difference int_cmp left right) ascends);
    }

pub returns-clause-members : goal.returns-clause-members
returns-clause-members g c = λ x low high.
    let n = g.T.Element.numbers in
    let left = cuts n.greatest c.args.left.now in
    let right = cuts n.greatest c.args.right.now in
    let made = all_made n.greatest (all_in_numbers n c.loop-start.ranges.items) (from_cuts n.greatest (symmetric_difference int_cmp left right))
    (symmetric_difference int_cmp c.loop-start.left_cuts c.loop-start.right_cuts) c.in_default.ensures.none.0 c.loop-start.invariant.same in
    ap (λ l. holds l x) (c.from_canonical.ensures ∙ made)
    ∙ symmetric_holds n.least n.greatest c.args.left.now c.args.right.now c.of-left_cuts.ensures.canonical c.of-right_cuts.ensures.canonical x low high
