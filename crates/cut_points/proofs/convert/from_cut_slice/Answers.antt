use Rattle.std.proofs.Common.{◌≡◌, [], ◌∷◌, ◌++◌, ap, ◌∙◌}
use Rattle.std.specs.Option.{option_copied}
use Rattle.std.proofs.lemmas.List.{nil_from_length}
use Rattle.range_map.specs.Range.{in_numbers}
use Rattle.range_map.specs.Set.{all_in_numbers}
use Rattle.range_map.specs.Sweep.{numbers_of}
use Rattle.range_map.proofs.CanonicalLemmas.{ranges-push}
use Rattle.cut_points.specs.Cuts.{from_cuts}
use Rattle.cut_points.proofs.CutLemmas.{from_cuts_canonical}
use Rattle.cut_points.proofs.MadeLemmas.{next_number, still_ascends, one_more, numbers_push, all_made}
use Rattle.cut_points.proofs.convert.from_cut_slice.Goals as goal

pub loop-start-preserved : goal.loop-start-preserved
loop-start-preserved g c =
    let n = g.T.Element.numbers in
    let made = c.loop-start.ranges.items in
    let range = c.range_before.result in
    let before = numbers_of n c.loop-start.rest.rest.now in
    let mid = numbers_of n c.next.new.self.rest.now in
    let rest = numbers_of n c.next-in-Some.new.self.rest.now in
    let start = n.number c.in-Some.start.now in
    let after = option_copied c.next-in-Some.result in
    let second = next_number n.number c.next.new.self c.next-in-Some.new.self c.next-in-Some.result c.next-in-Some.ensures.steps in
    let first : before ≡ start ∷ mid = ap (numbers_of n) c.in-Some.ensures.steps in
    let pushed : all_in_numbers n c.push.new.self.items ≡ all_in_numbers n made ++ in_numbers n range ∷ [] =
    ap (all_in_numbers n) c.in_ok-push.ensures.items ∙ numbers_push n made range in
    record {
      are_ranges = rw c.in_ok-push.ensures.items (ranges-push n made range c.loop-start.invariant.are_ranges c.range_before.ensures.range);
      same = rw pushed (one_more n.number n.greatest (in_numbers n range) start after before mid rest first second.0 second.1
          (all_in_numbers n made) (from_cuts n.greatest (numbers_of n c.args.list.now)) (rw c.copied-after.ensures at c.range_before.ensures.ends) c.loop-start.invariant.same);
      ascending = still_ascends n.number n.greatest (in_numbers n range) start after before mid rest first second.0 second.1 n.least c.loop-start.invariant.ascending;
    }

pub from_canonical-requires : goal.from_canonical-requires
from_canonical-requires g c =
    let n = g.T.Element.numbers in
    let cuts = numbers_of n c.args.list.now in
    let none : numbers_of n c.loop-start.rest.rest.now ≡ [] = ap (numbers_of n) (nil_from_length c.loop-start.rest.rest.now c.in_default.ensures.steps.0) in
    let made = all_made n.greatest (all_in_numbers n c.loop-start.ranges.items) (from_cuts n.greatest cuts) (numbers_of n c.loop-start.rest.rest.now) none
    c.loop-start.invariant.same in
    record {
      are_ranges = c.loop-start.invariant.are_ranges;
      canonical = rw made (from_cuts_canonical n.least n.greatest cuts c.requires);
    }
