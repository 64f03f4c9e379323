use Rattle.std.proofs.Common.{rules, ◌≡◌, length, arith, ap, sym, refl}
use Rattle.std.specs.Prelude.{Some}
use Rattle.std.specs.List.{slice_get}
use Rattle.std.proofs.lemmas.Cmp.{int_cmp_total}
use Rattle.std.proofs.lemmas.Option.{slice_get_read}
use Rattle.std.proofs.lemmas.Grind.{common_steps}
use Rattle.std.proofs.lemmas.List.{map-append}
use Rattle.std.proofs.lemmas.List.Elements.{All-nil, All-push}
use Rattle.std.proofs.lemmas.List.MinMax.{ranks_by}
use Rattle.std.proofs.lemmas.List.Sorted.{answers_always, IsPermutation-map}
use Rattle.range_map.specs.Valued.{pairs_in_numbers}
use Rattle.range_map.specs.Bounds.{ranges_of, bound_in_numbers}
use Rattle.range_map.proofs.BoundLemmas.{values_permuted, sorted_do_not_fall, ByNumber}
use Rattle.range_map.proofs.BegunLemmas.{range_there, no_starts, start_pushed, starts_permuted, all_to_begin}
use Rattle.range_map.proofs.sweep.last_place.Starts.new.Goals as goal

pub loop-place-init : goal.loop-place-init
loop-place-init g c = rw c.in_ok-starts.ensures.items record {
  values = All-nil _;
  below = no_starts (ranges_of (pairs_in_numbers g.T.Element.numbers c.args.pairs.now));
}

pub loop-place-preserved : goal.loop-place-preserved
loop-place-preserved g c =
    let numbers = g.T.Element.numbers in
    let pairs = c.args.pairs.now in
    let i = c.loop-place.place in
    let pair = c.index-pairs-place.result in
    let there : slice_get pairs i ≡ Some pair = slice_get_read pairs (length pairs) i pair refl (omega arith) c.index-pairs-place.is in
    let start = c.start.ensures in
    let at_start = start.range.start in
    rw c.in_ok-push.ensures.items record {
      values = All-push (λ bound. numbers.IsValue bound.at) _ _ c.loop-place.invariant.values (rw start.value at_start);
      below = rw (map-append (bound_in_numbers numbers) c.loop-place.starts.items _)
          (start_pushed (ranges_of (pairs_in_numbers numbers pairs)) i _ _ _ (range_there numbers pairs i pair there) (ap numbers.number (sym start.value)) c.loop-place.invariant.below);
    }

pub invariant_of-result : goal.invariant_of-result
invariant_of-result g c =
    let numbers = g.T.Element.numbers in
    sorted_do_not_fall numbers g.T.Ord.cmp g.met.T.Element.numbered _ (values_permuted numbers _ _ c.sort_unstable_by.ensures.permutation c.loop-place.invariant.values)
    (c.sort_unstable_by.ensures.sorted (ByNumber numbers) (ranks_by int_cmp_total (λ bound. numbers.number bound.at))
    (answers_always _ _ _ (λ f a r f' called. search rules)))

pub returns : goal.returns
returns g c =
    let numbers = g.T.Element.numbers in
    let ranges = ranges_of (pairs_in_numbers numbers c.args.pairs.now) in
    let all : c.loop-place.place ≡ length ranges = grind (arith, common_steps) in
    all_to_begin ranges _ (rw (← all) (starts_permuted ranges c.loop-place.place _ _ (IsPermutation-map (bound_in_numbers numbers) _ _ c.sort_unstable_by.ensures.permutation) c.loop-place.invariant.below))
