use lib.ListN.{length, length-map}
use Rattle.std.proofs.Common.{◌≡◌, ◌-◌, ℕ, List, refl, sym, ap, map, take, drop, arith, ◌∙◌}
use Rattle.std.specs.List.{take-map, drop-map}
use Rattle.std.specs.Map.Iter.{deref_pair_mut}
use Rattle.std.proofs.lemmas.List.{length-take, length-drop}
use Rattle.ordered_lists.proofs.CutLemmas.{cut_between}
use Rattle.sorted_vector_map.specs.Slots.{pair_of, cell_of}
use Rattle.sorted_vector_map.proofs.LendingRuns.{comes_for_writing}
use Rattle.sorted_vector_map.proofs.map.SortedVectorMap.range_mut.Goals as goal

-- a part of a list, and the images of its items
part_map : {X Y : Type 0} (f : X → Y) (n i : ℕ) (xs : List X) → take n (drop i (map f xs)) ≡ map f (take n (drop i xs))
part_map f n i xs = ap (take n) (drop-map f i xs) ∙ take-map f n (drop i xs)

pub new-requires : goal.new-requires
new-requires g c =
    let start = c.start_of-start.result in let n : ℕ = c.max-end.result - start in
    c.narrow.ensures.cells ∙ ap (λ cs. take n (drop start cs)) (c.lend-lent.ensures.cells ∙ ap (map cell_of) (sym c.deref.ensures.value)) ∙ part_map cell_of n start c.deref.result.now

pub returns : goal.returns
returns g c =
    let start = c.start_of-start.result in let n : ℕ = c.max-end.result - start in
    let count : n ≡ c.end_of.result - start = omega (arith, c.max-end.ensures) in
    let slots = c.deref.result.now in let pairs = c.args.self.now.pairs in
    let shown : map pair_of slots ≡ pairs = ap (map pair_of) c.deref.ensures.value ∙ c.lend-lent.ensures.pairs in
    let part = sym (part_map pair_of n start slots) ∙ (λ i. take (count i) (drop start (shown i))) in
    let vec = c.lend-lent.result.0.now in let cut = take n (drop start slots) in (
      (sym (c.new.ensures.loan ∙ c.narrow.ensures.tie), λ w. refl),
      record {
        writes_back = tt;
        pairs =
            comes_for_writing deref_pair_mut _ _ (c.new.ensures.rest ∙ part ∙ cut_between _ _ _ _ _ c.start_of-start.ensures c.end_of.ensures)
            (omega (arith, ap length c.new.ensures.rest, length-map cut pair_of, length-take n (drop start slots), length-drop start slots, c.deref.ensures.len, vec.ok.1, vec.small));
        ascending = c.lend-lent.ensures.ascending;
      },
    )
