use Rattle.std.proofs.Common.{◌≡◌, ap, ◌∙◌}
use Rattle.range_map.specs.Sweep.{numbers_of}
use Rattle.cut_points.specs.Cuts.{cuts}
use Rattle.cut_points.proofs.CutLemmas.{cuts_again}
use Rattle.cut_points.proofs.ValueLemmas.{sorted_ascends}
use Rattle.cut_points.proofs.convert.from_cuts.Goals as goal

pub from_cut_slice-requires : goal.from_cut_slice-requires
from_cut_slice-requires g c =
    let items : c.as_slice-list.result.now ≡ c.args.cuts.now.items = c.as_slice-list.ensures.value ∙ c.iter.ensures.rest in
    sorted_ascends g.T.Ord.cmp g.T.Element.numbers g.met.T.Element.numbered c.as_slice-list.result.now c.are_values.ensures (rw items c.iter.ensures.ascending)

pub returns-clause-cuts : goal.returns-clause-cuts
returns-clause-cuts g c =
    let n = g.T.Element.numbers in
    let items : c.as_slice-list.result.now ≡ c.args.cuts.now.items = c.as_slice-list.ensures.value ∙ c.iter.ensures.rest in
    let ascends = sorted_ascends g.T.Ord.cmp n g.met.T.Element.numbered c.as_slice-list.result.now c.are_values.ensures (rw items c.iter.ensures.ascending) in
    ap (cuts n.greatest) c.in_ok-set.ensures ∙ (cuts_again n.least n.greatest (numbers_of n c.as_slice-list.result.now) ascends ∙ ap (numbers_of n) items)
