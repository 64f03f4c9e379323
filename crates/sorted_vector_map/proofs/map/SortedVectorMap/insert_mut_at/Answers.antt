use Rattle.std.proofs.Common.{slice_get, refl, sym, ap, ◌∙◌, arith}
use Rattle.std.specs.Option.{option_map}
use Rattle.ordered_lists.specs.Search.{set_value}
use Rattle.ordered_lists.proofs.PairLemmas.{set_inserted, get_inserted, same_some}
use Rattle.sorted_vector_map.proofs.map.SortedVectorMap.insert_mut_at.Goals as goal

pub returns : goal.returns
returns g c =
    let pairs = c.in_ok-insert_at.ensures.pairs in (
      (refl, λ w ok. (ap (λ t. set_value t c.args.at w) pairs ∙ set_inserted _ _ _ _ w c.requires.in_range, omega (arith, c.in_ok-insert_at.ensures.spare)), tt),
      record { writes_back = tt; value = same_some _ _ (sym c.value_mut_at.ensures.value ∙ ap (λ t. option_map (λ (p : g.row.K.Denot × g.row.V.Denot). p.1) (slice_get t c.args.at)) pairs ∙ ap (option_map (λ (p : g.row.K.Denot × g.row.V.Denot). p.1)) (get_inserted _ _ _ c.requires.in_range)); given = tt; roomy = λ _. refl },
    )
