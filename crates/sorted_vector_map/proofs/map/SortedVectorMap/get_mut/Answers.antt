use Rattle.std.proofs.Common.{sym, ap, ◌∙◌, inl}
use Rattle.std.specs.Option.{option_map}
use Rattle.sorted_vector_map.proofs.map.SortedVectorMap.get_mut.Goals as goal

pub returns-in-Ok : goal.returns-in-Ok
returns-in-Ok g c =
    let at = c.in-Ok.ensures.found in (
      λ i. inl (c.value_mut_at.result.ghost_name, λ w. record { pairs = sym (at.puts w) i; spare = c.args.self.now.spare }),
      record { writes_back = tt; value = sym c.value_mut_at.ensures.value ∙ ap (option_map (λ (p : g.row.K.Denot × g.row.V.Denot). p.1)) (sym at.finds) },
    )
