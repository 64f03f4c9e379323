use Rattle.std.proofs.Common.{◌≡◌, ◌++◌, ap, ◌∙◌}
use Rattle.ordered_lists.proofs.CloneLemmas.{equals_pointwise}
use Rattle.range_multimap.proofs.grouped.Group.try_clone.Goals as goal

pub returns-clause-equal : goal.returns-clause-equal
returns-clause-equal g c =
    let made = c.in_ok-extend_with_clones.ensures.items in
    let whole : c.extend_with_clones.new.self.items ≡ made.0 = made.1 ∙ ap (λ t. t ++ made.0) c.in_ok-values.ensures.items in
    rw (whole, ← c.self.view_is, ← c.as_slice.ensures.value) (equals_pointwise g.V.Clone.is_clone g.V.PartialEq.eq c.requires _ made.0 made.2)
