use Rattle.cut_points.proofs.PlaceLemmas.{placed_last}
use Rattle.cut_points.proofs.convert.push_cut.Goals as goal

pub returns-in-Ok-clause-values : goal.returns-in-Ok-clause-values
returns-in-Ok-clause-values g c =
    (placed_last g.T.Ord.cmp g.T.Element.numbers g.met.T.Element.numbered c.args.kept.now.items c.insert.new.self.items c.args.cut
    c.requires.values c.in_type.ensures.is_value c.requires.ascending c.in-Ok.ensures.items).0

pub returns-in-Ok-clause-numbers : goal.returns-in-Ok-clause-numbers
returns-in-Ok-clause-numbers g c =
    (placed_last g.T.Ord.cmp g.T.Element.numbers g.met.T.Element.numbered c.args.kept.now.items c.insert.new.self.items c.args.cut
    c.requires.values c.in_type.ensures.is_value c.requires.ascending c.in-Ok.ensures.items).1
