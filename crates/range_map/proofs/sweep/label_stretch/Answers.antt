use Rattle.std.proofs.Common.{arith}
use Rattle.std.specs.Prelude.{ℤ}
use Rattle.std.proofs.lemmas.Int.{ints}
use Rattle.range_map.proofs.SweepLemmas.{swept_range, first_stays_label, alike_label}
use Rattle.range_map.proofs.sweep.label_stretch.Goals as goal

pub push_label-requires : goal.push_label-requires
push_label-requires g c = rw c.new.ensures.value c.requires.before.swept.behind

pub returns-clause-swept : goal.returns-clause-swept
returns-clause-swept g c =
    let numbers = g.T.Element.numbers in
    let same = g.V.PartialEq.eq in
    let stands = g.L.Labelling.stands in
    let stays = c.in_ok-stretch.ensures.stays in
    let range : ℤ × ℤ = (numbers.number c.args.start, numbers.number c.in_ok-stretch.stretch.end) in
    let alike = alike_label same stands _ _ (g.met.L.Labelling.alike c.args.labels.now) c.in_ok-stretch.ensures.stands in
    record {
      swept = swept_range same g.met.V.Eq.laws _ _ _ _ range _ c.requires.before.swept
          (λ x low high. rw (stays.1 x low high) alike) (rw c.new.ensures.value at c.in_ok-push_label.ensures.labelled);
      first_stays = first_stays_label same stands (g.L.Labelling.label c.args.labels.now) _ _ range _
          (rw c.new.ensures.value at c.in_ok-push_label.ensures.put) c.requires.before.first_stays c.in_ok-stretch.ensures.stands;
      labels_stay = c.in_ok-stretch.ensures.same_labels;
      goes_on = λ y h. let order = stays.0 in c.in_ok-stretch.ensures.goes_on y (omega (arith, ints));
    }
