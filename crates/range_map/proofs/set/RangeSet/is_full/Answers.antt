use Rattle.std.proofs.Common.{◌≡◌, ◌∷◌, ◌∙◌, ap, sym, subst, arith}
use Rattle.std.specs.Prelude.{◌≤ℤ◌}
use Rattle.std.proofs.lemmas.Int.{ints}
use Rattle.number_line.specs.Ranges.{IsCanonical}
use Rattle.number_line.proofs.FullLemmas.{not_full, full_by_end}
use Rattle.range_map.specs.Set.{all_in_numbers}
use Rattle.range_map.proofs.set.RangeSet.is_full.Goals as goal

pub returns-then-not-is_below : goal.returns-then-not-is_below
returns-then-not-is_below g c =
    let numbers = g.T.Element.numbers in
    let order : numbers.least ≤ℤ numbers.greatest = omega (arith, ints, c.in_type.ensures.low, c.in_type.ensures.high) in
    let canonical : IsCanonical numbers.least numbers.greatest (all_in_numbers numbers (c.in-Some.range.now ∷ c.in-Some.field-0-1.now)) =
    subst (λ l. IsCanonical numbers.least numbers.greatest (all_in_numbers numbers l)) (sym c.deref.ensures.value ∙ c.in-Some.ensures.cases.0) c.self.invariant.canonical in
    let list_is : all_in_numbers numbers (c.in-Some.range.now ∷ c.in-Some.field-0-1.now) ≡ c.args.self.now =
    ap (all_in_numbers numbers) (sym c.in-Some.ensures.cases.0 ∙ c.deref.ensures.value) ∙ c.self.view_is in
    rw (← list_is) (full_by_end numbers.least numbers.greatest order _ _ canonical
    (rw (← c.start.ensures.value, ← c.min_value-least.ensures.number) c.if-not-is_below.ensures) _
    (rw (← c.end.ensures.value, ← c.max_value.ensures.number) c.is_below-then-not-is_below.ensures))

pub returns-else-not-is_below : goal.returns-else-not-is_below
returns-else-not-is_below g c =
    let numbers = g.T.Element.numbers in
    let order : numbers.least ≤ℤ numbers.greatest = omega (arith, ints, c.in_type.ensures.low, c.in_type.ensures.high) in
    let canonical : IsCanonical numbers.least numbers.greatest (all_in_numbers numbers (c.in-Some.range.now ∷ c.in-Some.field-0-1.now)) =
    subst (λ l. IsCanonical numbers.least numbers.greatest (all_in_numbers numbers l)) (sym c.deref.ensures.value ∙ c.in-Some.ensures.cases.0) c.self.invariant.canonical in
    let list_is : all_in_numbers numbers (c.in-Some.range.now ∷ c.in-Some.field-0-1.now) ≡ c.args.self.now =
    ap (all_in_numbers numbers) (sym c.in-Some.ensures.cases.0 ∙ c.deref.ensures.value) ∙ c.self.view_is in
    rw (← list_is) (not_full numbers.least numbers.greatest order _ _ canonical _
    (rw (← c.start.ensures.value, ← c.min_value-least.ensures.number) c.is_below.ensures) c.if-not-is_below.false)
