use Rattle.std.proofs.Common.{◌≡◌, ℕ, ◌∷◌, arith, ap, refl, subst, sym}
use Rattle.std.specs.Prelude.{false, map}
use Rattle.std.proofs.lemmas.Int.{ints}
use Rattle.std.proofs.lemmas.List.{nil_from_length}
use Rattle.range_map.specs.Sweep.{DoNotFallFrom}
use Rattle.range_map.specs.Bounds.{AreActive, bounds_in_numbers, bound_in_numbers, crossed}
use Rattle.range_map.proofs.BoundLemmas.{active_places, held_alike, all_behind-lower, do_not_fall-lower, crossed_before}
use Rattle.range_map.proofs.OddLemmas.{told_start, told_step, told_end}
use Rattle.range_map.proofs.sweep.active_places.ActivePlaces.enter.Goals as goal
use Rattle.range_map.proofs.sweep.active_places.ActivePlaces.enter.Goals.{in-Some+then-is_below, in_default}

pub loop-bound-init : goal.loop-bound-init
loop-bound-init g c =
    let numbers = g.T.Element.numbers in
    record {
      in_order = c.self.invariant.0;
      told = λ ranges active. told_start numbers.greatest ranges (numbers.number c.args.x) c.self.inside.places.items _ _
          (rw (c.in_ok-extend_from_slice.ensures.items, c.clear.ensures.items, c.as_slice.ensures.value) refl) c.self.invariant.1
          (subst (λ a. AreActive numbers.greatest ranges (numbers.number c.args.x) a) (sym c.self.view_is) active);
    }

pub loop-bound-preserved : goal.loop-bound-preserved
loop-bound-preserved g c =
    let numbers = g.T.Element.numbers in
    let bound = c.in-Some.bound.now in
    let behind = c.in-Some.behind.now in
    let d : DoNotFallFrom numbers numbers.least (map (λ b. b.at) (bound ∷ behind)) = rw c.in-Some.ensures.cases.0 at c.loop-bound.invariant.in_order in
    record {
      in_order = do_not_fall-lower numbers _ _ _ d.1 d.3;
      told = λ ranges active. told_step _ ranges _ _ _ (bound_in_numbers numbers bound) _ (bounds_in_numbers numbers behind)
          (ap (bounds_in_numbers numbers) c.in-Some.ensures.cases.0) c.if-is_below.ensures c.in_ok-push.ensures.items (c.loop-bound.invariant.told ranges active);
    }

pub returns-clause-goes_on : goal.returns-clause-goes_on
returns-clause-goes_on g c =
    let numbers = g.T.Element.numbers in
    λ ranges n active low place x above high.
    rw c.replace.ensures.after (told_end numbers.greatest ranges (numbers.number c.args.x) _ _ _ _ c.in_ok-sort.ensures.permutation
    (rw c.as_slice-2.ensures.value at c.in_ok-odd.ensures.odd) (c.loop-bound.invariant.told ranges active) place x (omega (arith, ints)) high)

pub returns-clause-entered : goal.returns-clause-entered
returns-clause-entered g c =
    let numbers = g.T.Element.numbers in
    let none : (place : ℕ) → crossed (bounds_in_numbers numbers c.loop-bound.rest.now) place (numbers.number c.args.x) ≡ false =
    elim c.match-split_first.branch [
      | in-Some+then-is_below w ↦
          let bound = w.in-Some.bound.now in
          let behind = w.in-Some.behind.now in
          let d : DoNotFallFrom numbers numbers.least (map (λ b. b.at) (bound ∷ behind)) = rw w.in-Some.ensures.cases.0 at c.loop-bound.invariant.in_order in
          λ place. rw w.in-Some.ensures.cases.0 (crossed_before numbers (numbers.number bound.at) _ (bound ∷ behind) place (d.0, omega (arith, ints), d.2, d.3) w.if-is_below.ensures)
      | in_default w ↦ λ place. rw (nil_from_length _ w.in_default.ensures.cases) refl
    ] in
    λ ranges active.
    rw c.replace.ensures.after (active_places numbers.greatest ranges (numbers.number c.args.x) _ _ c.in_ok-odd.ensures.ascending c.in_type.ensures.high none
    (told_end numbers.greatest ranges (numbers.number c.args.x) _ _ _ _ c.in_ok-sort.ensures.permutation
    (rw c.as_slice-2.ensures.value at c.in_ok-odd.ensures.odd) (c.loop-bound.invariant.told ranges active)))

pub end_before-requires-clause-behind : goal.end_before-requires-clause-behind
end_before-requires-clause-behind g c =
    elim c.match-split_first.branch [
      | in-Some+then-is_below w ↦ rw w.in-Some.ensures.cases.0 w.if-is_below.ensures
      | in_default w ↦ rw (nil_from_length _ w.in_default.ensures.cases) tt
    ]

pub returns-clause-stays : goal.returns-clause-stays
returns-clause-stays g c =
    let numbers = g.T.Element.numbers in
    let end = c.end_before.ensures in
    let high = end.high in (
      end.order,
      λ ranges active y low up place. held_alike numbers.greatest ranges (numbers.number c.args.x) y
          (record { places = c.in_ok-odd.odd.items; rest = bounds_in_numbers numbers c.loop-bound.rest.now }) low (omega (arith, ints))
          (all_behind-lower y _ _ up end.behind)
          (λ place x low high. told_end numbers.greatest ranges (numbers.number c.args.x) _ _ _ _ c.in_ok-sort.ensures.permutation
          (rw c.as_slice-2.ensures.value at c.in_ok-odd.ensures.odd) (c.loop-bound.invariant.told ranges active) place x low high) place,
    )
