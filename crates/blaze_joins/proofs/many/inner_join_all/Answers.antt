use Rattle.std.proofs.Common.{rules, of_calls, ◌≡◌, ◌<◌, refl, arith, sym, ◌∙◌}
use Rattle.std.specs.Prelude.{pos, ◌+ℤ◌, ◌-ℤ◌, unsigned_abs}
use Rattle.std.proofs.lemmas.Int.{ints}
use Rattle.number_line.specs.Pieces.{holders_of_all_at, same_holders_of_all, in_all}
use Rattle.number_line.proofs.JoinWalk.{joined_first, joined_past, joined_call, joined_all}
use Rattle.range_map.proofs.GrowthLemmas.{end_below-raise}
use Rattle.blaze_joins.specs.Joins.{CalledAtAll}
use Rattle.blaze_joins.specs.SideView.{holders_in}
use Rattle.blaze_joins.proofs.SideLemmas.{ends_low, cut_sides, each_there, sides_long}
use Rattle.blaze_joins.proofs.many.inner_join_all.Goals as goal
use Rattle.blaze_joins.proofs.many.inner_join_all.Goals.{then-each_holds+in_ok-values+in_ok-push, else-each_holds}

pub loop-sides-init : goal.loop-sides-init
loop-sides-init g c =
    let numbers = g.T.Element.numbers in
    rw (c.min_value-start.ensures.number, c.new-map.ensures) record {
      callable = search (rules, of_calls);
      is_value = c.min_value-start.ensures.is_value;
      below = tt;
      sides = c.in_ok-sides.ensures;
      joined = joined_first (CalledAtAll g.V.Clone.is_clone g.F.FnMut) same_holders_of_all in_all (holders_of_all_at c.args.maps.now) g.X.PartialEq.eq numbers.least numbers.greatest c.args.f;
    }

pub present_values-requires-clause-length : goal.present_values-requires-clause-length
present_values-requires-clause-length g c =
    rw c.as_slice-then-each_holds.ensures.value (sides_long g.T.Element.numbers g.V.PartialEq.eq _ _ _ c.loop-sides.invariant.sides)

pub present_values-requires-clause-present : goal.present_values-requires-clause-present
present_values-requires-clause-present g c =
    let numbers = g.T.Element.numbers in
    let there = each_there numbers g.V.PartialEq.eq _ c.args.maps.now c.loop-sides.sides.items c.loop-sides.invariant.sides in
    rw c.as_slice-then-each_holds.ensures.value (sym there ∙ sym (rw c.as_slice-in-loop-sides.ensures.value at c.if-each_holds.ensures))

pub new-requires : goal.new-requires
new-requires g c =
    let numbers = g.T.Element.numbers in
    let value = c.loop-sides.invariant.is_value in
    let low = ends_low numbers g.V.PartialEq.eq _ _ _ (g.met.T.Element.numbered.high _ value) c.loop-sides.invariant.sides in
    let least = rw c.as_slice.ensures.value at c.first_end-end.ensures.least in
    rw least low

pub returns-in_default-clause-joined : goal.returns-in_default-clause-joined
returns-in_default-clause-joined g c =
    let numbers = g.T.Element.numbers in
    let eq = g.X.PartialEq.eq in
    let step = CalledAtAll g.V.Clone.is_clone g.F.FnMut in
    let maps = c.args.maps.now in
    let inv = c.loop-sides.invariant in
    let sides = c.loop-sides.sides.items in
    let start = numbers.number c.loop-sides.start in
    let end = numbers.number c.first_end-end.result in
    let least = rw c.as_slice.ensures.value at c.first_end-end.ensures.least in
    let there = each_there numbers g.V.PartialEq.eq start maps sides inv.sides in
    let further = cut_sides numbers g.V.PartialEq.eq start in_all end (end +ℤ pos 1) maps sides (g.met.T.Element.numbered.low _ inv.is_value) (g.met.T.Element.numbered.high _ inv.is_value) inv.sides least refl in
    let last : end ≡ numbers.greatest = c.in_default.ensures.at_end.0 refl in
    joined_all step same_holders_of_all in_all (holders_of_all_at maps) eq numbers.least numbers.greatest (end +ℤ pos 1) c.args.f c.if-each_holds.f c.if-each_holds.map (omega (arith, ints))
    (elim c.if-each_holds.branch [
      | then-each_holds+in_ok-values+in_ok-push w ↦ rw (w.f-is, w.map-is)
          (joined_call step same_holders_of_all in_all (holders_of_all_at maps) eq numbers.least numbers.greatest start (end +ℤ pos 1) ((start, end), holders_in maps sides) further _ _ _ _ _ _
          (sym there ∙ sym (rw c.as_slice-in-loop-sides.ensures.value at w.if-each_holds.ensures))
          (record {
            values = w.as_slice-then-each_holds-2.result;
            clones = rw w.as_slice-then-each_holds-2.ensures.value (rw w.as_slice-then-each_holds.ensures.value at w.in_ok-values.ensures);
            called = w.f-answer.ensures;
          })
          (rw w.new.ensures.value at w.in_ok-push.ensures.is) inv.joined)
      | else-each_holds w ↦ rw (w.f-is, w.map-is)
          (joined_past step same_holders_of_all in_all (holders_of_all_at maps) eq numbers.least numbers.greatest start (end +ℤ pos 1) ((start, end), holders_in maps sides) further _ _ _
          (sym there ∙ sym (rw c.as_slice-in-loop-sides.ensures.value at w.if-each_holds.ensures)) inv.joined)
    ])

pub sides_behind-requires-clause-sides : goal.sides_behind-requires-clause-sides
sides_behind-requires-clause-sides g c =
    let numbers = g.T.Element.numbers in
    let value = c.loop-sides.invariant.is_value in
    let low = ends_low numbers g.V.PartialEq.eq _ _ _ (g.met.T.Element.numbered.high _ value) c.loop-sides.invariant.sides in
    let least = rw c.as_slice.ensures.value at c.first_end-end.ensures.least in
    (numbers.number c.loop-sides.start, rw least low, rw c.as_slice-in-loop-sides-2.ensures.value c.loop-sides.invariant.sides)

pub loop-sides-smaller : goal.loop-sides-smaller
loop-sides-smaller g c =
    let numbers = g.T.Element.numbers in
    let value = c.loop-sides.invariant.is_value in
    let low = ends_low numbers g.V.PartialEq.eq _ _ _ (g.met.T.Element.numbered.high _ value) c.loop-sides.invariant.sides in
    let least = rw c.as_slice.ensures.value at c.first_end-end.ensures.least in
    let high = g.met.T.Element.numbered.high _ c.in-Some.ensures.next.0 in
    let step = c.in-Some.ensures.next.1 in
    let smaller : unsigned_abs (numbers.greatest -ℤ numbers.number c.in-Some.next) < unsigned_abs (numbers.greatest -ℤ numbers.number c.loop-sides.start) = omega (arith, ints, low, least, step) in
    smaller

pub loop-sides-preserved : goal.loop-sides-preserved
loop-sides-preserved g c =
    let numbers = g.T.Element.numbers in
    let eq = g.X.PartialEq.eq in
    let step = CalledAtAll g.V.Clone.is_clone g.F.FnMut in
    let maps = c.args.maps.now in
    let inv = c.loop-sides.invariant in
    let sides = c.loop-sides.sides.items in
    let start = numbers.number c.loop-sides.start in
    let end = numbers.number c.first_end-end.result in
    let least = rw c.as_slice.ensures.value at c.first_end-end.ensures.least in
    let there = each_there numbers g.V.PartialEq.eq start maps sides inv.sides in
    let further = cut_sides numbers g.V.PartialEq.eq start in_all end (end +ℤ pos 1) maps sides (g.met.T.Element.numbered.low _ inv.is_value) (g.met.T.Element.numbered.high _ inv.is_value) inv.sides least refl in
    let next : numbers.number c.in-Some.next ≡ end +ℤ pos 1 = c.in-Some.ensures.next.1 in
    let low = ends_low numbers g.V.PartialEq.eq _ _ _ (g.met.T.Element.numbered.high _ inv.is_value) inv.sides in
    record {
      callable = elim c.if-each_holds.branch [
        | then-each_holds+in_ok-values+in_ok-push w ↦ rw w.f-is (search (rules, of_calls))
        | else-each_holds w ↦ rw w.f-is inv.callable
      ];
      is_value = c.in-Some.ensures.next.0;
      below = rw next (elim c.if-each_holds.branch [
        | then-each_holds+in_ok-values+in_ok-push w ↦ rw w.map-is (rw w.new.ensures.value at w.in_ok-push.ensures.labelled.behind)
        | else-each_holds w ↦ rw w.map-is (end_below-raise start (end +ℤ pos 1) _ (omega (arith, ints, low, least)) inv.below)
      ]);
      sides = c.in_ok-sides-2.ensures;
      joined = rw next (elim c.if-each_holds.branch [
        | then-each_holds+in_ok-values+in_ok-push w ↦ rw (w.f-is, w.map-is)
            (joined_call step same_holders_of_all in_all (holders_of_all_at maps) eq numbers.least numbers.greatest start (end +ℤ pos 1) ((start, end), holders_in maps sides) further _ _ _ _ _ _
            (sym there ∙ sym (rw c.as_slice-in-loop-sides.ensures.value at w.if-each_holds.ensures))
            (record {
              values = w.as_slice-then-each_holds-2.result;
              clones = rw w.as_slice-then-each_holds-2.ensures.value (rw w.as_slice-then-each_holds.ensures.value at w.in_ok-values.ensures);
              called = w.f-answer.ensures;
            })
            (rw w.new.ensures.value at w.in_ok-push.ensures.is) inv.joined)
        | else-each_holds w ↦ rw (w.f-is, w.map-is)
            (joined_past step same_holders_of_all in_all (holders_of_all_at maps) eq numbers.least numbers.greatest start (end +ℤ pos 1) ((start, end), holders_in maps sides) further _ _ _
            (sym there ∙ sym (rw c.as_slice-in-loop-sides.ensures.value at w.if-each_holds.ensures)) inv.joined)
      ]);
    }
