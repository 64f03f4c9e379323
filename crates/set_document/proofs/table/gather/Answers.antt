use Rattle.std.proofs.Common.{◌≡◌, ◌∙◌, ap, sym, length, arith}
use Rattle.std.specs.Prelude.{ℕ, ℤ, List}
use Rattle.std.proofs.lemmas.List.{length-map}
use Rattle.set_document.specs.Lines.{names_of}
use Rattle.set_document.specs.Words.{letters}
use Rattle.set_document.specs.declared.named_lines.Line.{Line}
use Rattle.set_document.proofs.GatherLemmas.{all_placed, held_by_index, placed_rest, name_put_in, line_is_there}
use Rattle.set_document.proofs.NameLemmas.{line_at}
use Rattle.set_document.proofs.table.gather.Goals as goal
use Rattle.set_document.proofs.table.gather.Goals.{in-Some-get+in_ok-push_ranges, in_default}

pub loop-place-init : goal.loop-place-init
loop-place-init c =
    let lines = c.args.done.now in
    let pairs = c.names-place-items.result.now.pairs in
    let gives = c.into_iter-place-iterator.ensures.into_iter_gives.0 in
    record {
      grouped = λ x. rw (c.new-holders.ensures, gives.all) (held_by_index lines pairs x c.names-place-items.ensures.indexed);
      placed = rw gives.all (all_placed (names_of lines) pairs c.names-place-items.ensures.indexed);
      count = omega (arith, gives.countable);
    }

pub loop-place-preserved : goal.loop-place-preserved
loop-place-preserved c =
    let lines = c.args.done.now in
    let items = c.lines-lines.result.now in
    let i = c.loop-place.invariant in
    let left = c.loop-place.place-iterator in
    let rest = c.next.new.self in
    let name = c.in-Some.field-0-0.now in
    let place = c.in-Some.place.now in
    let next = c.in-Some.ensures.steps in
    let many : length lines ≡ length items =
    ap length (sym c.lines-lines.ensures.lines) ∙ length-map {B = List ℕ × List (ℤ × ℤ)} items (λ (l : Line). (letters l.name, l.set)) in
    elim c.match-get.branch [
      | in-Some-get+in_ok-push_ranges w ↦
          let at_place = w.in-Some-get.ensures.lookup in
          let line = w.in-Some-get.line.now in
          record {
            grouped = λ x.
                rw w.holders-is (name_put_in lines left rest name place i.placed next c.loop-place.holders w.push_ranges.new.holders c.loop-place.index (letters line.name, line.set)
                c.lines-lines.ensures.canonical (omega (arith, many, at_place.3.0)) (rw c.lines-lines.ensures.lines at (line_at items place line at_place.1)) w.in_ok-push_ranges.ensures x ∙ i.grouped x);
            placed = placed_rest (names_of lines) left rest name place i.placed next;
            count = omega (arith, i.count, ap length next);
          }
      | in_default w ↦ absurd (line_is_there lines left rest name place i.placed next (omega (arith, many, w.in_default.ensures.lookup.3)))
    ]
