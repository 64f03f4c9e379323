use Rattle.std.proofs.Common.{◌≡◌, ◌∙◌, List, ap, length, map, sym}
use Rattle.std.specs.Prelude.{ℤ, Bool}
use Rattle.std.proofs.lemmas.List.{length-map}
use Rattle.cut_points.specs.Cuts.{from_cuts}
use Rattle.set_document.specs.Literals.{literal_cuts}
use Rattle.set_document.specs.Numbers.{greatest}
use Rattle.set_document.specs.Truth.{named_lines}
use Rattle.set_document.specs.Visits.{rows_with_ends}
use Rattle.set_document.specs.Words.{letters}
use Rattle.truth_blocks.specs.Blocks.{steps_of, values_of}
use Rattle.truth_blocks.specs.Notes.{state, states, walk_places, no_notes}
use Rattle.truth_blocks.specs.Rows.{label_of}
use Rattle.set_document.proofs.RunLemmas.{walk_rises, walk_some, places_ascend, places_give_runs}
use Rattle.set_document.proofs.PassLemmas.{shown_within, rows_are_table, rows_ascending, lines_listed, length_walk}
use Rattle.set_document.proofs.pass.pass_over.Goals as goal

pub compile-requires : goal.compile-requires
compile-requires c = walk_rises (literal_cuts c.args.text.now) c.args.visited.now c.requires

pub one_pass-requires : goal.one_pass-requires
one_pass-requires c =
    let p = c.in_ok-lines.field-0 in
    let within = shown_within p.names c.in_ok-places.places.items c.in_ok-places.ensures in
    let within2 = rw c.in_ok-lines.ensures.len at within in
    rw (c.deref.ensures.value, c.deref-2.ensures.value) within2

pub lines_from-requires : goal.lines_from-requires
lines_from-requires c =
    let p = c.in_ok-lines.field-0 in
    let steps = steps_of p.lines.items in
    let visited = c.args.visited.now in
    let notes = rw c.deref.ensures.value at c.in_ok-notes.ensures.notes in
    let some = walk_some (literal_cuts c.args.text.now) visited c.requires in
    let e : states c.in_ok-notes.field-0.notes.items ≡ walk_places (values_of steps) 0 (no_notes steps) visited = notes in
    let many : length (states c.in_ok-notes.field-0.notes.items) ≡ length p.lines.items = rw e (length_walk steps 0 (no_notes steps) visited (length-map steps _) ∙ length-map p.lines.items _) in
    let names : length c.as_slice.result.now ≡ length p.names = sym (length-map c.as_slice.result.now letters) ∙ ap length c.as_slice.ensures in
    record {
      each = names ∙ (c.in_ok-lines.ensures.len ∙ (sym many ∙ length-map c.in_ok-notes.field-0.notes.items state));
      ascending = rw e (places_ascend c.args.text.now steps visited c.requires c.in_ok-lines.ensures.steps);
    }

pub close_rows-requires : goal.close_rows-requires
close_rows-requires c =
    let steps = steps_of c.in_ok-lines.field-0.lines.items in
    let begun = rw (c.deref.ensures.value, c.deref-2.ensures.value) at c.in_ok-notes.ensures.rows in
    rw begun (rows_ascending (label_of steps c.in_ok-places.places.items) (literal_cuts c.args.text.now) c.args.visited.now c.requires)

pub with_names-requires : goal.with_names-requires
with_names-requires c = record {
  names = c.in_ok-done.ensures.names ∙ c.as_slice.ensures;
  canonical = c.in_ok-done.ensures.canonical;
}

pub returns-clause-lines : goal.returns-clause-lines
returns-clause-lines c =
    let p = c.in_ok-lines.field-0 in
    let steps = steps_of p.lines.items in
    let text = c.args.text.now in
    let visited = c.args.visited.now in
    let notes = rw c.deref.ensures.value at c.in_ok-notes.ensures.notes in
    let e : states c.in_ok-notes.field-0.notes.items ≡ walk_places (values_of steps) 0 (no_notes steps) visited = notes in
    let names = c.in_ok-done.ensures.names ∙ (c.as_slice.ensures ∙ c.in_ok-lines.ensures.names (walk_some (literal_cuts text) visited c.requires)) in
    let sets = c.in_ok-done.ensures.sets ∙ (ap (map (λ (n : Bool × List ℤ). from_cuts greatest n.1)) e ∙ places_give_runs text steps visited c.requires c.in_ok-lines.ensures.steps) in
    c.with_names.ensures ∙ lines_listed text c.in_ok-done.done.items names sets

pub returns-clause-rows : goal.returns-clause-rows
returns-clause-rows c =
    let p = c.in_ok-lines.field-0 in
    let text = c.args.text.now in
    let same : p.names ≡ map (λ l. l.0) (named_lines text) = c.in_ok-lines.ensures.names (walk_some (literal_cuts text) c.args.visited.now c.requires) in
    let shown = rw same at c.in_ok-places.ensures in
    let begun = rw (c.deref.ensures.value, c.deref-2.ensures.value) at c.in_ok-notes.ensures.rows in
    c.in_ok-table.ensures ∙ (ap (rows_with_ends greatest) begun ∙ rows_are_table text (steps_of p.lines.items) c.args.visited.now c.in_ok-places.places.items c.requires c.in_ok-lines.ensures.steps shown)
