use Rattle.std.proofs.Common.{rules, ◌≡◌, ◌∙◌, length}
use Rattle.std.specs.Prelude.{ℤ}
use Rattle.std.specs.Vec.Iter.{into_iter_len}
use Rattle.range_map.proofs.TakenLemmas.{taken_whole}
use Rattle.set_document.specs.Lines.{lines_of}
use Rattle.set_document.specs.Numbers.{least, greatest}
use Rattle.set_document.specs.Table.{names_held}
use Rattle.set_document.specs.Truth.{at}
use Rattle.set_document.proofs.TableLemmas.{grouped_held, placed_groups, rows_canonical, row_at}
use Rattle.set_document.proofs.table.rows_by_sets.Goals as goal

pub returns : goal.returns
unfolding least greatest
returns c =
    let lines = c.args.done.now in
    let h = λ (x : ℤ). names_held (at (lines_of lines) x) in
    let groups = c.in_ok-groups.groups in
    let filled = c.in_ok-slots.ensures in
    let ran = c.in_ok-group_map.ensures.values in
    let items = c.in_ok-indices.indices.items in
    let len : into_iter_len ran.0 ≡ length items = ran.2.1 ∙ search rules in
    let given = taken_whole ran.0 items ran.1 ran.2.0 len ran.3 in
    let grouped = grouped_held least greatest c.in_ok-holders.holders groups h c.in_ok-holders.ensures.values c.in_ok-groups.ensures.values in
    let placed = placed_groups least greatest ran.1 c.in_ok-group_map.group_map groups (given ∙ c.in_ok-indices.ensures) ran.4 in
    rw c.in_ok-rows.ensures (record {
      lines = c.gather.ensures.lines;
      canonical = rows_canonical least greatest h groups c.in_ok-group_map.group_map c.in_ok-slots.slots c.in_ok-groups.ensures.canonical grouped placed filled.canonical filled.values;
      values = row_at least greatest h groups c.in_ok-group_map.group_map c.in_ok-slots.slots c.in_ok-groups.ensures.canonical grouped placed filled.canonical filled.values;
    })
