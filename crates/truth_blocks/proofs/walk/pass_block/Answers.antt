use Rattle.std.proofs.Common.{◌≡◌, ◌∙◌, length, sym}
use Rattle.std.proofs.lemmas.List.{length-map}
use Rattle.truth_blocks.specs.Blocks.{steps_of, values_of}
use Rattle.truth_blocks.specs.Notes.{states, state, noted_values}
use Rattle.truth_blocks.proofs.WalkLemmas.{word_each, block_walk, block_carries}
use Rattle.truth_blocks.proofs.RowLemmas.{block_rows}
use Rattle.truth_blocks.proofs.walk.pass_block.Goals as goal

pub starts_of-starts-requires-clause-within : goal.starts_of-starts-requires-clause-within
starts_of-starts-requires-clause-within c =
    let e = word_each c.args.base c.in_ok-words.words.items c.args.lines.now c.in_ok-words.ensures in
    rw (c.deref.ensures.value, e) c.requires.shown

pub starts_of-starts-requires-clause-each : goal.starts_of-starts-requires-clause-each
starts_of-starts-requires-clause-each c =
    let e = word_each c.args.base c.in_ok-words.words.items c.args.lines.now c.in_ok-words.ensures in
    rw (c.deref.ensures.value, c.deref-2.ensures.value) (c.requires.each ∙ sym e)

pub push_rows-requires-clause-within : goal.push_rows-requires-clause-within
push_rows-requires-clause-within c =
    let e = word_each c.args.base c.in_ok-words.words.items c.args.lines.now c.in_ok-words.ensures in
    rw (c.deref-3.ensures.value, e) c.requires.shown

pub note_all-requires-clause-each : goal.note_all-requires-clause-each
note_all-requires-clause-each c =
    let e = word_each c.args.base c.in_ok-words.words.items c.args.lines.now c.in_ok-words.ensures in
    rw c.deref-4.ensures.value (c.requires.each ∙ sym e)

pub returns-clause-notes : goal.returns-clause-notes
returns-clause-notes c =
    let words = c.in_ok-words.words.items in
    let e = word_each c.args.base words c.args.lines.now c.in_ok-words.ensures in
    let ss = states c.args.pass.now.notes.items in
    let n : length ss ≡ length words = length-map c.args.pass.now.notes.items state ∙ (c.requires.each ∙ sym e) in
    let notes = rw c.deref-4.ensures.value at c.in_ok-note_all.ensures.notes in
    notes ∙ block_walk c.args.base words c.args.lines.now ss c.args.block.now n c.requires.short c.in_ok-words.ensures

pub returns-clause-rows : goal.returns-clause-rows
returns-clause-rows c =
    let words = c.in_ok-words.words.items in
    let pushed = rw c.deref-3.ensures.value at c.in_ok-push_rows.ensures in
    let starts = rw (c.deref.ensures.value, c.deref-2.ensures.value) at c.starts_of-starts.ensures in
    let rows = block_rows c.starts_of-starts.result words (noted_values c.args.pass.now.notes.items) c.args.shown.now
    (values_of (steps_of c.args.lines.now)) c.args.base c.args.block.now c.requires.short c.in_ok-words.ensures c.requires.carried starts in
    rw (← rows) pushed

pub returns-clause-carried : goal.returns-clause-carried
returns-clause-carried c =
    let words = c.in_ok-words.words.items in
    let before = c.args.pass.now.notes.items in
    let e = word_each c.args.base words c.args.lines.now c.in_ok-words.ensures in
    let n : length (states before) ≡ length words = length-map before state ∙ (c.requires.each ∙ sym e) in
    let notes = rw c.deref-4.ensures.value at c.in_ok-note_all.ensures.notes in
    block_carries c.args.base words before c.note_all.new.notes.items (values_of (steps_of c.args.lines.now)) c.args.block.now c.requires.some
    c.requires.short n notes c.in_ok-words.ensures
