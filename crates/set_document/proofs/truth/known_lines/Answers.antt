use Rattle.std.proofs.Common.{◌≡◌, [], sym, ◌∙◌, to_z, of_z, w64}
use Rattle.std.specs.Prelude.{option_copied}
use Rattle.std.proofs.lemmas.List.{map-append}
use Rattle.text_lines.specs.Lines.{lines, words}
use Rattle.set_document.specs.Truth.{after_words}
use Rattle.truth_blocks.specs.Stack.{last_value}
use Rattle.set_document.specs.Words.{letters}
use Rattle.set_document.specs.Lines.{pairs_of}
use Rattle.set_document.proofs.TruthLemmas.{at_named, line_turn}
use Rattle.set_document.proofs.truth.known_lines.Goals as goal

pub loop-rest-init : goal.loop-rest-init
loop-rest-init c = rw c.new-done.ensures.items (sym (at_named _ _))

pub loop-rest-preserved-in_ok-push : goal.loop-rest-preserved-in_ok-push
loop-rest-preserved-in_ok-push c =
    let before = rw c.cut_line.ensures.lines at c.loop-rest.invariant in
    let earlier = pairs_of c.loop-rest.done.items in
    let words_left = words (option_copied c.in-Named.words) in
    let value : c.in_ok-value.value ≡ last_value (after_words earlier (to_z w64 (of_z w64 c.args.x)) [] words_left) = rw (← c.deref.ensures.value) c.in_ok-value.ensures in
    line_turn _ earlier _ c.cut_line.result.0.now (lines c.cut_line.result.1.now) (letters c.in-Named.name) (option_copied c.in-Named.words) c.in_ok-value.value
    c.in-Named.ensures value (rw c.in_ok-push.ensures.items (map-append _ c.loop-rest.done.items _)) ∙ before
