use Rattle.std.proofs.Common.{◌≡◌, ◌∙◌, ◌++◌, ◌∷◌, ◌+◌, ℕ, [], arith, rules, sym, append-nil, append_assoc, get_or, w64, List, refl}
use Rattle.std.specs.Prelude.{pos, FitsSigned}
use Rattle.std.specs.Int.{trailing_zeros}
use Rattle.std.proofs.lemmas.Int.{to_z-of_z}
use Rattle.std.proofs.lemmas.List.{map-append}
use Rattle.truth_blocks.specs.Blocks.{bits}
use Rattle.truth_blocks.specs.Rows.{places_of_true, numbers_with_labels, rows_of}
use Rattle.truth_blocks.proofs.NoteLemmas.{picked_lowest, none_within, none_left, fewer}
use Rattle.truth_blocks.proofs.RowLemmas.{labelled_at, length_labelled}
use Rattle.truth_blocks.proofs.rows.push_rows.Goals as goal

pub returns-then-place-block : goal.returns-then-place-block
returns-then-place-block c =
    let label : ℕ → List ℕ = λ i. places_of_true (bits i c.args.words.now) 0 c.args.shown.now in
    let items = numbers_with_labels label 0 c.args.block.now in
    let m = length_labelled label 0 c.args.block.now in
    let none = none_within c.loop-left.left items (omega arith) (omega arith) (omega (arith, m)) in
    let done = rw none at c.loop-left.invariant in
    sym (append-nil (rows_of c.loop-left.rows.items)) ∙ done

pub loop-left-smaller : goal.loop-left-smaller
loop-left-smaller c = fewer c.loop-left.left (omega arith) (omega arith)

pub loop-left-preserved : goal.loop-left-preserved
loop-left-preserved c =
    let label : ℕ → List ℕ = λ i. places_of_true (bits i c.args.words.now) 0 c.args.shown.now in
    let block = c.args.block.now in
    let items = numbers_with_labels label 0 block in
    let m = length_labelled label 0 block in
    let t = trailing_zeros w64 c.loop-left.left in
    let x = get_or block t (pos 0) in
    let first = picked_lowest (pos 0, []) c.loop-left.left items (omega arith) (omega arith) (omega (arith, m)) (omega (arith, m)) in
    let there = labelled_at label 0 t block (omega arith) in
    let z : 0 + t ≡ t = omega arith in
    let before = rw (first, there, z) at c.loop-left.invariant in
    let fits : FitsSigned w64 x = search rules in
    let grown : rows_of c.push.new.self.items ≡ rows_of c.loop-left.rows.items ++ (x, label t) ∷ [] =
    rw (c.in_ok-push.ensures.items, map-append, to_z-of_z w64 x fits, c.in_ok-held.ensures) refl in
    rw (grown, append_assoc) before

pub returns : goal.returns
returns c =
    let label : ℕ → List ℕ = λ i. places_of_true (bits i c.args.words.now) 0 c.args.shown.now in
    let done = rw (c.loop-left-test.false, none_left (numbers_with_labels label 0 c.args.block.now)) at c.loop-left.invariant in
    sym (append-nil (rows_of c.loop-left.rows.items)) ∙ done
