use Rattle.std.proofs.Common.{◌≡◌, arith, [], take, drop, length-drop}
use Rattle.std.proofs.lemmas.List.{take_all, nil_from_length}
use Rattle.text_lines.proofs.CutLemmas.{lines_cut, lines_whole}
use Rattle.text_lines.proofs.line.cut_line.Goals as goal

pub returns-then-at-text-clause-lines : goal.returns-then-at-text-clause-lines
returns-then-at-text-clause-lines c =
    let e = c.first_place-at.ensures.place in
    rw (c.split_at.ensures.front, c.split_at.ensures.back, e) (lines_cut c.args.text.now (omega (arith, e)))

pub returns-else-at-text-clause-lines : goal.returns-else-at-text-clause-lines
returns-else-at-text-clause-lines c =
    let e = c.first_place-at.ensures.place in
    let t : take c.first_place-at.result c.args.text.now ≡ c.args.text.now = take_all c.first_place-at.result c.args.text.now (omega arith) in
    let d : drop c.first_place-at.result c.args.text.now ≡ [] = nil_from_length (drop c.first_place-at.result c.args.text.now) (omega (arith, length-drop c.first_place-at.result c.args.text.now)) in
    rw (c.split_at-else-at-text.ensures.front, c.split_at-else-at-text.ensures.back, t, d) (lines_whole c.args.text.now c.requires (omega (arith, e)))
