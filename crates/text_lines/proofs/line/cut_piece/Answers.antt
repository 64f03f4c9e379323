use Rattle.std.proofs.Common.{◌≡◌, arith, take, drop, length, ◌+◌, ◌-◌, length-drop}
use Rattle.std.proofs.lemmas.List.{take_all}
use Rattle.text_lines.proofs.CutLemmas.{split_cut, split_whole}
use Rattle.std.specs.Prelude.{◌==◌}
use Rattle.text_lines.proofs.line.cut_piece.Goals as goal

pub returns-then-at-bytes-clause-cut : goal.returns-then-at-bytes-clause-cut
returns-then-at-bytes-clause-cut c =
    let e = c.first_place-at.ensures.place in
    let s = c.args.bytes.now in
    let n = c.first_place-at.result in
    let t : take (length s - (n + 1)) (drop (n + 1) s) ≡ drop (n + 1) s = take_all (length s - (n + 1)) (drop (n + 1) s) (omega (arith, length-drop (n + 1) s)) in
    rw (t, e) (split_cut (λ b. b == 32) s (omega (arith, e)))

pub returns-else-at-bytes-clause-cut : goal.returns-else-at-bytes-clause-cut
returns-else-at-bytes-clause-cut c =
    let e = c.first_place-at.ensures.place in
    split_whole (λ b. b == 32) c.args.bytes.now (omega (arith, e))
