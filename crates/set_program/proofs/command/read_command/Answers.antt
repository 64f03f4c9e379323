use Rattle.std.proofs.Common.{◌≡◌, [], ◌∷◌, refl, ◌∙◌, arith}
use Rattle.std.specs.Prelude.{codes}
use Rattle.std.proofs.lemmas.Slice.Eq.{bytes_eq-Decides}
use Rattle.set_program.specs.Command.{IsLineCount}
use Rattle.set_program.proofs.CommandLemmas.{two_words}
use Rattle.set_program.proofs.command.read_command.Goals as goal

pub returns-in_ok-line_count-in-len2 : goal.returns-in_ok-line_count-in-len2
returns-in_ok-line_count-in-len2 c =
    let two : c.args.words.now ≡ c.name-item-then-words-lt3.result ∷ c.count-item.result ∷ [] =
    two_words c.args.words.now c.name-item-then-words-lt3.result c.count-item.result
    (omega (arith, c.in-len2.len_at_least)) (omega (arith, c.in-len2.len_below)) c.name-item-then-words-lt3.is c.count-item.is in
    let name : c.name-item-then-words-lt3.result ≡ codes "sample" =
    (bytes_eq-Decides c.name-item-then-words-lt3.result (codes "sample")).0 (grind arith) in
    let count : IsLineCount c.count-item.result c.in_ok-line_count-in-len2.field-0 =
    rw c.as_bytes-in-len2.ensures at c.in_ok-line_count-in-len2.ensures in
    record { written = two ∙ rw (name, count.written) refl; some = count.some; most = count.most }
