use Rattle.std.proofs.Common.{◌≡◌, sym, ◌∙◌, true, w64}
use Rattle.text_lines.proofs.ReaderLemmas.{ends_of_i64, number_parsed, number_is_utf8}
use Rattle.text_lines.specs.Decimals.{has_number_form}
use Rattle.text_lines.proofs.number.read_i64.Goals as goal

pub returns-in-Ok : goal.returns-in-Ok
returns-in-Ok c =
    let same : c.in-Ok.text.now ≡ c.args.piece.now = c.in-Ok.ensures.cases.0 in
    let form : has_number_form c.args.piece.now ≡ true = sym c.if-not-has_number_form.ensures in
    c.ok.ensures.value ∙ number_parsed w64 _ _ c.args.piece.now c.parse.result ends_of_i64 form (rw same at c.parse.ensures.value.0)

pub returns-in-Err : goal.returns-in-Err
returns-in-Err c =
    let form : has_number_form c.args.piece.now ≡ true = sym c.if-not-has_number_form.ensures in
    absurd (c.in-Err.ensures.cases.0 (number_is_utf8 c.args.piece.now form))
