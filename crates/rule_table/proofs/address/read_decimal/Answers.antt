use Rattle.std.proofs.Common.{◌∙◌, sym, w64}
use Rattle.std.proofs.lemmas.Int.{to_z-of_z}
use Rattle.rule_table.proofs.AddressLemmas.{decimal_of, number_fits}
use Rattle.rule_table.proofs.address.read_decimal.Goals as goal

pub returns-clause-value : goal.returns-clause-value
returns-clause-value c =
    let z = c.in_ok-number.number in
    let read = sym c.in_ok-number.ensures in
    rw (to_z-of_z w64 z (number_fits c.args.piece.now z read)) at c.within.ensures ∙ sym (decimal_of c.args.most c.args.piece.now z read)
