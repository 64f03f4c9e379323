use Rattle.std.proofs.Common.{◌+◌, refl, arith}
use Rattle.rule_table.proofs.AddressLemmas.{with_dash, with_slash, rest_taken}
use Rattle.rule_table.proofs.address.read_addresses.Goals as goal

pub returns-then-dash-piece : goal.returns-then-dash-piece
returns-then-dash-piece c =
    rw (
      with_dash c.args.piece.now c.first_place-dash.result c.first_place-dash.ensures.place c.if-dash-piece.true,
      c.span.ensures,
      c.read_address.ensures,
      c.read_address-then-dash-piece.ensures,
      rest_taken (c.first_place-dash.result + 1) c.args.piece.now,
    ) refl

pub returns-then-slash-piece : goal.returns-then-slash-piece
returns-then-slash-piece c =
    rw (
      with_slash c.args.piece.now c.first_place-dash.result c.first_place-slash.result c.first_place-dash.ensures.place (omega arith)
          c.first_place-slash.ensures.place c.if-slash-piece.true,
      c.block.ensures,
      c.read_address-then-slash-piece.ensures,
      c.read_decimal.ensures.value,
      rest_taken (c.first_place-slash.result + 1) c.args.piece.now,
    ) refl
