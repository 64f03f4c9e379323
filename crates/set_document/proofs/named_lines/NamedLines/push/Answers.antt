use Rattle.std.proofs.Common.{◌≡◌, length, arith}
use Rattle.set_document.specs.declared.named_lines.Line.{Line}
use Rattle.set_document.proofs.NameLemmas.{pushed_indexed}
use Rattle.set_document.proofs.named_lines.NamedLines.push.Goals as goal

pub invariant_of-self-in-Ok : goal.invariant_of-self-in-Ok
invariant_of-self-in-Ok c =
    let lines = c.self.inside.lines in
    let line : Line = record { name = c.args.name; set = c.args.set } in
    let place : c.len-place.result ≡ length lines.items = omega (arith, c.len-place.ensures, lines.ok.0) in
    rw (c.push_reserved.ensures.items, c.new.ensures.line, c.in_ok-reserve.ensures.items, c.in-Ok.ensures.pairs)
    (pushed_indexed lines.items c.self.inside.latest.pairs line c.len-place.result place c.new.ensures.canonical c.self.invariant)
