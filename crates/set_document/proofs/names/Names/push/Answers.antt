use Rattle.std.proofs.Common.{◌≡◌, ◌∷◌, [], length, arith}
use Rattle.std.proofs.lemmas.List.{map-append, length-map}
use Rattle.set_document.specs.Words.{letters, letters_of}
use Rattle.set_document.proofs.NameLemmas.{indexed_behind}
use Rattle.set_document.proofs.names.Names.push.Goals as goal

pub invariant_of-self-in-Ok : goal.invariant_of-self-in-Ok
invariant_of-self-in-Ok c =
    let list = c.self.inside.list in
    let place : c.len-place.result ≡ length list.items = omega (arith, c.len-place.ensures, list.ok.0) in
    let grown = map-append letters list.items (c.args.name ∷ []) in
    rw (c.push_reserved.ensures.items, c.in_ok-reserve.ensures.items, grown, c.in-Ok.ensures.pairs, place, ← length-map list.items letters)
    (indexed_behind (letters_of list.items) c.self.inside.latest.pairs c.args.name c.self.invariant)
