use Rattle.std.proofs.Common.{rules, ◌≡◌, refl, inr}
use Rattle.std.specs.Prelude.{option_map, Some}
use Rattle.set_document.specs.Text.{Name}
use Rattle.set_document.specs.Words.{letters, kind_of_word}
use Rattle.set_document.proofs.NameLemmas.{known_where_placed}
use Rattle.set_document.proofs.judge.judge_word.Goals as goal

pub returns-in-Some-clause-depth : goal.returns-in-Some-clause-depth
returns-in-Some-clause-depth c =
    let names = c.args.names.now in
    let name = letters c.in-Some-Named.name in
    let w : option_map kind_of_word c.args.found ≡ Some (Name name) = search rules in
    rw (w, known_where_placed names name, ← c.in-Some.ensures) refl

pub returns-in-None-place-clause-fault : goal.returns-in-None-place-clause-fault
returns-in-None-place-clause-fault c =
    let names = c.args.names.now in
    let name = letters c.in-Some-Named.name in
    let w : option_map kind_of_word c.args.found ≡ Some (Name name) = search rules in
    rw (w, known_where_placed names name, ← c.in-None-place.ensures) (inr refl)
