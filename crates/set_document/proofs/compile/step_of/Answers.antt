use Rattle.std.proofs.Common.{◌≡◌, rules, Some, refl}
use Rattle.std.specs.Prelude.{option_map}
use Rattle.set_document.specs.Text.{Name}
use Rattle.set_document.specs.Words.{letters, kind_of_word}
use Rattle.set_document.proofs.CompileLemmas.{latest_there, latest_nowhere}
use Rattle.set_document.proofs.compile.step_of.Goals as goal

pub returns-in-Some : goal.returns-in-Some
returns-in-Some c = λ earlier p values e k.
    let w : option_map kind_of_word c.args.found ≡ Some (Name (letters c.in-Some-Named.name)) = search rules in
    rw (w, latest_there earlier c.args.names.now (letters c.in-Some-Named.name) c.in-Some.place e c.in-Some.ensures) refl

pub returns-in-None-place : goal.returns-in-None-place
returns-in-None-place c = λ earlier p values e k.
    let w : option_map kind_of_word c.args.found ≡ Some (Name (letters c.in-Some-Named.name)) = search rules in
    rw (w, latest_nowhere earlier c.args.names.now (letters c.in-Some-Named.name) e c.in-None-place.ensures) refl
