use Rattle.std.proofs.Common.{◌≡◌, ◌≤◌, None, Some, sym, ◌∙◌, length, arith}
use Rattle.std.specs.Prelude.{ℕ, ℤ, List}
use Rattle.std.proofs.lemmas.List.{length-map}
use Rattle.set_document.specs.Lines.{line_lists_of, names_of}
use Rattle.set_document.specs.Names.{last_place}
use Rattle.set_document.specs.Words.{letters}
use Rattle.set_document.specs.declared.named_lines.Line.{Line}
use Rattle.set_document.proofs.NameLemmas.{nothing_latest, nothing_known, something_latest, something_known, line_at, line_at_place}
use Rattle.set_document.proofs.named_lines.NamedLines.latest_set.Goals as goal

pub returns-in_err-place-clause-truth : goal.returns-in_err-place-clause-truth
returns-in_err-place-clause-truth c =
    let lines = line_lists_of c.self.inside.lines.items in
    let name = letters c.args.name.now in
    let none : last_place (names_of lines) name ≡ None = sym (c.self.invariant.indexed.finds c.args.name.now) ∙ sym c.in_err-place.ensures in
    λ x. rw (c.from_residual.ensures, ← c.self.view_is) (nothing_latest lines name x none)

pub returns-in_err-place-clause-known : goal.returns-in_err-place-clause-known
returns-in_err-place-clause-known c =
    let lines = line_lists_of c.self.inside.lines.items in
    let name = letters c.args.name.now in
    let none : last_place (names_of lines) name ≡ None = sym (c.self.invariant.indexed.finds c.args.name.now) ∙ sym c.in_err-place.ensures in
    rw (c.from_residual.ensures, ← c.self.view_is) (nothing_known lines name none)

pub returns-in_err-line : goal.returns-in_err-line
returns-in_err-line c =
    let items = c.self.inside.lines.items in
    let lines = line_lists_of items in
    let name = letters c.args.name.now in
    let place = c.in_ok-place.place.now in
    let some : last_place (names_of lines) name ≡ Some place = sym (c.self.invariant.indexed.finds c.args.name.now) ∙ sym c.in_ok-place.ensures in
    let many : length lines ≡ length items = length-map {B = List ℕ × List (ℤ × ℤ)} items (λ (l : Line). (letters l.name, l.set)) in
    let beyond : length items ≤ place = rw c.deref.ensures.value at c.in_err-line.ensures.lookup.3 in
    absurd (line_at_place lines name place some (omega (arith, many, beyond)))

pub returns-clause-truth : goal.returns-clause-truth
returns-clause-truth c =
    let items = c.self.inside.lines.items in
    let lines = line_lists_of items in
    let name = letters c.args.name.now in
    let place = c.in_ok-place.place.now in
    let line = c.in_ok-line.line.now in
    let some : last_place (names_of lines) name ≡ Some place = sym (c.self.invariant.indexed.finds c.args.name.now) ∙ sym c.in_ok-place.ensures in
    let there = line_at items place line (rw c.deref.ensures.value at c.in_ok-line.ensures.lookup.1) in
    λ x. rw (← c.self.view_is) (something_latest lines name x place (letters line.name, line.set) some there)

pub returns-clause-known : goal.returns-clause-known
returns-clause-known c =
    let lines = line_lists_of c.self.inside.lines.items in
    let name = letters c.args.name.now in
    let some : last_place (names_of lines) name ≡ Some c.in_ok-place.place.now = sym (c.self.invariant.indexed.finds c.args.name.now) ∙ sym c.in_ok-place.ensures in
    rw (← c.self.view_is) (something_known lines name c.in_ok-place.place.now some)
