use Rattle.std.proofs.Common.{◌≡◌, take}
use Rattle.set_document.specs.Truth.{latest}
use Rattle.set_document.specs.Words.{letters}
use Rattle.set_document.specs.Lines.{pairs_of}
use Rattle.set_document.proofs.truth.latest_value.Given as goal

abbrev pub invariant-loop-known : goal.invariant-loop-known
invariant-loop-known l = l.found ≡ latest (pairs_of (take l.known-index l.done)) (letters l.name)
