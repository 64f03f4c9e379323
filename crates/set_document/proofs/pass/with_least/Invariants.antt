-- The numbers taken, and the cuts left that are above the least, are all of them.
use Rattle.std.proofs.Common.{◌≡◌, ◌++◌, ◌∷◌, drop}
use Rattle.std.specs.Prelude.{int_lt}
use Rattle.std.specs.List.{filter}
use Rattle.set_document.specs.Numbers.{least}
use Rattle.set_document.proofs.pass.with_least.Given as goal

abbrev pub invariant-loop-cut : goal.invariant-loop-cut
invariant-loop-cut l = l.visited.items ++ filter (λ c. int_lt least c) (drop l.cut-index l.cuts) ≡ least ∷ filter (λ c. int_lt least c) l.cuts
