use Rattle.std.proofs.Common.{◌≡◌, ◌++◌, map}
use Rattle.set_document.proofs.names.seconds.Given as goal

abbrev pub invariant-loop-place : goal.invariant-loop-place
invariant-loop-place l = l.places.items ++ map (λ p. p.1) l.place-iterator ≡ map (λ p. p.1) l.latest.pairs
