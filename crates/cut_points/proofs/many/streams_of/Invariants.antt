use Rattle.std.proofs.Common.{◌≡◌, ◌++◌, drop, map}
use Rattle.std.specs.Prelude.{Some}
use Rattle.std.specs.Iterator.Adapters.{once_item}
use Rattle.cut_points.proofs.many.streams_of.Given as goal

abbrev pub invariant-loop-value : goal.invariant-loop-value
invariant-loop-value g l =
    map once_item l.streams.items ++ map (λ v. Some v) (drop l.value-index l.values) ≡ map (λ v. Some v) l.values
