use Rattle.std.proofs.Common.{◌≡◌, ◌++◌, ◌<◌, length, drop}
use Rattle.std.specs.List.{AllByRecursion}
use Rattle.truth_blocks.specs.Blocks.{bits}
use Rattle.truth_blocks.specs.Rows.{places_of_true}
use Rattle.truth_blocks.proofs.rows.held_at.Given as goal

abbrev pub invariant-loop-k : goal.invariant-loop-k
invariant-loop-k l = record {
  same : l.held.items ++ places_of_true (bits l.place l.words) l.k (drop l.k l.shown) ≡ places_of_true (bits l.place l.words) 0 l.shown;
  within : AllByRecursion (λ line. line < length l.words) (drop l.k l.shown);
}
