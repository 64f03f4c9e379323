-- What is put in, and what the names left will add, is every name that holds; each name left has the place of its last line.
use Rattle.std.proofs.Common.{◌≡◌, ◌++◌, ◌+◌, ◌<◌, ◌^◌, length, map}
use Rattle.std.specs.Prelude.{ℤ}
use Rattle.std.specs.List.{AllByRecursion}
use Rattle.range_multimap.specs.Grouped.{grouped_at}
use Rattle.set_document.specs.Lines.{lines_of, names_of}
use Rattle.set_document.specs.Table.{indices_where, is_held, names_held}
use Rattle.set_document.specs.Truth.{at}
use Rattle.set_document.specs.Words.{letters}
use Rattle.set_document.proofs.GatherLemmas.{IsPlaced}
use Rattle.set_document.proofs.table.gather.Given as goal

abbrev pub invariant-loop-place : goal.invariant-loop-place
invariant-loop-place l = record {
  grouped : (x : ℤ) → grouped_at l.holders x ++ indices_where (is_held (at (lines_of l.done) x)) l.index (map (λ p. letters p.0) l.place-iterator)
      ≡ names_held (at (lines_of l.done) x);
  placed : AllByRecursion (IsPlaced (names_of l.done)) l.place-iterator;
  count : l.index + length l.place-iterator < 2 ^ 64;
}
