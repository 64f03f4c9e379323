-- The lines made, and those of what is left, are all lines.
use Rattle.std.proofs.Common.{◌≡◌, ◌++◌, ◌≤◌, ◌-◌, drop, map, length}
use Rattle.std.specs.List.{AllByRecursion}
use Rattle.cut_points.specs.Cuts.{IsAscending, from_cuts}
use Rattle.set_document.specs.Lines.{line_lists_of, names_of, AllCanonical}
use Rattle.set_document.specs.Numbers.{least, greatest}
use Rattle.set_document.specs.Words.{letters_of}
use Rattle.truth_blocks.specs.Notes.{states}
use Rattle.set_document.proofs.pass.lines_from.Given as goal

abbrev pub invariant-loop-i : goal.invariant-loop-i
invariant-loop-i l = record {
  names : names_of (line_lists_of l.lines.items) ++ letters_of (drop l.i l.names) ≡ letters_of l.names;
  sets : map (λ e. e.set) l.lines.items ++ map (λ n. from_cuts greatest n.1) (states (drop l.i l.left.items))
      ≡ map (λ n. from_cuts greatest n.1) (states l.fn.notes.items);
  canonical : AllCanonical (line_lists_of l.lines.items);
  ascending : AllByRecursion (λ n. IsAscending least greatest n.1) (states (drop l.i l.left.items));
  len : length l.left.items ≡ length l.names;
  bound : l.i ≤ length l.left.items;
}

abbrev pub decreases-loop-i : goal.decreases-loop-i
decreases-loop-i l = length l.left.items - l.i
