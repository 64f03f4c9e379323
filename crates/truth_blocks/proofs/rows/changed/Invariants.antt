use Rattle.std.proofs.Common.{◌≡◌, ℕ, ◌<◌, length, drop, get_or, map}
use Rattle.std.specs.Prelude.{◌||◌, false}
use Rattle.std.specs.List.{AllByRecursion, list_any}
use Rattle.truth_blocks.specs.Blocks.{is_one}
use Rattle.truth_blocks.specs.Notes.{is_change}
use Rattle.truth_blocks.proofs.rows.changed.Given as goal

abbrev pub invariant-loop-line : goal.invariant-loop-line
invariant-loop-line l = record {
  any : (i : ℕ) → i < 64
      → (is_one l.all i || list_any (λ line. is_change (get_or l.words line 0) (get_or (map (λ n. n.value) l.notes) line false) i) (drop l.line-index l.shown))
      ≡ list_any (λ line. is_change (get_or l.words line 0) (get_or (map (λ n. n.value) l.notes) line false) i) l.shown;
  within : AllByRecursion (λ line. line < length l.words) (drop l.line-index l.shown);
}
