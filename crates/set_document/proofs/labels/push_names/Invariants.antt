-- What is written, and what the names left will add, is the whole.
use Rattle.std.proofs.Common.{◌≡◌, ◌≤◌, ◌-◌, ◌++◌, ℕ, List, length, drop}
use Rattle.std.specs.Prelude.{flat_map}
use Rattle.set_document.specs.Answer.{name_text}
use Rattle.set_document.specs.Labels.{HasLabels}
use Rattle.set_document.proofs.labels.push_names.Given as goal

abbrev pub invariant-loop-at : goal.invariant-loop-at
invariant-loop-at l = (l.at ≤ length l.places)
    × ((names : List (List ℕ)) → HasLabels names l.labels
    → l.out.items ++ flat_map (name_text names) (drop l.at l.places) ≡ l.initial.out.items ++ flat_map (name_text names) l.places)

abbrev pub decreases-loop-at : goal.decreases-loop-at
decreases-loop-at l = length l.places - l.at
