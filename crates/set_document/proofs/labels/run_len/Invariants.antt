use Rattle.std.proofs.Common.{◌≡◌, ◌-◌, ◌<◌, ◌≤◌, length, take, get_or}
use Rattle.set_document.specs.Labels.{places_from}
use Rattle.set_document.proofs.labels.run_len.Given as goal

abbrev pub invariant-loop-count : goal.invariant-loop-count
invariant-loop-count l = (0 < l.count) × (l.count ≤ length l.places) × (take l.count l.places ≡ places_from (get_or l.places 0 0) l.count)

abbrev pub decreases-loop-count : goal.decreases-loop-count
decreases-loop-count l = length l.places - l.count
