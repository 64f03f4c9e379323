use Rattle.std.proofs.Common.{◌≡◌, List, take}
use Rattle.std.specs.List.{AllZip}
use Rattle.sorted_iter.specs.MultiwayHints.{fitting, greatest_lower, Hint, IsHint, sum_upper}
use Rattle.sorted_iter.proofs.multiway.hint.hint_of.Given as goal

abbrev pub invariant-loop-head : goal.invariant-loop-head
invariant-loop-head g l =
    (hints : List Hint) × (l.lower ≡ greatest_lower hints) × (l.upper ≡ fitting (sum_upper hints)) × AllZip (λ h input. IsHint (g.I.Iterator.remaining h.rest) input) (take l.head-index l.head-items) hints
