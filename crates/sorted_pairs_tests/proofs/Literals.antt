-- Lists of pairs that are written out: a test, which computes, says whether their keys ascend.
use Rattle.std.proofs.Common.{◌≡◌, true, List}
use Rattle.std.specs.List.Sorted.{IsStrictlySortedBy}
use Rattle.std.specs.declared.cmp.Ordering.{Ordering}
use Rattle.ordered_lists.specs.Lists.{by_key}
use Rattle.sorted_iter.proofs.Literals.{ascends, sorted-literal}

pub sorted-pairs : {K V : Type 0} (cmp : K → K → Ordering) (ps : List (K × V)) → ascends (by_key cmp) ps ≡ true → IsStrictlySortedBy (by_key cmp) ps
sorted-pairs cmp ps h = sorted-literal (by_key cmp) ps h

pub ruleset literals = (sorted-pairs)
