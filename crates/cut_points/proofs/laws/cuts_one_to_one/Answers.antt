use Rattle.std.proofs.Common.{ap, sym, ◌∙◌}
use Rattle.cut_points.specs.Cuts.{from_cuts}
use Rattle.cut_points.proofs.CutLemmas.{cuts_ascend, from_cuts_canonical, ranges_again, cuts_again, parity_holds}
use Rattle.cut_points.proofs.laws.cuts_one_to_one.Goals as goal

pub returns : goal.returns
returns c = record {
  ascend = cuts_ascend;
  one_list = λ lo hi a b p q e. sym (ranges_again lo hi a p) ∙ (ap (from_cuts hi) e ∙ ranges_again lo hi b q);
  all_lists = λ lo hi numbers a. (from_cuts_canonical lo hi numbers a, cuts_again lo hi numbers a);
  membership = parity_holds;
}
