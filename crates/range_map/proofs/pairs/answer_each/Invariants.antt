use Rattle.std.specs.Fn.{CalledAt}
use Rattle.range_map.proofs.ChangeLemmas.{IsWrittenTo}
use Rattle.range_map.proofs.pairs.answer_each.Given as goal

abbrev pub invariant-loop-at : goal.invariant-loop-at
invariant-loop-at g l = record {
  callable : goal.F-IsAlwaysCallable g l.f;
  written : IsWrittenTo g.T.Element.numbers (CalledAt g.F.FnMut) l.initial.f l.initial.pairs l.f l.pairs l.at;
}
