use Rattle.std.proofs.Common.{◌<◌, length, get_or, arith}
use Rattle.std.specs.Fn.{CalledAt}
use Rattle.range_map.proofs.ChangeLemmas.{written_start, written_step, written_end}
use Rattle.range_map.proofs.pairs.answer_each.Goals as goal

pub loop-at-init : goal.loop-at-init
loop-at-init g c = record {
  callable = c.requires;
  written = written_start g.T.Element.numbers (CalledAt g.F.FnMut) c.args.f.now c.args.pairs.now;
}

pub loop-at-preserved : goal.loop-at-preserved
loop-at-preserved g c =
    let l = c.loop-at in
    let pair = get_or l.pairs l.at c.index-pairs-at.result in
    let lt : l.at < length l.pairs = omega (arith, l.invariant.written.len) in
    record {
      callable = c.answer.ensures.callable;
      written = written_step g.T.Element.numbers (CalledAt g.F.FnMut) c.args.f.now c.args.pairs.now l.f c.answer.new.f l.pairs l.at pair c.answer.new.pair
          l.invariant.written lt (λ i. get_or l.pairs l.at (c.index-pairs-at.is i)) c.answer.ensures.called c.answer.ensures.same_range c.answer.ensures.range;
    }

pub returns : goal.returns
returns g c =
    let both = written_end g.T.Element.numbers (CalledAt g.F.FnMut) _ _ _ _ _ c.loop-at.invariant.written (omega (arith, c.loop-at.invariant.written.len)) in
    record { ranges = both.0; answered = both.1 }
