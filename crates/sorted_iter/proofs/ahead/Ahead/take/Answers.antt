use Rattle.std.proofs.Common.{sym, ◌∙◌}
use Rattle.sorted_iter.proofs.TakeLemmas.{takes-item}
use Rattle.sorted_iter.proofs.ahead.Ahead.take.Goals as goal

pub returns-in-Some : goal.returns-in-Some
returns-in-Some g c = rw c.replace.ensures.after (takes-item g.I.Iterator.can_next g.I.Iterator.remaining g.I.Iterator.next_gives c.args.self.now c.next.new.self c.in-Some.item (sym c.replace.ensures.value ∙ c.in-Unread.is) c.in-Some.ensures.steps c.in-Some.ensures.goes)
