use Rattle.std.proofs.lemmas.Grind.{common_steps}
use Rattle.std.proofs.Common.{rules, arith, ◌≡◌, [], sym, ◌∙◌}
use Rattle.range_map.proofs.GrowthLemmas.{last_item, last_ends_below, pushed_first, pushed_apart, pushed_joined, put_apart, put_joined}
use Rattle.range_map.proofs.map.growing.put_last.Goals as goal
use Rattle.range_map.proofs.map.growing.put_last.Goals.{in-Some+else-continues, in_default}

pub continues-requires : goal.continues-requires
continues-requires g c =
    let l = last_item c.args.list.now.items _ c.in-Some.last.now (search rules) c.in-Some.ensures.value in
    last_ends_below g.T.Element.numbers _ _ l.rest c.in-Some.last.now l.is c.requires.end_below

pub returns-then-continues : goal.returns-then-continues
returns-then-continues g c =
    let l = last_item c.args.list.now.items _ c.in-Some.last.now (search rules) c.in-Some.ensures.value in
    let new = l.set (c.cover-last.result, c.in-Some.last.now.1) in
    let both = pushed_joined g.T.Element.numbers g.V.PartialEq.eq g.met.V.Eq.laws _ l.rest _ c.in-Some.last.now c.args.range c.cover-last.result c.args.value
    l.is new c.requires.map c.requires.end_below
    c.start.ensures.range c.end.ensures.high c.if-continues.ensures.cases.0 c.if-continues.ensures.cases.1
    c.cover-last.ensures.start c.cover-last.ensures.end c.cover-last.ensures.range in
    record {
      map = both.0;
      put = record {
        labelled = both.1;
        is = put_joined g.T.Element.numbers g.V.PartialEq.eq _ l.rest _ c.in-Some.last.now c.args.range c.cover-last.result c.args.value l.is new
            (sym c.if-continues.ensures.exact) both.2.0 both.2.1;
      };
      len = search rules;
      capacity = search rules;
    }

pub returns : goal.returns
returns g c = elim c.match-last_mut.branch [
  | in-Some+else-continues w ↦
      let l = last_item c.args.list.now.items _ w.in-Some.last.now (search rules) w.in-Some.ensures.value in
      let new = rw (l.set w.in-Some.last.now ∙ sym l.is) at (rw w.list-is at c.push_reserved.ensures.items) in
      let both = pushed_apart g.T.Element.numbers g.V.PartialEq.eq g.met.V.Eq.laws _ l.rest _ w.in-Some.last.now c.args.range c.args.value
      l.is new c.requires.map c.requires.end_below
      c.start.ensures.range c.end.ensures.high w.if-continues.ensures.cases in
      record {
        map = both.0;
        put = record {
          labelled = both.1;
          is = put_apart g.T.Element.numbers g.V.PartialEq.eq _ l.rest _ w.in-Some.last.now c.args.range c.args.value l.is new
              (sym w.if-continues.ensures.exact);
        };
        len = search rules;
        capacity = search rules;
      }
  | in_default w ↦
      let none : c.args.list.now.items ≡ [] = grind (arith, common_steps) in
      let both = pushed_first g.T.Element.numbers g.V.PartialEq.eq g.met.V.Eq.laws c.args.list.now.items _ c.args.range c.args.value
      none (rw w.list-is at c.push_reserved.ensures.items) c.start.ensures.range c.start.ensures.low c.end.ensures.high in
      record { map = both.0; put = both.1; len = search rules; capacity = search rules }
]
