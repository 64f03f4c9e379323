use Rattle.std.proofs.Common.{◌≡◌, ◌+◌, ◌∷◌, drop, get_or, arith, refl}
use Rattle.std.specs.Prelude.{◌||◌, Bool, true, false}
use Rattle.std.proofs.lemmas.Grind.{common_steps}
use Rattle.truth_blocks.proofs.BitLemmas.{one_none, one_or}
use Rattle.truth_blocks.proofs.rows.changed.Goals as goal

or_group : (a b c : Bool) → ((a || b) || c) ≡ (a || (b || c))
or_group true b c = refl
or_group false b c = refl

pub loop-line-init : goal.loop-line-init
loop-line-init c = record { any = λ i p. rw (one_none i) refl; within = c.requires.within }

pub loop-line-preserved : goal.loop-line-preserved
loop-line-preserved c =
    let n = c.loop-line.line-index in
    let shown = c.args.shown.now in
    let e : drop n shown ≡ get_or shown n 0 ∷ drop (n + 1) shown = grind (arith, common_steps) in
    let within = rw e at c.loop-line.invariant.within in
    record {
      any = λ i p.
          let before = rw e at (c.loop-line.invariant.any i p) in
          rw (one_or c.loop-line.all c.change_of-all.result i, c.change_of-all.ensures i p, or_group) before;
      within = within.1;
    }
