use Rattle.std.proofs.Common.{◌≡◌, sym, ◌∙◌, arith}
use Rattle.std.proofs.lemmas.Iterator.Adapters.{YieldsList-from_vec}
use Rattle.std.proofs.lemmas.Iterator.{items_from_drains}
use Rattle.std.proofs.lemmas.List.{map-id}
use Rattle.range_map_tests.proofs.whole_callers.shut_but.Goals as goal

pub returns : goal.returns
returns c =
    let d = c.in_ok-shut.ensures.1 in
    let items : c.in_ok-shut.ensures.0 ≡ c.args.allowed.items =
    sym (map-id c.in_ok-shut.ensures.0) ∙ items_from_drains c.in_ok-shut.ensures.0 (d.1.0, d.1.1, λ w. (d.0, d.1.2)) (YieldsList-from_vec c.args.allowed.items c.into_iter.ensures.rest (omega (arith, c.into_iter.ensures.len, c.args.allowed.ok.0))) in
    rw (← items) c.in_ok-shut.ensures.2
