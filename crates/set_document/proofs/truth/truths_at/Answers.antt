use Rattle.std.proofs.Common.{◌∙◌, ap, sym, w64}
use Rattle.std.specs.Prelude.{map}
use Rattle.std.proofs.lemmas.Int.{to_z-of_z}
use Rattle.set_document.proofs.TruthLemmas.{second_of_pairs}
use Rattle.set_document.proofs.truth.truths_at.Goals as goal

pub returns : goal.returns
returns c =
    let known = rw (to_z-of_z w64 c.args.x c.ranges.x) at c.in_ok-done.ensures in
    let values = rw c.deref.ensures.value at c.in_ok-truths.ensures in
    values ∙ (sym (second_of_pairs c.in_ok-done.done.items) ∙ ap (map (λ l. l.1)) known)
