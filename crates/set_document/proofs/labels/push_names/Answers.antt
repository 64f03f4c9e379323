use Rattle.std.proofs.Common.{◌≡◌, ◌-◌, ◌++◌, arith, drop, get_or, length, take, ◌∙◌, ap, subst}
use Rattle.std.specs.Prelude.{flat_map}
use Rattle.std.proofs.lemmas.Grind.{common_steps}
use Rattle.set_document.specs.Labels.{places_from}
use Rattle.set_document.specs.Answer.{name_text}
use Rattle.set_document.proofs.LabelLemmas.{run_written}
use Rattle.set_document.proofs.labels.push_names.Goals as goal

pub loop-at-preserved : goal.loop-at-preserved
loop-at-preserved c =
    let places = c.args.places.now in
    let at = c.loop-at.at in
    let first : get_or (drop at places) 0 0 ≡ get_or places at 0 = grind (arith, common_steps) in
    let count = c.run_len-count.result in
    let cut : take (length places - at) (drop at places) ≡ drop at places = grind (arith, common_steps) in
    let follow : take count (drop at places) ≡ places_from (get_or (drop at places) 0 0) count =
    subst (λ l. take count l ≡ places_from (get_or l 0 0) count) cut c.run_len-count.ensures.follow in
    let run : take count (drop at places) ≡ places_from (get_or places at 0) count = follow ∙ ap (λ p. places_from p count) first in
    let within = c.run_len-count.ensures.within in (
      grind (arith, common_steps),
      λ names labels. run_written names places at count (get_or places at 0) c.loop-at.out.items c.extend_from_slice.new.self.items (c.args.out.now.items ++ flat_map (name_text names) places)
          (c.in_ok-extend_from_slice.ensures.items ∙ ap (λ l. c.loop-at.out.items ++ l) (c.run.ensures names labels)) run (c.loop-at.invariant.1 names labels),
    )
