use Rattle.std.proofs.Common.{rules, Some, ◌≡◌, ◌+◌, ◌-◌, ◌^◌, min, max, [], ◌∷◌, ◌++◌, take, sym, subst, ap, ◌∙◌, arith}
use Rattle.std.proofs.lemmas.Grind.{common_steps}
use Rattle.std.specs.List.{AllZip}
use Rattle.sorted_iter.proofs.MultiwayHintLemmas.{zip-push, greatest_lower-push, fitting-push}
use Rattle.sorted_iter.specs.MultiwayHints.{fitting, IsHint, known_sum}
use Rattle.sorted_iter.proofs.multiway.hint.hint_of.Goals as goal

pub loop-head-preserved : goal.loop-head-preserved
loop-head-preserved g c =
    let i = c.loop-head.invariant in
    let hint = c.size_hint-least.result in
    let heads = c.deref-head-items.result.now in
    let k = c.loop-head.head-index in
    let more : take (k + 1) heads ≡ take k heads ++ c.head-item.result ∷ [] = grind (arith, common_steps) in
    let greatest : c.max-lower.result ≡ max c.loop-head.lower (min (hint.0 + 1) (2 ^ 64 - 1)) = search rules in (
      i.0 ++ hint ∷ [],
      greatest ∙ ap (λ n. max n (min (hint.0 + 1) (2 ^ 64 - 1))) i.1 ∙ sym (greatest_lower-push i.0 hint),
      c.add_upper-upper.ensures ∙ ap (λ s. fitting (known_sum s (known_sum hint.1 (Some 1)))) i.2 ∙ sym (fitting-push i.0 hint),
      subst (λ l. AllZip (λ h input. IsHint (g.I.Iterator.remaining h.rest) input) l (i.0 ++ hint ∷ [])) (sym more)
          (zip-push (λ h input. IsHint (g.I.Iterator.remaining h.rest) input) (take k heads) i.0 c.head-item.result hint i.3 (c.size_hint-least.ensures.lower, c.size_hint-least.ensures.upper)),
    )
