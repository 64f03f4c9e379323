-- What the stack and the words of a block say at each of its places.
use Rattle.std.proofs.Common.{◌≡◌, ℕ, List, [], ◌∷◌, ◌++◌, refl, arith, reverse}
use Rattle.std.proofs.lemmas.List.{map-append}
use Rattle.std.proofs.lemmas.Grind.{common_steps}
use Rattle.truth_blocks.specs.Stack.{last_value}
use Rattle.truth_blocks.specs.Blocks.{is_one, bits, line_value, line_values}
use Rattle.truth_blocks.specs.declared.step.Step.{Step}

pub top_value : (i : ℕ) (words rest : List ℕ) (w : ℕ) → words ≡ rest ++ w ∷ [] → last_value (reverse (bits i words)) ≡ is_one w i
top_value i words rest w e = grind (arith, common_steps)

-- one more line
pub line_turn : (i p : ℕ) (words later : List ℕ) (word : ℕ) (steps : List Step) (lines : List (List Step)) → later ≡ words ++ word ∷ [] → is_one word i ≡ line_value (bits i words) p steps
    → line_values p (bits i later) lines ≡ line_values p (bits i words) (steps ∷ lines)
line_turn i p words later word steps lines e v = rw (e, map-append (λ w. is_one w i) words (word ∷ []), v) refl
