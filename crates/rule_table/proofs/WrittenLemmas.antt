-- Blocks that are written one after the other are the text of the tiling.
use Rattle.std.proofs.Common.{◌≡◌, ℕ, ◌+◌, ◌-◌, ◌*◌, ◌^◌, ◌%◌, ◌≤◌, List, [], ◌∷◌, ◌++◌, refl, arith, sym, ◌∙◌, ap, append_assoc, append-nil}
use Rattle.std.proofs.lemmas.Nat.{one_shl}
use Rattle.rule_table.specs.Blocks.{size, IsLeastLength, IsTiling}
use Rattle.rule_table.specs.Tiling.{tiling}
use Rattle.rule_table.specs.Answer.{block_text, blocks_text}
use Rattle.rule_table.proofs.TilingLemmas.{tiling_is_one}

-- what is written, with the text of whatever tiles the rest, is the whole
abbrev pub IsWrittenTo : ℕ → ℕ → List ℕ → List ℕ → Type 0
IsWrittenTo end at whole out = (rest : List (ℕ × ℕ)) → IsTiling end at rest → out ++ blocks_text rest ≡ whole

pub shifted_size : (n : ℕ) → 1 * 2 ^ (32 - n) % 2 ^ 64 ≡ size n
shifted_size n = one_shl (32 - n) 64 (omega arith)

pub written_start : (first last : ℕ) (out : List ℕ) → first ≤ last
    → IsWrittenTo (last + 1) first (out ++ blocks_text (tiling first last)) out
written_start first last out h rest t = ap (λ list. out ++ blocks_text list) (tiling_is_one first last rest h t)

pub written_step : (end at n : ℕ) (whole out : List ℕ) → IsWrittenTo end at whole out → IsLeastLength end at n
    → IsWrittenTo end (at + size n) whole (out ++ block_text (at, n))
written_step end at n whole out w l rest t =
    append_assoc out (block_text (at, n)) (blocks_text rest) ∙ w ((at, n) ∷ rest) (refl, l, t)

pub written_end : (end at : ℕ) (whole out : List ℕ) → at ≡ end → IsWrittenTo end at whole out → out ≡ whole
written_end end at whole out e w = sym (append-nil out) ∙ w [] e
