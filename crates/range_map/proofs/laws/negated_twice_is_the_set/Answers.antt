use Rattle.std.proofs.Common.{◌≡◌, refl, ap, ◌∙◌}
use Rattle.std.specs.Prelude.{Bool, true, false, not}
use Rattle.number_line.proofs.RangeLemmas.{same_list}
use Rattle.range_map.proofs.laws.negated_twice_is_the_set.Goals as goal

twice_not : (b : Bool) → not (not b) ≡ b
twice_not true = refl
twice_not false = refl

pub returns : goal.returns
returns c = λ lo hi list once twice p q first second.
    same_list lo hi twice list q p (λ x low high. second x low high ∙ (ap not (first x low high) ∙ twice_not _))
