-- The stream of the pairs of an item and `()`.
use Rattle.std.specs.Prelude.{Option}
use Rattle.std.specs.Option.{option_map}
use Rattle.sorted_iter.specs.declared.pairs.Pairs.{Pairs}

-- the item with `()` beside it
abbrev pub paired : {A : Type 0} → A → A × Unit {0}
paired x = (x, tt)

-- the iterator inside
abbrev pub pairs_source : {S : Type 0} → Pairs S → S
pairs_source s = s.source

-- the source gives an item, and the pair of it comes
abbrev pub pairs_steps : {S A : Type 0} → (S → Option A → S → Type 0) → Pairs S → Option (A × Unit {0}) → Pairs S → Type 0
pairs_steps steps s r t = steps (pairs_source s) (option_map (λ p. p.0) r) (pairs_source t)
