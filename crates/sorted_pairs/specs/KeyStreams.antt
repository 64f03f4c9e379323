-- The stream of the keys of pairs.
use Rattle.std.specs.Prelude.{Option, Some, None, MatchOption}
use Rattle.sorted_pairs.specs.declared.keys.Keys.{Keys}

-- the iterator inside
abbrev pub keys_source : {S : Type 0} → Keys S → S
keys_source s = s.source

-- the source gives a pair, and its key comes
abbrev pub keys_steps : {S K V : Type 0} → (S → Option (K × V) → S → Type 0) → Keys S → Option K → Keys S → Type 0
keys_steps {V = V} steps s r t = MatchOption r (steps (keys_source s) None (keys_source t))
    (λ k. (v : V) × steps (keys_source s) (Some (k, v)) (keys_source t))
