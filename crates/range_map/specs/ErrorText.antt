-- What the answers that are no map write.
use Rattle.std.specs.Prelude.{ℕ, List, codes}
use Rattle.range_map.specs.declared.map.error.TryFromIterError.{TryFromIterError}
use Rattle.range_map.specs.declared.map.error.TryFromIterError.TheVariants.{Overlap, NoMemory}

abbrev pub error_text : {T V : Type 0} → TryFromIterError T V → List ℕ
error_text (Overlap error) = codes "some ranges overlap with different values"
error_text NoMemory = codes "no memory"
