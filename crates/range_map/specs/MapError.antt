-- What an answer that is no map carries.
use Rattle.std.specs.Prelude.{⊤, ℤ, List}
use Rattle.range_map.specs.declared.map.error.TryFromIterError.{TryFromIterError}
use Rattle.range_map.specs.declared.map.error.TryFromIterError.TheVariants.{Overlap, NoMemory}

-- P of the map without the discarded pairs and of these, where pairs overlap; memory may always be short
abbrev pub IfOverlap : {T V : Type 0} → (List ((ℤ × ℤ) × V) → List ((T × T) × V) → Type 0) → TryFromIterError T V → Type 0
IfOverlap P (Overlap error) = P error.non_overlapping error.discarded.items
IfOverlap P NoMemory = ⊤
