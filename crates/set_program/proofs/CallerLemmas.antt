-- What the clauses of a run say of a told text, in the words of its language.
use Rattle.std.specs.Prelude.{Option, None, Some, IfSome}
use Rattle.std.specs.Option.{option_map}

-- what holds of the image of a value holds of the value
pub of_image : {A B : Type 0} (f : A → B) (p : B → Type 0) (o : Option A) → IfSome (option_map f o) p → IfSome o (λ x. p (f x))
of_image f p None h = tt
of_image f p (Some x) h = h
