-- What the steps of a line mean, against its words.
use Rattle.std.specs.Prelude.{◌≡◌, ℕ, ◌<◌, ℤ, pos, Bool, List, [], ◌∷◌, map, length, get_or, Option, Some, None}
use Rattle.set_document.specs.Text.{Kind}
use Rattle.set_document.specs.Truth.{after_word, after_words}
use Rattle.truth_blocks.specs.Stack.{last_value}
use Rattle.truth_blocks.specs.Blocks.{after_step, line_value}
use Rattle.truth_blocks.specs.declared.step.Step.{Step}

-- the truth values after a step, where there is one
abbrev pub after_some : List Bool → ℕ → List Bool → Option Step → List Bool
after_some earlier p values None = values
after_some earlier p values (Some step) = after_step earlier p values step

-- after lines of these names the step does, at the place of each visited number, what the word does at the number
abbrev pub IsWordStep : List ℤ → List (List ℕ) → Option Kind → Option Step → Type 0
IsWordStep visited names word step = (earlier : List (List ℕ × Bool)) (p : ℕ) (values : List Bool)
    → map (λ l. l.0) earlier ≡ names → p < length visited
    → after_some (map (λ l. l.1) earlier) p values step ≡ after_word earlier (get_or visited p (pos 0)) values word

-- after lines of these names the steps of a line give, at the place of each visited number, what its words give at the number
abbrev pub AreLineSteps : List ℤ → List (List ℕ) → List (List ℕ) → List Step → Type 0
AreLineSteps visited names pieces steps = (earlier : List (List ℕ × Bool)) (p : ℕ) → map (λ l. l.0) earlier ≡ names → p < length visited
    → line_value (map (λ l. l.1) earlier) p steps ≡ last_value (after_words earlier (get_or visited p (pos 0)) [] pieces)

-- names with values
abbrev pub names_with_values : List (List ℕ) → List Bool → List (List ℕ × Bool)
names_with_values [] values = []
names_with_values (n ∷ ns) [] = []
names_with_values (n ∷ ns) (v ∷ vs) = (n, v) ∷ names_with_values ns vs
