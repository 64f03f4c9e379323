-- What the steps of a line mean at one place among the visited numbers, and what a word of 64 truth values says.
use Rattle.std.specs.Prelude.{◌≡◌, ℕ, ◌+◌, ◌<◌, ◌==◌, Bool, true, false, not, ◌&&◌, ◌||◌, nat_le, nat_lt, List, [], ◌∷◌, ◌++◌, map, fold, reverse, get_or}
use Rattle.std.specs.Int.{bit_at}
use Rattle.number_line.specs.Ranges.{xor}
use Rattle.truth_blocks.specs.Stack.{on_one, on_two, last_value}
use Rattle.truth_blocks.specs.declared.step.Step.{Step}
use Rattle.truth_blocks.specs.declared.block.LineSteps.{LineSteps}
use Rattle.truth_blocks.specs.declared.step.Step.TheVariants.{Literal, Empty, Full, Line, Not, Or, And, Minus, Xor}

-- bit i of a word
unfoldable pub is_one : ℕ → ℕ → Bool
is_one word i = bit_at word i == 1

-- bit i of each word
abbrev pub bits : ℕ → List ℕ → List Bool
bits i words = map (λ w. is_one w i) words

-- the truth values at the place p, the last one first, after one more step, where the lines before give `earlier` there
abbrev pub after_step : List Bool → ℕ → List Bool → Step → List Bool
after_step earlier p values (Literal from to) = (nat_le from p && nat_lt p to) ∷ values
after_step earlier p values Empty = false ∷ values
after_step earlier p values Full = true ∷ values
after_step earlier p values (Line place) = get_or earlier place false ∷ values
after_step earlier p values Not = on_one not values
after_step earlier p values Or = on_two (λ a b. a || b) values
after_step earlier p values And = on_two (λ a b. a && b) values
after_step earlier p values Minus = on_two (λ a b. a && not b) values
after_step earlier p values Xor = on_two xor values

-- the stack after a step is, at each of the 64 places from `base` on, what the step makes of it
abbrev pub IsBlockStep : ℕ → List ℕ → Step → List ℕ → List ℕ → Type 0
IsBlockStep base lines step before after = (i : ℕ) → i < 64
    → reverse (bits i after) ≡ after_step (bits i lines) (base + i) (reverse (bits i before)) step

-- the truth values at the place p that steps leave, after those that are there
abbrev pub after_steps : List Bool → ℕ → List Bool → List Step → List Bool
after_steps earlier p values steps = fold (λ vs step. after_step earlier p vs step) values steps

-- what the steps of a line give at the place p, after lines that give `earlier` there
abbrev pub line_value : List Bool → ℕ → List Step → Bool
line_value earlier p steps = last_value (after_steps earlier p [] steps)

-- what all lines give at the place p, each after those before it
abbrev pub line_values : ℕ → List Bool → List (List Step) → List Bool
line_values p earlier lines = fold (λ values steps. values ++ line_value values p steps ∷ []) earlier lines

-- the steps of each line
abbrev pub steps_of : List LineSteps → List (List Step)
steps_of lines = map (λ l. l.steps.items) lines

-- what all lines give, as a function of the place
abbrev pub values_of : List (List Step) → ℕ → List Bool
values_of lines p = line_values p [] lines
