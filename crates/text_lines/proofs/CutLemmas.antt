-- A text is cut at its first line feed, and a line at its first space.
use Rattle.std.proofs.Common.{◌≡◌, ℕ, suc, ◌<◌, ◌≤◌, ◌+◌, List, [], ◌∷◌, length, take, drop, refl, arith, cond}
use Rattle.std.specs.Prelude.{Bool, true, false, not, ◌==◌, if◌then◌else◌}
use Rattle.std.specs.List.{slice_split, onto_first, position_or_len}
use Rattle.text_lines.specs.Lines.{lines}

-- a list is cut at the first element that passes
pub split_cut : {X : Type 0} (p : X → Bool) (xs : List X) → position_or_len p xs < length xs
    → slice_split p xs ≡ take (position_or_len p xs) xs ∷ slice_split p (drop (position_or_len p xs + 1) xs)
split_cut p [] h = absurd (omega arith)
split_cut p (x ∷ xs) h = at (p x) refl h (λ k. split_cut p xs k)
  where
    at : (b : Bool) → p x ≡ b → cond (not b) (1 + position_or_len p xs) 0 < suc (length xs)
        → (position_or_len p xs < length xs → slice_split p xs ≡ take (position_or_len p xs) xs ∷ slice_split p (drop (position_or_len p xs + 1) xs))
        → cond b ([] ∷ slice_split p xs) (onto_first x (slice_split p xs))
        ≡ take (cond (not b) (1 + position_or_len p xs) 0) (x ∷ xs) ∷ slice_split p (drop (cond (not b) (1 + position_or_len p xs) 0 + 1) (x ∷ xs))
    at true e k ih = refl
    at false e k ih =
        let one : 1 + position_or_len p xs ≡ suc (position_or_len p xs) = omega arith in
        let two : 1 + position_or_len p xs + 1 ≡ suc (position_or_len p xs + 1) = omega arith in
        rw (two, one, ih (omega arith))

pub split_whole : {X : Type 0} (p : X → Bool) (xs : List X) → length xs ≤ position_or_len p xs → slice_split p xs ≡ xs ∷ []
split_whole p [] h = refl
split_whole p (x ∷ xs) h = at (p x) refl h (λ k. split_whole p xs k)
  where
    at : (b : Bool) → p x ≡ b → suc (length xs) ≤ cond (not b) (1 + position_or_len p xs) 0
        → (length xs ≤ position_or_len p xs → slice_split p xs ≡ xs ∷ [])
        → cond b ([] ∷ slice_split p xs) (onto_first x (slice_split p xs)) ≡ (x ∷ xs) ∷ []
    at true e k ih = absurd (omega arith)
    at false e k ih = rw (ih (omega arith))

pub lines_cut : (text : List ℕ) → position_or_len (λ c. c == 10) text < length text
    → lines text ≡ take (position_or_len (λ c. c == 10) text + 1) text ∷ lines (drop (position_or_len (λ c. c == 10) text + 1) text)
lines_cut [] h = absurd (omega arith)
lines_cut (x ∷ xs) h = at (x == 10) refl h (λ k. lines_cut xs k)
  where
    at : (b : Bool) → (x == 10) ≡ b → cond (not b) (1 + position_or_len (λ c. c == 10) xs) 0 < suc (length xs)
        → (position_or_len (λ c. c == 10) xs < length xs → lines xs ≡ take (position_or_len (λ c. c == 10) xs + 1) xs ∷ lines (drop (position_or_len (λ c. c == 10) xs + 1) xs))
        → (if b then (x ∷ []) ∷ lines xs else onto_first x (lines xs))
        ≡ take (cond (not b) (1 + position_or_len (λ c. c == 10) xs) 0 + 1) (x ∷ xs) ∷ lines (drop (cond (not b) (1 + position_or_len (λ c. c == 10) xs) 0 + 1) (x ∷ xs))
    at true e k ih = refl
    at false e k ih =
        let two : 1 + position_or_len (λ c. c == 10) xs + 1 ≡ suc (position_or_len (λ c. c == 10) xs + 1) = omega arith in
        rw (two, ih (omega arith))

pub lines_whole : (text : List ℕ) → 0 < length text → length text ≤ position_or_len (λ c. c == 10) text → lines text ≡ text ∷ []
lines_whole [] l h = absurd (omega arith)
lines_whole (x ∷ []) l h = at (x == 10) refl h
  where
    at : (b : Bool) → (x == 10) ≡ b → 1 ≤ cond (not b) 1 0 → (if b then (x ∷ []) ∷ [] else (x ∷ []) ∷ []) ≡ (x ∷ []) ∷ []
    at true e k = refl
    at false e k = refl
lines_whole (x ∷ y ∷ ys) l h = at (x == 10) refl h (λ k. lines_whole (y ∷ ys) (omega arith) k)
  where
    at : (b : Bool) → (x == 10) ≡ b → suc (length (y ∷ ys)) ≤ cond (not b) (1 + position_or_len (λ c. c == 10) (y ∷ ys)) 0
        → (length (y ∷ ys) ≤ position_or_len (λ c. c == 10) (y ∷ ys) → lines (y ∷ ys) ≡ (y ∷ ys) ∷ [])
        → (if b then (x ∷ []) ∷ lines (y ∷ ys) else onto_first x (lines (y ∷ ys))) ≡ (x ∷ y ∷ ys) ∷ []
    at true e k ih = absurd (omega arith)
    at false e k ih = rw (ih (omega arith))
