-- A walk by blocks is a walk number by number.
use Rattle.std.proofs.Common.{◌≡◌, ℕ, suc, ◌+◌, ◌<◌, ◌≤◌, List, [], ◌∷◌, ◌++◌, length, refl, sym, ap, ◌∙◌, arith, length-append, ◌-◌, take, drop}
use Rattle.std.proofs.lemmas.List.{length-map, drop-drop, take-append-drop}
use Rattle.std.specs.Prelude.{ℤ, Bool, map}
use Rattle.std.proofs.lemmas.Grind.{common_steps}
use Rattle.truth_blocks.specs.Blocks.{is_one, bits, line_value, line_values, steps_of, values_of}
use Rattle.truth_blocks.specs.Notes.{note, note_from, note_words, note_all, walk_places, states}
use Rattle.truth_blocks.proofs.NoteLemmas.{value_is_last}
use Rattle.truth_blocks.specs.declared.note.Noted.{Noted}
use Rattle.truth_blocks.specs.declared.block.LineSteps.{LineSteps}
use Rattle.truth_blocks.specs.declared.step.Step.{Step}

walk_none : (p : ℕ) (block : List ℤ) → walk_places (λ i. bits i []) p [] block ≡ []
walk_none p [] = refl
walk_none p (x ∷ xs) = walk_none (p + 1) xs

walk_cons : (w : ℕ) (ws : List ℕ) (p : ℕ) (s : Bool × List ℤ) (ss : List (Bool × List ℤ)) (block : List ℤ)
    → walk_places (λ i. bits i (w ∷ ws)) p (s ∷ ss) block ≡ note_from (is_one w) p s block ∷ walk_places (λ i. bits i ws) p ss block
walk_cons w ws p s ss [] = refl
walk_cons w ws p s ss (x ∷ xs) = walk_cons w ws (p + 1) (note s (is_one w p) x) (note_all ss (bits p ws) x) xs

-- line by line, or number by number
pub words_walk : (ws : List ℕ) (ss : List (Bool × List ℤ)) (block : List ℤ) → length ss ≡ length ws → note_words ws ss block ≡ walk_places (λ i. bits i ws) 0 ss block
words_walk [] [] block e = sym (walk_none 0 block)
words_walk [] (s ∷ ss) block e = absurd (omega arith)
words_walk (w ∷ ws) [] block e = absurd (omega arith)
words_walk (w ∷ ws) (s ∷ ss) block e = ap (λ l. note_from (is_one w) 0 s block ∷ l) (words_walk ws ss block (omega arith)) ∙ sym (walk_cons w ws 0 s ss block)

-- the walk reads no more than the values at the places of the block
pub walk_alike : (u v : ℕ → List Bool) (p q : ℕ) (ss : List (Bool × List ℤ)) (block : List ℤ) → ((i : ℕ) → i < length block → u (p + i) ≡ v (q + i))
    → walk_places u p ss block ≡ walk_places v q ss block
walk_alike u v p q ss [] h = refl
walk_alike u v p q ss (x ∷ xs) h =
    let a : p + 0 ≡ p = omega arith in
    let b : q + 0 ≡ q = omega arith in
    let here = rw (a, b) at (h 0 (omega arith)) in
    rw here (walk_alike u v (p + 1) (q + 1) (note_all ss (v q) x) xs (λ i k. later i k))
  where
    later : (i : ℕ) → i < length xs → u ((p + 1) + i) ≡ v ((q + 1) + i)
    later i k =
        let a : p + suc i ≡ (p + 1) + i = omega arith in
        let b : q + suc i ≡ (q + 1) + i = omega arith in
        rw (a, b) at (h (suc i) (omega arith))

pub walk_append : (v : ℕ → List Bool) (p : ℕ) (ss : List (Bool × List ℤ)) (xs ys : List ℤ) → walk_places v p ss (xs ++ ys) ≡ walk_places v (p + length xs) (walk_places v p ss xs) ys
walk_append v p ss [] ys = let a : p + 0 ≡ p = omega arith in rw a refl
walk_append v p ss (x ∷ xs) ys =
    let a : (p + 1) + length xs ≡ p + length (x ∷ xs) = omega arith in
    walk_append v (p + 1) (note_all ss (v p) x) xs ys ∙ ap (λ n. walk_places v n (walk_places v p ss (x ∷ xs)) ys) a

-- ---- how many values there are

pub length_values : (p : ℕ) (earlier : List Bool) (lines : List (List Step)) → length (line_values p earlier lines) ≡ length earlier + length lines
length_values p earlier [] = omega arith
length_values p earlier (l ∷ ls) =
    let v = line_value earlier p l in
    let one = length-append earlier (v ∷ []) in
    let rest = length_values p (earlier ++ v ∷ []) ls in
    omega (arith, one, rest)

-- a word for each line
pub word_each : (base : ℕ) (ws : List ℕ) (lines : List LineSteps) → ((i : ℕ) → i < 64 → bits i ws ≡ line_values (base + i) [] (steps_of lines)) → length ws ≡ length lines
word_each base ws lines h =
    let a = ap length (h 0 (omega arith)) in
    let b = length_values (base + 0) [] (steps_of lines) in
    let d = length-map ws (λ w. is_one w 0) in
    let e = length-map lines (λ l. l.steps.items) in
    omega (arith, a, b, d, e)

-- a block
pub block_walk : (base : ℕ) (ws : List ℕ) (lines : List LineSteps) (ss : List (Bool × List ℤ)) (block : List ℤ) → length ss ≡ length ws → length block ≤ 64
    → ((i : ℕ) → i < 64 → bits i ws ≡ line_values (base + i) [] (steps_of lines))
    → note_words ws ss block ≡ walk_places (values_of (steps_of lines)) base ss block
block_walk base ws lines ss block e k h =
    words_walk ws ss block e ∙ walk_alike (λ i. bits i ws) (values_of (steps_of lines)) 0 base ss block (λ i p. let z : 0 + i ≡ i = omega arith in rw z (h i (omega arith)))

-- one turn of the walk by blocks
pub walk_turn : (v : ℕ → List Bool) (base size : ℕ) (visited : List ℤ) (ss later : List (Bool × List ℤ)) → base + size ≤ length visited
    → later ≡ walk_places v base ss (take ((base + size) - base) (drop base visited))
    → walk_places v (base + size) later (drop (base + size) visited) ≡ walk_places v base ss (drop base visited)
walk_turn v base size visited ss later k e =
    let z : (base + size) - base ≡ size = omega arith in
    let e2 = rw z at e in
    let block = take size (drop base visited) in
    let rest = drop (base + size) visited in
    let whole : block ++ rest ≡ drop base visited = rw (← drop-drop size base visited) (take-append-drop size (drop base visited)) in
    let n : length block ≡ size = grind (arith, common_steps) in
    let m : walk_places v base ss (block ++ rest) ≡ walk_places v (base + length block) (walk_places v base ss block) rest = walk_append v base ss block rest in
    let m2 = rw (n, whole) at m in
    rw e2 (sym m2)

-- the values after a block are those at its last place
pub last_values : (ws : List ℕ) (ss : List (Bool × List ℤ)) (x : ℤ) (xs : List ℤ) → length ss ≡ length ws → map (λ s. s.0) (note_words ws ss (x ∷ xs)) ≡ bits (0 + length xs) ws
last_values [] [] x xs e = refl
last_values [] (s ∷ ss) x xs e = absurd (omega arith)
last_values (w ∷ ws) [] x xs e = absurd (omega arith)
last_values (w ∷ ws) (s ∷ ss) x xs e = cons _ _ _ _ (value_is_last (is_one w) 0 s x xs) (last_values ws ss x xs (omega arith))
  where
    cons : (a b : Bool) (us vs : List Bool) → a ≡ b → us ≡ vs → a ∷ us ≡ b ∷ vs
    cons a b us vs p q = rw (p, q) refl

pub values_of_states : (ns : List Noted) → map (λ n. n.value) ns ≡ map (λ s. s.0) (states ns)
values_of_states [] = refl
values_of_states (n ∷ ns) = ap (λ l. n.value ∷ l) (values_of_states ns)

-- the same of the program's notes
pub block_carries : (base : ℕ) (ws : List ℕ) (ns ns' : List Noted) (values : ℕ → List Bool) (block : List ℤ) → 0 < length block → length block ≤ 64 → length (states ns) ≡ length ws
    → states ns' ≡ note_words ws (states ns) block → ((i : ℕ) → i < 64 → bits i ws ≡ values (base + i)) → map (λ n. n.value) ns' ≡ values ((base + length block) - 1)
block_carries base ws ns ns' values [] a b n e h = absurd (omega arith)
block_carries base ws ns ns' values (x ∷ xs) a b n e h =
    let z : base + (0 + length xs) ≡ (base + length (x ∷ xs)) - 1 = omega arith in
    values_of_states ns' ∙ (ap (map (λ s. s.0)) e ∙ (last_values ws (states ns) x xs n ∙ (h (0 + length xs) (omega arith) ∙ ap values z)))
