-- The steps of words and lines, and the places of a literal.
use Rattle.std.proofs.Common.{◌≡◌, ℕ, zero, suc, ◌<◌, ◌≤◌, List, [], ◌∷◌, ◌++◌, length, get_or, refl, sym, ap, ◌∙◌, arith, inl, inr}
use Rattle.std.specs.Prelude.{ℤ, pos, ◌+ℤ◌, ◌≤ℤ◌, int_le, int_lt, nat_le, nat_lt, Bool, true, false, if◌then◌else◌, Option, Some, None, fold, map, bytes_eq}
use Rattle.std.specs.List.Sorted.{IsPartitionedBy, IsPartitionPoint}
use Rattle.std.proofs.lemmas.Bool.{cases_lt}
use Rattle.std.proofs.lemmas.Int.{ints}
use Rattle.std.proofs.lemmas.List.{map-append, length-map}
use Rattle.std.proofs.lemmas.List.Sums.{fold-append}
use Rattle.number_line.proofs.OrderLemmas.{nat_le_yes, nat_le_no, nat_lt_yes, nat_lt_no}
use Rattle.cut_points.specs.Cuts.{IsAscending}
use Rattle.set_document.specs.Truth.{latest, after_words}
use Rattle.truth_blocks.specs.Stack.{last_value}
use Rattle.set_document.specs.Names.{last_place}
use Rattle.truth_blocks.specs.Blocks.{line_value, values_of, steps_of}
use Rattle.truth_blocks.proofs.WalkLemmas.{length_values}
use Rattle.set_document.specs.Compile.{AreLineSteps, names_with_values}
use Rattle.set_document.specs.Visits.{values_at}
use Rattle.truth_blocks.specs.declared.block.LineSteps.{LineSteps}
use Rattle.text_lines.specs.Lines.{words, lines}
use Rattle.set_document.specs.Text.{Named, form}
use Rattle.set_document.specs.Truth.{Lines, at, named_lines}
use Rattle.set_document.specs.Words.{letters}
use Rattle.set_document.specs.declared.word.Name.{Name}
use Rattle.set_document.proofs.TruthLemmas.{at_named, lines_at, line_turn}
use Rattle.truth_blocks.specs.declared.step.Step.{Step}

-- ---- names

abbrev value_from : List Bool → Option Bool → Option ℕ → Option Bool
value_from values before (Some i) = Some (get_or values i false)
value_from values before None = before

found_from : (earlier : List (List ℕ × Bool)) (name : List ℕ) (before : Option Bool)
    → fold (λ found l. if bytes_eq l.0 name then Some l.1 else found) before earlier ≡ value_from (map (λ l. l.1) earlier) before (last_place (map (λ l. l.0) earlier) name)
found_from [] name before = refl
found_from (l ∷ ls) name before = found_from ls name _ ∙ go (last_place (map (λ l. l.0) ls) name) (bytes_eq l.0 name)
  where
    go : (r : Option ℕ) (b : Bool) → value_from (map (λ l. l.1) ls) (if b then Some l.1 else before) r
        ≡ value_from (l.1 ∷ map (λ l. l.1) ls) before (elim r [ Some i ↦ Some (suc i) | None ↦ if b then Some 0 else None ])
    go (Some i) b = refl
    go None true = refl
    go None false = refl

-- the latest line of a name is at its last place
pub latest_there : (earlier : List (List ℕ × Bool)) (names : List (List ℕ)) (name : List ℕ) (i : ℕ) → map (λ l. l.0) earlier ≡ names → Some i ≡ last_place names name
    → latest earlier name ≡ Some (get_or (map (λ l. l.1) earlier) i false)
latest_there earlier names name i e f = found_from earlier name None ∙ rw (e, ← f) refl

pub latest_nowhere : (earlier : List (List ℕ × Bool)) (names : List (List ℕ)) (name : List ℕ) → map (λ l. l.0) earlier ≡ names → None ≡ last_place names name
    → latest earlier name ≡ None
latest_nowhere earlier names name e f = found_from earlier name None ∙ rw (e, ← f) refl

-- ---- places

-- a later number is no less
rises : (lo hi : ℤ) (xs : List ℤ) → IsAscending lo hi xs → (i j : ℕ) (d : ℤ) → i ≤ j → j < length xs → get_or xs i d ≤ℤ get_or xs j d
rises lo hi [] a i j d le lt = absurd (omega arith)
rises lo hi (x ∷ xs) a zero zero d le lt = omega (arith, ints)
rises lo hi (x ∷ xs) a zero (suc j) d le lt = let k = above (x +ℤ pos 1) xs a.2 j d (omega arith) in omega (arith, ints)
  where
    above : (low : ℤ) (ys : List ℤ) → IsAscending low hi ys → (j : ℕ) (d : ℤ) → j < length ys → low ≤ℤ get_or ys j d
    above low [] b j d m = absurd (omega arith)
    above low (y ∷ ys) b zero d m = b.0
    above low (y ∷ ys) b (suc j) d m = let k = above (y +ℤ pos 1) ys b.2 j d (omega arith) in let q = b.0 in omega (arith, ints)
rises lo hi (x ∷ xs) a (suc i) zero d le lt = absurd (omega arith)
rises lo hi (x ∷ xs) a (suc i) (suc j) d le lt = rises (x +ℤ pos 1) hi xs a.2 i j d (omega arith) (omega arith)

parted : (test : ℤ → Bool) → ((a b : ℤ) → a ≤ℤ b → test b ≡ true → test a ≡ true) → (lo hi : ℤ) (xs : List ℤ) → IsAscending lo hi xs → IsPartitionedBy test xs
parted test h lo hi xs a i j d le lt e = h (get_or xs i d) (get_or xs j d) (rises lo hi xs a i j d le lt) e

pub parted_below : (lo hi x : ℤ) (xs : List ℤ) → IsAscending lo hi xs → IsPartitionedBy (λ y. int_lt y x) xs
parted_below lo hi x xs a = parted (λ y. int_lt y x) (λ a b k e. grind (arith, ints)) lo hi xs a

pub parted_at_most : (lo hi x : ℤ) (xs : List ℤ) → IsAscending lo hi xs → IsPartitionedBy (λ y. int_le y x) xs
parted_at_most lo hi x xs a = parted (λ y. int_le y x) (λ a b k e. grind (arith, ints)) lo hi xs a

pub tells_from : (x : ℤ) (xs : List ℤ) (r : ℕ) → IsPartitionPoint (λ y. int_lt y x ≡ true) (λ y. int_lt y x ≡ false) xs r
    → (p : ℕ) → p < length xs → nat_le r p ≡ int_le x (get_or xs p (pos 0))
tells_from x xs r point p k = elim (cases_lt p r) [
  | inl m ↦ nat_le_no r p m ∙ sym (not_below (get_or xs p (pos 0)) (point.0 p (pos 0) (omega arith) m))
  | inr m ↦ nat_le_yes r p m ∙ sym (below (get_or xs p (pos 0)) (point.1 p (pos 0) m k))
]
  where
    not_below : (y : ℤ) → int_lt y x ≡ true → int_le x y ≡ false
    not_below y e = grind (arith, ints)

    below : (y : ℤ) → int_lt y x ≡ false → int_le x y ≡ true
    below y e = grind (arith, ints)

pub tells_after : (x : ℤ) (xs : List ℤ) (r : ℕ) → IsPartitionPoint (λ y. int_le y x ≡ true) (λ y. int_le y x ≡ false) xs r
    → (p : ℕ) → p < length xs → nat_lt p r ≡ int_le (get_or xs p (pos 0)) x
tells_after x xs r point p k = elim (cases_lt p r) [
  | inl m ↦ nat_lt_yes p r m ∙ sym (point.0 p (pos 0) (omega arith) m)
  | inr m ↦ nat_lt_no p r m ∙ sym (point.1 p (pos 0) m k)
]

-- ---- one more line

pub firsts : (ns : List (List ℕ)) (vs : List Bool) → length ns ≡ length vs → map (λ l. l.0) (names_with_values ns vs) ≡ ns
firsts [] vs e = refl
firsts (n ∷ ns) [] e = absurd (omega arith)
firsts (n ∷ ns) (v ∷ vs) e = ap (λ l. n ∷ l) (firsts ns vs (omega arith))

pub seconds : (ns : List (List ℕ)) (vs : List Bool) → length ns ≡ length vs → map (λ l. l.1) (names_with_values ns vs) ≡ vs
seconds [] [] e = refl
seconds [] (v ∷ vs) e = absurd (omega arith)
seconds (n ∷ ns) [] e = absurd (omega arith)
seconds (n ∷ ns) (v ∷ vs) e = ap (λ l. v ∷ l) (seconds ns vs (omega arith))

pub paired_behind : (ns : List (List ℕ)) (vs : List Bool) (n : List ℕ) (v : Bool) → length ns ≡ length vs → names_with_values (ns ++ n ∷ []) (vs ++ v ∷ []) ≡ names_with_values ns vs ++ (n, v) ∷ []
paired_behind [] [] n v e = refl
paired_behind [] (w ∷ vs) n v e = absurd (omega arith)
paired_behind (m ∷ ns) [] n v e = absurd (omega arith)
paired_behind (m ∷ ns) (w ∷ vs) n v e = ap (λ l. (m, w) ∷ l) (paired_behind ns vs n v (omega arith))

-- the values of one more line
pub values_behind : (lines : List (List Step)) (steps : List Step) (p : ℕ) → values_of (lines ++ steps ∷ []) p ≡ values_of lines p ++ line_value (values_of lines p) p steps ∷ []
values_behind lines steps p = fold-append (λ (values : List Bool) s. values ++ line_value values p s ∷ []) [] lines (steps ∷ [])

length_of_values : (p : ℕ) (lines : List (List Step)) → length (values_of lines p) ≡ length lines
length_of_values p lines = let a = length_values p [] lines in omega (arith, a)

-- how the pairs grow by a line
pub pairs_grow : (names : List (List ℕ)) (lines : List (List Step)) (name : List ℕ) (steps : List Step) (p : ℕ) → length names ≡ length lines
    → names_with_values (names ++ name ∷ []) (values_of (lines ++ steps ∷ []) p) ≡ names_with_values names (values_of lines p) ++ (name, line_value (values_of lines p) p steps) ∷ []
pairs_grow names lines name steps p e =
    rw (values_behind lines steps p) (paired_behind names (values_of lines p) name (line_value (values_of lines p) p steps) (e ∙ sym (length_of_values p lines)))

-- what the line gives
pub line_gives : (visited : List ℤ) (names : List (List ℕ)) (lines : List (List Step)) (pieces : List (List ℕ)) (steps : List Step) (p : ℕ) → length names ≡ length lines
    → p < length visited → AreLineSteps visited names pieces steps
    → line_value (values_of lines p) p steps ≡ last_value (after_words (names_with_values names (values_of lines p)) (get_or visited p (pos 0)) [] pieces)
line_gives visited names lines pieces steps p e k h =
    let n : length names ≡ length (values_of lines p) = e ∙ sym (length_of_values p lines) in
    rw (seconds names (values_of lines p) n) at (h (names_with_values names (values_of lines p)) p (firsts names (values_of lines p) n) k)

-- nothing compiled yet
pub compile_begin : (text : List ℕ) (x : ℤ) (ns : List (List ℕ)) (done : List LineSteps) (p : ℕ) → ns ≡ []
    → lines_at x (names_with_values ns (values_of (steps_of done) p)) (lines text) ≡ at (named_lines text) x
compile_begin text x ns done p e = rw e (sym (at_named x text))

-- one more line
pub compile_turn : (visited : List ℤ) (ns ns' : List (List ℕ)) (done done' : List LineSteps) (name : Name) (line : LineSteps) (rest : Option (List ℕ)) (piece : List ℕ) (pieces : List (List ℕ)) (p : ℕ)
    → ns' ≡ ns ++ letters name ∷ [] → done' ≡ done ++ line ∷ [] → length ns ≡ length done → p < length visited → Named (letters name) rest ≡ form piece
    → AreLineSteps visited ns (words rest) line.steps.items
    → lines_at (get_or visited p (pos 0)) (names_with_values ns' (values_of (steps_of done') p)) pieces ≡ lines_at (get_or visited p (pos 0)) (names_with_values ns (values_of (steps_of done) p)) (piece ∷ pieces)
compile_turn visited ns ns' done done' name line rest piece pieces p e f n k w h =
    let x = get_or visited p (pos 0) in
    let steps = line.steps.items in
    let many : length ns ≡ length (steps_of done) = n ∙ sym (length-map done (λ l. l.steps.items)) in
    let compiled : steps_of (done ++ line ∷ []) ≡ steps_of done ++ steps ∷ [] = map-append (λ l. l.steps.items) done (line ∷ []) in
    let grown : names_with_values ns' (values_of (steps_of done') p) ≡ names_with_values ns (values_of (steps_of done) p) ++ (letters name, line_value (values_of (steps_of done) p) p steps) ∷ [] =
    rw (e, f, compiled) (pairs_grow ns (steps_of done) (letters name) steps p many) in
    line_turn x (names_with_values ns (values_of (steps_of done) p)) (names_with_values ns' (values_of (steps_of done') p)) piece pieces (letters name) rest
    (line_value (values_of (steps_of done) p) p steps) w (line_gives visited ns (steps_of done) (words rest) steps p many k h) grown

pub second_at : (ls : Lines) (x : ℤ) → map (λ l. l.1) (at ls x) ≡ values_at ls x
unfolding values_at
second_at [] x = refl
second_at (l ∷ ls) x = ap (λ t. l.1 x ∷ t) (second_at ls x)

-- all lines
pub compile_end : (text : List ℕ) (x : ℤ) (ns : List (List ℕ)) (done : List LineSteps) (p : ℕ) → length ns ≡ length done
    → names_with_values ns (values_of (steps_of done) p) ≡ at (named_lines text) x → values_of (steps_of done) p ≡ values_at (named_lines text) x
compile_end text x ns done p n e =
    let many : length ns ≡ length (steps_of done) = n ∙ sym (length-map done (λ l. l.steps.items)) in
    sym (seconds ns (values_of (steps_of done) p) (many ∙ sym (length_of_values p (steps_of done)))) ∙ (ap (map (λ l. l.1)) e ∙ second_at (named_lines text) x)

pub names_at : (ls : Lines) (x : ℤ) → map (λ l. l.0) (at ls x) ≡ map (λ l. l.0) ls
names_at [] x = refl
names_at (l ∷ ls) x = ap (λ t. l.0 ∷ t) (names_at ls x)

pub compile_names : (text : List ℕ) (x : ℤ) (ns : List (List ℕ)) (done : List LineSteps) (p : ℕ) → length ns ≡ length done
    → names_with_values ns (values_of (steps_of done) p) ≡ at (named_lines text) x → ns ≡ map (λ l. l.0) (named_lines text)
compile_names text x ns done p n e =
    let many : length ns ≡ length (steps_of done) = n ∙ sym (length-map done (λ l. l.steps.items)) in
    sym (firsts ns (values_of (steps_of done) p) (many ∙ sym (length_of_values p (steps_of done)))) ∙ (ap (map (λ l. l.0)) e ∙ names_at (named_lines text) x)
