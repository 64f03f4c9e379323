-- Where the names that hold change.
use Rattle.std.proofs.Common.{◌≡◌, ℕ, zero, suc, ◌+◌, ◌-◌, ◌<◌, ◌≤◌, List, [], ◌∷◌, ◌++◌, length, get_or, refl, sym, ap, ◌∙◌, arith, bit_or, take, drop, append_assoc}
use Rattle.std.proofs.lemmas.List.{drop-drop, take-append-drop}
use Rattle.std.proofs.lemmas.Grind.{common_steps}
use Rattle.std.specs.Prelude.{ℤ, pos, Bool, true, false, not, ◌||◌, ◌==◌, nat_eq, if◌then◌else◌}
use Rattle.std.specs.List.{list_any}
use Rattle.std.specs.Cmp.Lexicographic.{pointwise}
use Rattle.std.proofs.lemmas.Bool.Decides.{nat_tests}
use Rattle.number_line.specs.Ranges.{xor}
use Rattle.truth_blocks.specs.Blocks.{is_one, bits}
use Rattle.truth_blocks.specs.Notes.{items_at_ones, is_change}
use Rattle.truth_blocks.proofs.BitLemmas.{one_none, one_or}
use Rattle.truth_blocks.proofs.NoteLemmas.{one_byte_first, one_byte_above}
use Rattle.truth_blocks.specs.Rows.{places_of_true, numbers_with_labels, begins, rows_from, starts}

-- whether one of these lines has different values in the two lists
abbrev pub differ_at : List Bool → List Bool → List ℕ → Bool
differ_at us vs shown = list_any (λ line. xor (get_or vs line false) (get_or us line false)) shown

nat_same : (n : ℕ) → nat_eq n n ≡ true
nat_same n = grind (arith, nat_tests)

-- a list of later places doesn't begin with n
later : (vs : List Bool) (n m : ℕ) (shown : List ℕ) (xs : List ℕ) → n < m → pointwise nat_eq (n ∷ xs) (places_of_true vs m shown) ≡ false
later vs n m [] xs k = refl
later vs n m (line ∷ rest) xs k = at (get_or vs line false) (later vs n (m + 1) rest xs (omega arith))
  where
    no : nat_eq n m ≡ false
    no = grind (arith, nat_tests)

    at : (b : Bool) → pointwise nat_eq (n ∷ xs) (places_of_true vs (m + 1) rest) ≡ false → pointwise nat_eq (n ∷ xs) (if b then m ∷ places_of_true vs (m + 1) rest else places_of_true vs (m + 1) rest) ≡ false
    at true ih = rw no refl
    at false ih = ih

later_back : (vs : List Bool) (n m : ℕ) (shown : List ℕ) (xs : List ℕ) → n < m → pointwise nat_eq (places_of_true vs m shown) (n ∷ xs) ≡ false
later_back vs n m [] xs k = refl
later_back vs n m (line ∷ rest) xs k = at (get_or vs line false) (later_back vs n (m + 1) rest xs (omega arith))
  where
    no : nat_eq m n ≡ false
    no = grind (arith, nat_tests)

    at : (b : Bool) → pointwise nat_eq (places_of_true vs (m + 1) rest) (n ∷ xs) ≡ false → pointwise nat_eq (if b then m ∷ places_of_true vs (m + 1) rest else places_of_true vs (m + 1) rest) (n ∷ xs) ≡ false
    at true ih = rw no refl
    at false ih = ih

-- the names that hold are the same exactly where no line differs
pub same_held : (us vs : List Bool) (n : ℕ) (shown : List ℕ) → not (pointwise nat_eq (places_of_true us n shown) (places_of_true vs n shown)) ≡ differ_at us vs shown
same_held us vs n [] = refl
same_held us vs n (line ∷ rest) = at (get_or us line false) (get_or vs line false) (same_held us vs (n + 1) rest)
  where
    at : (a b : Bool) → not (pointwise nat_eq (places_of_true us (n + 1) rest) (places_of_true vs (n + 1) rest)) ≡ differ_at us vs rest
        → not (pointwise nat_eq (if a then n ∷ places_of_true us (n + 1) rest else places_of_true us (n + 1) rest) (if b then n ∷ places_of_true vs (n + 1) rest else places_of_true vs (n + 1) rest))
        ≡ (xor b a || differ_at us vs rest)
    at true true ih = rw (nat_same n) ih
    at true false ih = rw (later vs n (n + 1) rest (places_of_true us (n + 1) rest) (omega arith)) refl
    at false true ih = rw (later_back us n (n + 1) rest (places_of_true vs (n + 1) rest) (omega arith)) refl
    at false false ih = ih

-- the number at a place with its label
pub labelled_at : (label : ℕ → List ℕ) (p j : ℕ) (xs : List ℤ) → j < length xs → get_or (numbers_with_labels label p xs) j (pos 0, []) ≡ (get_or xs j (pos 0), label (p + j))
labelled_at label p j [] k = absurd (omega arith)
labelled_at label p zero (x ∷ xs) k = let z : p + 0 ≡ p = omega arith in rw z refl
labelled_at label p (suc j) (x ∷ xs) k = let z : (p + 1) + j ≡ p + suc j = omega arith in rw (← z) (labelled_at label (p + 1) j xs (omega arith))

pub length_labelled : (label : ℕ → List ℕ) (p : ℕ) (xs : List ℤ) → length (numbers_with_labels label p xs) ≡ length xs
length_labelled label p [] = refl
length_labelled label p (x ∷ xs) = ap suc (length_labelled label (p + 1) xs)

-- the rows that the program picks in a block are those that begin there
pub picked_rows : (starts : ℕ) (inner label : ℕ → List ℕ) (base i : ℕ) (xs : List ℤ)
    → ((j : ℕ) → i ≤ j → j < i + length xs → (is_one starts j ≡ begins label (base + j)) × (inner j ≡ label (base + j)))
    → items_at_ones starts i (numbers_with_labels inner i xs) ≡ rows_from label (base + i) xs
picked_rows starts inner label base i [] h = refl
picked_rows starts inner label base i (x ∷ xs) h =
    let here = h i (omega arith) (omega arith) in
    let z : base + (i + 1) ≡ (base + i) + 1 = omega arith in
    let rest = rw z at (picked_rows starts inner label base (i + 1) xs (λ j a b. h j (omega arith) (omega arith))) in
    rw (here.0, here.1, rest) refl

-- the bit of a line's word is the line's value
pub bit_of_line : (i : ℕ) (words : List ℕ) (line : ℕ) → get_or (bits i words) line false ≡ is_one (get_or words line 0) i
bit_of_line i [] line = sym (one_none i)
bit_of_line i (w ∷ ws) zero = refl
bit_of_line i (w ∷ ws) (suc line) = bit_of_line i ws line

-- ---- the rows of a block

any_alike : (f g : ℕ → Bool) (xs : List ℕ) → ((x : ℕ) → f x ≡ g x) → list_any f xs ≡ list_any g xs
any_alike f g [] h = refl
any_alike f g (x ∷ xs) h = rw (h x, any_alike f g xs h) refl

pub begins_later : (label : ℕ → List ℕ) (p : ℕ) → begins label (suc p) ≡ not (pointwise nat_eq (label p) (label (suc p)))
begins_later label p =
    let z : (suc p == 0) ≡ false = grind (arith, nat_tests) in
    let d : suc p - 1 ≡ p = omega arith in
    rw (z, d) refl

change_later : (w : ℕ) (b : Bool) (i : ℕ) → is_change w b (suc i) ≡ xor (is_one w (suc i)) (is_one w i)
change_later w b i =
    let z : (suc i == 0) ≡ false = grind (arith, nat_tests) in
    let d : suc i - 1 ≡ i = omega arith in
    rw (z, d) refl

-- the program's starts are the places where a row begins
pub starts_are : (words : List ℕ) (before : List Bool) (shown : List ℕ) (values : ℕ → List Bool) (base i : ℕ) → i < 64
    → ((j : ℕ) → j < 64 → bits j words ≡ values (base + j)) → (0 < base → before ≡ values (base - 1))
    → starts words before shown base i ≡ begins (λ p. places_of_true (values p) 0 shown) (base + i)
starts_are words before shown values zero zero k h c = refl
starts_are words before shown values (suc base) zero k h c =
    let a : suc base + 0 ≡ suc base = omega arith in
    let d : suc base - 1 ≡ base = omega arith in
    let z : (suc base == 0) ≡ false = grind (arith, nat_tests) in
    let now : bits 0 words ≡ values (suc base) = rw a at (h 0 (omega arith)) in
    let was : before ≡ values base = rw d at (c (omega arith)) in
    rw (a, begins_later (λ p. places_of_true (values p) 0 shown) base, z, same_held (values base) (values (suc base)) 0 shown)
    (any_alike (λ line. is_change (get_or words line 0) (get_or before line false) 0) (λ line. xor (get_or (values (suc base)) line false) (get_or (values base) line false)) shown
    (λ line. both (is_one (get_or words line 0) 0) (get_or before line false) _ _ (ap (λ v. get_or v line false) (sym now) ∙ bit_of_line 0 words line) (ap (λ v. get_or v line false) (sym was))))
  where
    both : (a b c d : Bool) → c ≡ a → d ≡ b → xor a b ≡ xor c d
    both a b c d e f = rw (e, f) refl
starts_are words before shown values base (suc i) k h c =
    let a : base + suc i ≡ suc (base + i) = omega arith in
    let z : (suc (base + i) == 0) ≡ false = grind (arith, nat_tests) in
    let now : bits (suc i) words ≡ values (suc (base + i)) = rw a at (h (suc i) k) in
    let was : bits i words ≡ values (base + i) = h i (omega arith) in
    rw (a, begins_later (λ p. places_of_true (values p) 0 shown) (base + i), z, same_held (values (base + i)) (values (suc (base + i))) 0 shown)
    (any_alike (λ line. is_change (get_or words line 0) (get_or before line false) (suc i)) (λ line. xor (get_or (values (suc (base + i))) line false) (get_or (values (base + i)) line false)) shown
    (λ line. change_later (get_or words line 0) (get_or before line false) i ∙ both (is_one (get_or words line 0) (suc i)) (is_one (get_or words line 0) i) _ _
    (ap (λ v. get_or v line false) (sym now) ∙ bit_of_line (suc i) words line) (ap (λ v. get_or v line false) (sym was) ∙ bit_of_line i words line)))
  where
    both : (a b c d : Bool) → c ≡ a → d ≡ b → xor a b ≡ xor c d
    both a b c d e f = rw (e, f) refl

one_one : (i : ℕ) → is_one 1 i ≡ (i == 0)
one_one zero = one_byte_first true
one_one (suc i) = let z : (suc i == 0) ≡ false = grind (arith, nat_tests) in rw z (one_byte_above true i)

or_turned : (a b : Bool) → (a || b) ≡ (b || a)
or_turned true true = refl
or_turned true false = refl
or_turned false true = refl
or_turned false false = refl

-- the first place of all begins a row
pub first_start : (all i base : ℕ) (any : Bool) → base ≡ 0 → is_one all i ≡ any → is_one (bit_or all 1) i ≡ ((base + i == 0) || any)
first_start all i base any e h =
    let z : base + i ≡ i = omega arith in
    rw (z, one_or all 1 i, h, one_one i) (or_turned any (i == 0))

-- the rows of a block
pub block_rows : (s : ℕ) (words : List ℕ) (before : List Bool) (shown : List ℕ) (values : ℕ → List Bool) (base : ℕ) (block : List ℤ) → length block ≤ 64
    → ((j : ℕ) → j < 64 → bits j words ≡ values (base + j)) → (0 < base → before ≡ values (base - 1))
    → ((i : ℕ) → i < 64 → is_one s i ≡ starts words before shown base i)
    → items_at_ones s 0 (numbers_with_labels (λ i. places_of_true (bits i words) 0 shown) 0 block) ≡ rows_from (λ p. places_of_true (values p) 0 shown) base block
block_rows s words before shown values base block k h c e =
    let z : base + 0 ≡ base = omega arith in
    rw z at (picked_rows s (λ i. places_of_true (bits i words) 0 shown) (λ p. places_of_true (values p) 0 shown) base 0 block
    (λ j a b. (e j (omega arith) ∙ starts_are words before shown values base j (omega arith) h c, ap (λ v. places_of_true v 0 shown) (h j (omega arith)))))

pub rows_append : (label : ℕ → List ℕ) (p : ℕ) (xs ys : List ℤ) → rows_from label p (xs ++ ys) ≡ rows_from label p xs ++ rows_from label (p + length xs) ys
rows_append label p [] ys = let z : p + 0 ≡ p = omega arith in rw z refl
rows_append label p (x ∷ xs) ys =
    let z : (p + 1) + length xs ≡ p + length (x ∷ xs) = omega arith in
    let ih = rw z at (rows_append label (p + 1) xs ys) in
    rw ih (at (begins label p))
  where
    at : (b : Bool) → (if b then (x, label p) ∷ (rows_from label (p + 1) xs ++ rows_from label (p + length (x ∷ xs)) ys) else rows_from label (p + 1) xs ++ rows_from label (p + length (x ∷ xs)) ys)
        ≡ (if b then (x, label p) ∷ rows_from label (p + 1) xs else rows_from label (p + 1) xs) ++ rows_from label (p + length (x ∷ xs)) ys
    at true = refl
    at false = refl

-- one turn of the pass by blocks
pub rows_turn : (label : ℕ → List ℕ) (base size : ℕ) (visited : List ℤ) (old new : List (ℤ × List ℕ)) → base + size ≤ length visited
    → new ≡ old ++ rows_from label base (take ((base + size) - base) (drop base visited))
    → new ++ rows_from label (base + size) (drop (base + size) visited) ≡ old ++ rows_from label base (drop base visited)
rows_turn label base size visited old new k e =
    let z : (base + size) - base ≡ size = omega arith in
    let e2 = rw z at e in
    let block = take size (drop base visited) in
    let rest = drop (base + size) visited in
    let whole : block ++ rest ≡ drop base visited = rw (← drop-drop size base visited) (take-append-drop size (drop base visited)) in
    let n : length block ≡ size = grind (arith, common_steps) in
    let m : rows_from label base (block ++ rest) ≡ rows_from label base block ++ rows_from label (base + length block) rest = rows_append label base block rest in
    let m2 = rw (n, whole) at m in
    rw (e2, append_assoc, m2) refl
