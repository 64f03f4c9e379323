-- The numbers that are picked by the ones of a word, and the notes of a line.
use Rattle.std.proofs.Common.{◌≡◌, ℕ, zero, suc, ◌+◌, ◌-◌, ◌*◌, ◌<◌, ◌≤◌, ◌^◌, List, [], ◌∷◌, ◌++◌, length, get_or, refl, sym, ap, ◌∙◌, arith, inl, inr, bit_and, bit_or, w64, append_assoc, append-nil}
use Rattle.std.specs.Prelude.{ℤ, Bool, true, false, not, ◌||◌, ◌==◌, ◌/◌, ◌%◌, ◌≢◌, bit_xor, if◌then◌else◌}
use Rattle.std.specs.Int.{bit_at, bit_not, trailing_zeros}
use Rattle.std.proofs.lemmas.Nat.{and_le_l}
use Rattle.std.proofs.lemmas.Nat.Bits.{bit_at-zero, bit_at-pow_other, bit_at_cat_low, bit_at_cat_high, bit_at_clear_same, bit_at_clear_other, bit_at-trailing_zeros, shr_and_one}
use Rattle.std.proofs.lemmas.Bool.{cases_lt}
use Rattle.std.proofs.lemmas.Bool.Decides.{nat_tests}
use Rattle.number_line.specs.Ranges.{xor}
use Rattle.number_line.specs.Segments.{same_bool}
use Rattle.truth_blocks.specs.Blocks.{is_one}
use Rattle.truth_blocks.specs.Notes.{is_change, items_at_ones, note, note_from}
use Rattle.truth_blocks.proofs.BitLemmas.{one_or, one_xor, one_none}
use mir.Val.{bool_byte}

-- ---- the word of changes

-- a number of 64 bits keeps its low bits
kept : (n i : ℕ) → i < 64 → bit_at (n % 18446744073709551616) i ≡ bit_at n i
kept n i p =
    let q = n / 18446744073709551616 in
    let r = n % 18446744073709551616 in
    let e : q * 2 ^ 64 + r ≡ n = omega arith in
    sym (rw e at (bit_at_cat_low q 64 r i p))

-- a word moved up by one, which leaves nothing at its first bit
one_up_first : (w : ℕ) → is_one (w * 2 % 18446744073709551616) 0 ≡ false
unfolding is_one
one_up_first w =
    let e : w * 2 ^ 1 + 0 ≡ w * 2 = omega arith in
    let low : bit_at (w * 2) 0 ≡ 0 = rw e at (bit_at_cat_low w 1 0 0 (omega arith)) ∙ bit_at-zero 0 in
    rw (kept (w * 2) 0 (omega arith), low) refl

one_up : (w i : ℕ) → suc i < 64 → is_one (w * 2 % 18446744073709551616) (suc i) ≡ is_one w i
unfolding is_one
one_up w i p =
    let e : w * 2 ^ 1 + 0 ≡ w * 2 = omega arith in
    let d : suc i - 1 ≡ i = omega arith in
    let high : bit_at (w * 2) (suc i) ≡ bit_at w i = rw (e, d) at (bit_at_cat_high w 1 0 (suc i) (omega arith) (omega arith)) in
    rw (kept (w * 2) (suc i) p, high) refl

pub one_byte_first : (b : Bool) → is_one (bool_byte b) 0 ≡ b
unfolding is_one
one_byte_first true = refl
one_byte_first false = refl

pub one_byte_above : (b : Bool) (i : ℕ) → is_one (bool_byte b) (suc i) ≡ false
unfolding is_one
one_byte_above true i = let e : bit_at 1 (suc i) ≡ 0 = bit_at-pow_other 0 (suc i) (λ k. absurd (omega arith)) in rw e refl
one_byte_above false i = rw (bit_at-zero (suc i)) refl

pub change_bit : (w : ℕ) (before : Bool) (i : ℕ) → i < 64 → is_one (bit_xor w (bit_or (w * 2 % 18446744073709551616) (bool_byte before))) i ≡ is_change w before i
change_bit w before zero p = rw (one_xor w (bit_or (w * 2 % 18446744073709551616) (bool_byte before)) 0, one_or (w * 2 % 18446744073709551616) (bool_byte before) 0, one_up_first w, one_byte_first before) refl
change_bit w before (suc i) p =
    let d : suc i - 1 ≡ i = omega arith in
    let z : (suc i == 0) ≡ false = grind (arith, nat_tests) in
    rw (z, d, one_xor w (bit_or (w * 2 % 18446744073709551616) (bool_byte before)) (suc i), one_or (w * 2 % 18446744073709551616) (bool_byte before) (suc i), one_up w i p, one_byte_above before i) (by (is_one w (suc i)) (is_one w i))
  where
    by : (a b : Bool) → xor a (b || false) ≡ xor a b
    by a true = refl
    by a false = refl

-- ---- what is picked

pub picked_none : {A : Type 0} (w p : ℕ) (xs : List A) → ((i : ℕ) → p ≤ i → i < p + length xs → is_one w i ≡ false) → items_at_ones w p xs ≡ []
picked_none w p [] h = refl
picked_none w p (x ∷ xs) h = rw (h p (omega arith) (omega arith)) (picked_none w (p + 1) xs (λ i q r. h i (omega arith) (omega arith)))

pub picked_alike : {A : Type 0} (w v p : ℕ) (xs : List A) → ((i : ℕ) → p ≤ i → i < p + length xs → is_one w i ≡ is_one v i) → items_at_ones w p xs ≡ items_at_ones v p xs
picked_alike w v p [] h = refl
picked_alike w v p (x ∷ xs) h = rw (h p (omega arith) (omega arith), picked_alike w v (p + 1) xs (λ i q r. h i (omega arith) (omega arith))) refl

-- the first one is at t, which is j places from p on; v is w without it
pub picked_first : {A : Type 0} (o : A) (w v p j t : ℕ) (xs : List A) → t ≡ p + j → j < length xs → is_one w t ≡ true → ((i : ℕ) → i < t → is_one w i ≡ false)
    → is_one v t ≡ false → ((i : ℕ) → i < p + length xs → i ≢ t → is_one v i ≡ is_one w i) → items_at_ones w p xs ≡ get_or xs j o ∷ items_at_ones v p xs
picked_first o w v p j t [] z k one before none other = absurd (omega arith)
picked_first o w v p zero t (x ∷ xs) z k one before none other =
    let q : t ≡ p = omega arith in
    let here : is_one w p ≡ true = rw q at one in
    let there : is_one v p ≡ false = rw q at none in
    rw (here, there) (ap (λ l. x ∷ l) (picked_alike w v (p + 1) xs (λ i a b. sym (other i (omega arith) (λ e. omega arith)))))
picked_first o w v p (suc j) t (x ∷ xs) z k one before none other =
    let here : is_one w p ≡ false = before p (omega arith) in
    let there : is_one v p ≡ false = other p (omega arith) (λ e. omega arith) ∙ here in
    rw (here, there) (picked_first o w v (p + 1) j t xs (omega arith) (omega arith) one before none (λ i b d. other i (omega arith) d))

-- ---- the notes

differ : (a b : Bool) → xor b a ≡ not (same_bool a b)
differ true true = refl
differ true false = refl
differ false true = refl
differ false false = refl

-- the value before the place p
abbrev pub value_before : ℕ → Bool → ℕ → Bool
value_before w before p = if p == 0 then before else is_one w (p - 1)

noted_turn : (b v : Bool) (ns more : List ℤ) (x : ℤ) → (if same_bool b v then ns else ns ++ x ∷ []) ++ more ≡ ns ++ (if xor v b then x ∷ more else more)
noted_turn true true ns more x = refl
noted_turn true false ns more x = append_assoc ns (x ∷ []) more
noted_turn false true ns more x = append_assoc ns (x ∷ []) more
noted_turn false false ns more x = refl

pub notes_are_picked : (w c p : ℕ) (before b : Bool) (ns xs : List ℤ) → b ≡ value_before w before p → p + length xs ≤ 64 → ((i : ℕ) → i < 64 → is_one c i ≡ is_change w before i)
    → (note_from (is_one w) p (b, ns) xs).1 ≡ ns ++ items_at_ones c p xs
notes_are_picked w c p before b ns [] e k h = sym (append-nil ns)
notes_are_picked w c p before b ns (x ∷ xs) e k h =
    let d : (p + 1) - 1 ≡ p = omega arith in
    let here : is_one c p ≡ xor (is_one w p) b = h p (omega arith) ∙ ap (xor (is_one w p)) (sym e) in
    let next : is_one w p ≡ value_before w before (p + 1) = let z : (p + 1 == 0) ≡ false = grind (arith, nat_tests) in rw (z, d) refl in
    rw here (notes_are_picked w c (p + 1) before (is_one w p) (if same_bool b (is_one w p) then ns else ns ++ x ∷ []) xs next (omega arith) h
    ∙ noted_turn b (is_one w p) ns (items_at_ones c (p + 1) xs) x)

-- the value is that at the last place
pub value_is_last : (f : ℕ → Bool) (p : ℕ) (s : Bool × List ℤ) (x : ℤ) (xs : List ℤ) → (note_from f p s (x ∷ xs)).0 ≡ f (p + length xs)
value_is_last f p s x [] = let z : p + 0 ≡ p = omega arith in rw z refl
value_is_last f p s x (y ∷ ys) =
    let z : (p + 1) + length ys ≡ p + length (y ∷ ys) = omega arith in
    value_is_last f (p + 1) (note s (f p) x) y ys ∙ ap f z

pub bit_test : (w i : ℕ) → is_one w i ≡ (bit_and (w / 2 ^ i) 1 == 1)
unfolding is_one
bit_test w i = rw (shr_and_one w i) refl

-- the notes of a line after a block, as the program makes them
pub notes_of_block : (w c : ℕ) (before : Bool) (ns block : List ℤ) → 0 < length block → length block ≤ 64 → ((i : ℕ) → i < 64 → is_one c i ≡ is_change w before i)
    → note_from (is_one w) 0 (before, ns) block ≡ (bit_and (w / 2 ^ (length block - 1)) 1 == 1, ns ++ items_at_ones c 0 block)
notes_of_block w c before ns [] a b h = absurd (omega arith)
notes_of_block w c before ns (x ∷ xs) a b h =
    pair (note_from (is_one w) 0 (before, ns) (x ∷ xs)) (bit_and (w / 2 ^ (length (x ∷ xs) - 1)) 1 == 1) (ns ++ items_at_ones c 0 (x ∷ xs))
    (value_is_last (is_one w) 0 (before, ns) x xs ∙ (ap (is_one w) d ∙ bit_test w (length (x ∷ xs) - 1)))
    (notes_are_picked w c 0 before before ns (x ∷ xs) refl (omega arith) h)
  where
    d : 0 + length xs ≡ length (x ∷ xs) - 1
    d = omega arith

    pair : (s : Bool × List ℤ) (u : Bool) (v : List ℤ) → s.0 ≡ u → s.1 ≡ v → s ≡ (u, v)
    pair s u v e f = rw (← e, ← f) refl

-- ---- the walk over the ones of a word

pub none_left : {A : Type 0} (block : List A) → items_at_ones 0 0 block ≡ []
none_left block = picked_none 0 0 block (λ i a b. one_none i)

-- a word without its lowest one
abbrev pub without : ℕ → ℕ → ℕ
without w t = bit_and w (bit_not w64 (1 * 2 ^ t % 18446744073709551616))

pub lowest : (w : ℕ) → 0 < w → w < 2 ^ 64 → (is_one w (trailing_zeros w64 w) ≡ true) × ((i : ℕ) → i < trailing_zeros w64 w → is_one w i ≡ false) × (trailing_zeros w64 w < 64)
unfolding is_one
lowest w a b = let z = bit_at-trailing_zeros w64 w a b in (rw z.1 refl, (λ i p. rw (z.2 i p) refl), z.0)

gone : (w t : ℕ) → t < 64 → is_one (without w t) t ≡ false
unfolding is_one
gone w t p = rw (bit_at_clear_same w64 w t p) refl

stays : (w t i : ℕ) → t < 64 → i < 64 → i ≢ t → is_one (without w t) i ≡ is_one w i
unfolding is_one
stays w t i p q d = rw (bit_at_clear_other w64 w t p i q d) refl

pub picked_lowest : {A : Type 0} (o : A) (w : ℕ) (block : List A) → 0 < w → w < 2 ^ 64 → length block ≤ 64 → trailing_zeros w64 w < length block
    → items_at_ones w 0 block ≡ get_or block (trailing_zeros w64 w) o ∷ items_at_ones (without w (trailing_zeros w64 w)) 0 block
picked_lowest o w block a b k less =
    let t = trailing_zeros w64 w in
    let z = lowest w a b in
    picked_first o w (without w t) 0 t t block (omega arith) less z.0 z.1 (gone w t z.2) (λ i p d. stays w t i z.2 (omega arith) d)

-- none is left where the lowest one lies past the block
pub none_within : {A : Type 0} (w : ℕ) (block : List A) → 0 < w → w < 2 ^ 64 → length block ≤ trailing_zeros w64 w → items_at_ones w 0 block ≡ []
none_within w block a b more = picked_none w 0 block (λ i p q. (lowest w a b).1 i (omega arith))

pub fewer : (w : ℕ) → 0 < w → w < 2 ^ 64 → without w (trailing_zeros w64 w) < w
fewer w a b =
    let t = trailing_zeros w64 w in
    let v = without w t in
    let most : v ≤ w = and_le_l w (bit_not w64 (1 * 2 ^ t % 18446744073709551616)) in
    elim (cases_lt v w) [ inl k ↦ k | inr k ↦ let e : v ≡ w = omega arith in absurd (clash (is_one v t) (rw e (lowest w a b).0) (gone w t (lowest w a b).2)) ]
  where
    clash : (c : Bool) → c ≡ true → c ≡ false → ⊥
    clash c e f = cc
