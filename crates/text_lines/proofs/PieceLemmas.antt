-- A text that is put together of lines, and a line that is put together of words, come apart again.
use Rattle.std.proofs.Common.{◌≡◌, ℕ, ◌+◌, ◌-◌, ◌≤◌, List, [], ◌∷◌, ◌++◌, length, take, refl, ◌∙◌, arith, append_assoc}
use Rattle.std.specs.Prelude.{Bool, true, false, ◌==◌, nat_le, nat_lt, slice_index, map, flat_map}
use Rattle.std.specs.List.{slice_split, list_all, prefix_len, AllByRecursion}
use Rattle.std.proofs.lemmas.Bool.{and_from, lt-ltb}
use Rattle.std.proofs.lemmas.Bool.Decides.{nat_tests}
use Rattle.std.proofs.lemmas.List.{length_push, get_or_at, take_at}
use Rattle.std.proofs.lemmas.List.Folds.{list_all-append}
use Rattle.text_lines.specs.Lines.{lines, ends_with_feed}

pub all_weaken : (p q : ℕ → Bool) → ((b : ℕ) → p b ≡ true → q b ≡ true) → (bytes : List ℕ) → list_all p bytes ≡ true
    → list_all q bytes ≡ true
all_weaken p q h [] e = refl
all_weaken p q h (b ∷ bytes) e = grind (arith, h, all_weaken p q h bytes)

pub lower : (k m : ℕ) (bytes : List ℕ) → k ≤ m → list_all (nat_le m) bytes ≡ true → list_all (nat_le k) bytes ≡ true
lower k m bytes h e = all_weaken (nat_le m) (nat_le k) (λ b l. grind (arith, nat_tests)) bytes e

pub both_all : (p : ℕ → Bool) (xs ys : List ℕ) → list_all p xs ≡ true → list_all p ys ≡ true
    → list_all p (xs ++ ys) ≡ true
both_all p xs ys e f = list_all-append p xs ys ∙ and_from (list_all p xs) (list_all p ys) e f

-- a line feed behind bytes that are none
pub lines_piece : (body rest : List ℕ) → list_all (nat_le 32) body ≡ true
    → lines (body ++ 10 ∷ rest) ≡ (body ++ 10 ∷ []) ∷ lines rest
lines_piece [] rest h = refl
lines_piece (b ∷ body) rest h = grind (arith, nat_tests, lines_piece body rest)

-- the same of many lines
pub lines_pieces : {X : Type 0} (f body : X → List ℕ) (xs : List X) (rest : List ℕ)
    → ((x : X) → f x ≡ body x ++ 10 ∷ []) → AllByRecursion (λ x. list_all (nat_le 32) (body x) ≡ true) xs
    → lines (flat_map f xs ++ rest) ≡ map f xs ++ lines rest
lines_pieces f body [] rest e h = refl
lines_pieces f body (x ∷ xs) rest e h =
    let one = lines_piece (body x) (flat_map f xs ++ rest) h.0 in
    rw (
      append_assoc (f x) (flat_map f xs) rest,
      e x,
      append_assoc (body x) (10 ∷ [])
          (flat_map f xs ++ rest),
      one,
      lines_pieces f body xs rest e h.1,
    ) refl

-- a space behind a word, and none
pub split_word : (word rest : List ℕ) → list_all (nat_le 33) word ≡ true
    → slice_split (λ b. b == 32) (word ++ 32 ∷ rest) ≡ word ∷ slice_split (λ b. b == 32) rest
split_word [] rest h = refl
split_word (b ∷ word) rest h = grind (arith, nat_tests, split_word word rest)

pub split_last : (word : List ℕ) → list_all (nat_le 33) word ≡ true → slice_split (λ b. b == 32) word ≡ word ∷ []
split_last [] h = refl
split_last (b ∷ word) h = grind (arith, nat_tests, split_last word)

-- the bytes that pass, before one that doesn't
pub prefix_whole : (q : ℕ → Bool) (front : List ℕ) (b : ℕ) (rest : List ℕ) → list_all q front ≡ true → q b ≡ false
    → prefix_len q (front ++ b ∷ rest) ≡ length front
prefix_whole q [] b rest h e = rw e refl
prefix_whole q (c ∷ front) b rest h e = grind (arith, prefix_whole q front b rest)

-- what stands before a line feed
pub feed_ends : (body : List ℕ) → ends_with_feed (body ++ 10 ∷ []) ≡ true
feed_ends body =
    let m : (length body + 1) - 1 ≡ length body = omega arith in
    let l : nat_lt 0 (length body + 1) ≡ true = lt-ltb 0 (length body + 1) (omega arith) in
    let b : slice_index (body ++ 10 ∷ []) (length body) ≡ 10 = get_or_at body 10 [] 0 (length body) refl in
    rw (length_push body 10, m, l, b) refl

pub before_feed : (body : List ℕ) → take (length (body ++ 10 ∷ []) - 1) (body ++ 10 ∷ []) ≡ body
before_feed body =
    let m : (length body + 1) - 1 ≡ length body = omega arith in
    rw (length_push body 10, m) (take_at body (10 ∷ []) (length body) refl)
