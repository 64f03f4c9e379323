-- Cuts that are put behind others, and the place of a number among cuts.
use Rattle.std.proofs.Common.{◌≡◌, ℕ, zero, suc, ◌+◌, ◌≤◌, ◌<◌, ◌%◌, List, [], ◌∷◌, ◌++◌, length, take, get_or, refl, ap, arith, sym, ◌∙◌, append_assoc}
use Rattle.std.specs.Prelude.{ℤ, pos, ◌+ℤ◌, ◌≤ℤ◌, Bool, true, false, ◌==◌, int_le, int_lt, if◌then◌else◌, cond}
use Rattle.std.specs.List.{AllByRecursion, filter, count_by}
use Rattle.std.specs.List.Sorted.{IsPartitionedBy, IsPartitionPoint}
use Rattle.std.specs.declared.cmp.Ordering.{Ordering}
use Rattle.std.specs.declared.cmp.Ordering.TheVariants.{Less}
use Rattle.std.proofs.lemmas.Int.{ints}
use Rattle.std.proofs.lemmas.List.Sums.{sum_by-cons, length-filter}
use Rattle.element_core.specs.Numbering.{Numbering, IsNumbering}
use Rattle.ordered_lists.specs.Lists.{set}
use Rattle.ordered_lists.proofs.CutLemmas.{cut_front}
use Rattle.range_map.specs.Sweep.{numbers_of}
use Rattle.cut_points.specs.Cuts.{IsAscending, cuts, parity}
use Rattle.cut_points.proofs.CutLemmas.{cmp_less}

-- ---- one cut more

-- an item that is above all others takes the last place
set_last : {T : Type 0} (cmp : T → T → Ordering) (xs : List T) (x : T) → AllByRecursion (λ y. cmp y x ≡ Less) xs → set cmp xs x ≡ xs ++ x ∷ []
set_last cmp [] x h = refl
set_last cmp (y ∷ ys) x h = rw h.0 (ap (λ l. y ∷ l) (set_last cmp ys x h.1))

above_lowest : (lo hi : ℤ) (xs : List ℤ) (x : ℤ) (rest : List ℤ) → IsAscending lo hi (xs ++ x ∷ rest) → lo ≤ℤ x
above_lowest lo hi [] x rest a = a.0
above_lowest lo hi (y ∷ ys) x rest a = let on : (y +ℤ pos 1) ≤ℤ x = above_lowest (y +ℤ pos 1) hi ys x rest a.2 in let low : lo ≤ℤ y = a.0 in omega (arith, ints)

pub ascending_front : (lo hi : ℤ) (xs ys : List ℤ) → IsAscending lo hi (xs ++ ys) → IsAscending lo hi xs
ascending_front lo hi [] ys a = tt
ascending_front lo hi (x ∷ xs) ys a = (a.0, a.1, ascending_front (x +ℤ pos 1) hi xs ys a.2)

module _ {T : Type 0} (cmp : T → T → Ordering) (n : Numbering T) (law : IsNumbering cmp n) where
  below_last : (lo hi : ℤ) (xs : List T) (x : T) → AllByRecursion n.IsValue xs → n.IsValue x → IsAscending lo hi (numbers_of n xs ++ n.number x ∷ [])
      → AllByRecursion (λ y. cmp y x ≡ Less) xs
  below_last lo hi [] x v w a = tt
  below_last lo hi (y ∷ ys) x v w a =
      let on : (n.number y +ℤ pos 1) ≤ℤ n.number x = above_lowest (n.number y +ℤ pos 1) hi (numbers_of n ys) (n.number x) [] a.2 in
      (law.order y x v.0 w ∙ cmp_less (n.number y) (n.number x) (omega (arith, ints)), below_last (n.number y +ℤ pos 1) hi ys x v.1 w a.2)

  all_push : (xs : List T) (x : T) → AllByRecursion n.IsValue xs → n.IsValue x → AllByRecursion n.IsValue (xs ++ x ∷ [])
  all_push [] x v w = (w, tt)
  all_push (y ∷ ys) x v w = (v.0, all_push ys x v.1 w)

  numbers_push : (xs : List T) (x : T) → numbers_of n (xs ++ x ∷ []) ≡ numbers_of n xs ++ n.number x ∷ []
  numbers_push [] x = refl
  numbers_push (y ∷ ys) x = ap (λ l. n.number y ∷ l) (numbers_push ys x)

  -- a cut above all others, placed
  pub placed_last : (old new : List T) (x : T) → AllByRecursion n.IsValue old → n.IsValue x
      → IsAscending n.least n.greatest (numbers_of n old ++ n.number x ∷ []) → new ≡ set cmp old x
      → AllByRecursion n.IsValue new × (numbers_of n new ≡ numbers_of n old ++ n.number x ∷ [])
  placed_last old new x v w a e =
      let is : new ≡ old ++ x ∷ [] = e ∙ set_last cmp old x (below_last n.least n.greatest old x v w a) in
      (rw is (all_push old x v w), rw is (numbers_push old x))

-- ---- the cuts of one range more

pub cuts_cons : (hi : ℤ) (r : ℤ × ℤ) (rest : List (ℤ × ℤ)) → cuts hi (r ∷ []) ++ cuts hi rest ≡ cuts hi (r ∷ rest)
cuts_cons hi r rest = at (int_lt r.1 hi)
  where
    at : (b : Bool) → (if b then r.0 ∷ (r.1 +ℤ pos 1) ∷ [] else r.0 ∷ []) ++ cuts hi rest ≡ (if b then r.0 ∷ (r.1 +ℤ pos 1) ∷ cuts hi rest else r.0 ∷ cuts hi rest)
    at true = refl
    at false = refl

-- the first of them alone
pub first_ascends : (lo hi : ℤ) (done : List ℤ) (r : ℤ × ℤ) → IsAscending lo hi (done ++ cuts hi (r ∷ [])) → IsAscending lo hi (done ++ r.0 ∷ [])
first_ascends lo hi done r = at (int_lt r.1 hi)
  where
    at : (b : Bool) → IsAscending lo hi (done ++ (if b then r.0 ∷ (r.1 +ℤ pos 1) ∷ [] else r.0 ∷ [])) → IsAscending lo hi (done ++ r.0 ∷ [])
    at true a = ascending_front lo hi (done ++ r.0 ∷ []) ((r.1 +ℤ pos 1) ∷ []) (rw (append_assoc done (r.0 ∷ []) ((r.1 +ℤ pos 1) ∷ [])) a)
    at false a = a

-- the cuts so far, those of the next range, and those of the ranges behind it
module _ (hi : ℤ) (done : List ℤ) (r : ℤ × ℤ) (rest set : List (ℤ × ℤ)) (same : done ++ cuts hi (r ∷ rest) ≡ cuts hi set) where
  pub next_same : (done ++ cuts hi (r ∷ [])) ++ cuts hi rest ≡ cuts hi set
  next_same = append_assoc done (cuts hi (r ∷ [])) (cuts hi rest) ∙ (ap (λ l. done ++ l) (cuts_cons hi r rest) ∙ same)

  pub next_ascends : (lo : ℤ) → IsAscending lo hi (cuts hi set) → IsAscending lo hi (done ++ cuts hi (r ∷ []))
  next_ascends lo a = ascending_front lo hi (done ++ cuts hi (r ∷ [])) (cuts hi rest) (rw next_same a)

-- ---- the place of a number among cuts

module _ {T : Type 0} (n : Numbering T) where
  at_least : (lo hi : ℤ) (xs : List T) → IsAscending lo hi (numbers_of n xs) → (j : ℕ) (d : T) → j < length xs → lo ≤ℤ n.number (get_or xs j d)
  at_least lo hi [] a j d lt = absurd (omega arith)
  at_least lo hi (x ∷ xs) a zero d lt = a.0
  at_least lo hi (x ∷ xs) a (suc j) d lt =
      let on : (n.number x +ℤ pos 1) ≤ℤ n.number (get_or xs j d) = at_least (n.number x +ℤ pos 1) hi xs a.2 j d (omega arith) in
      let low : lo ≤ℤ n.number x = a.0 in omega (arith, ints)

  rises : (lo hi : ℤ) (xs : List T) → IsAscending lo hi (numbers_of n xs) → (i j : ℕ) (d : T) → i ≤ j → j < length xs
      → n.number (get_or xs i d) ≤ℤ n.number (get_or xs j d)
  rises lo hi [] a i j d le lt = absurd (omega arith)
  rises lo hi (x ∷ xs) a zero zero d le lt = omega (arith, ints)
  rises lo hi (x ∷ xs) a zero (suc j) d le lt =
      let on : (n.number x +ℤ pos 1) ≤ℤ n.number (get_or xs j d) = at_least (n.number x +ℤ pos 1) hi xs a.2 j d (omega arith) in omega (arith, ints)
  rises lo hi (x ∷ xs) a (suc i) zero d le lt = absurd (omega arith)
  rises lo hi (x ∷ xs) a (suc i) (suc j) d le lt = rises (n.number x +ℤ pos 1) hi xs a.2 i j d (omega arith) (omega arith)

  still_at_most : (a b k : ℤ) → a ≤ℤ b → int_le b k ≡ true → int_le a k ≡ true
  still_at_most a b k h e = grind (arith, ints)

  -- the cuts at most k come first
  pub parted : (lo hi k : ℤ) (xs : List T) → IsAscending lo hi (numbers_of n xs) → IsPartitionedBy (λ x. int_le (n.number x) k) xs
  parted lo hi k xs a i j d le lt e = still_at_most (n.number (get_or xs i d)) (n.number (get_or xs j d)) k (rises lo hi xs a i j d le lt) e

  count_numbers : (k : ℤ) (xs : List T) → count_by (λ c. int_le c k) (numbers_of n xs) ≡ count_by (λ x. int_le (n.number x) k) xs
  count_numbers k [] = refl
  count_numbers k (x ∷ xs) =
      sum_by-cons (λ c. cond (int_le c k) 1 0) (n.number x) (numbers_of n xs)
      ∙ (ap (λ m. cond (int_le (n.number x) k) 1 0 + m) (count_numbers k xs) ∙ sym (sum_by-cons (λ y. cond (int_le (n.number y) k) 1 0) x xs))

  length_take : {A : Type 0} (i : ℕ) (xs : List A) → i ≤ length xs → length (take i xs) ≡ i
  length_take zero xs h = refl
  length_take (suc i) [] h = absurd (omega arith)
  length_take (suc i) (x ∷ xs) h = ap suc (length_take i xs (omega arith))

  -- and their number is the place where the others begin
  pub counted : (k : ℤ) (xs : List T) (i : ℕ) → i ≤ length xs
      → IsPartitionPoint (λ x. int_le (n.number x) k ≡ true) (λ x. int_le (n.number x) k ≡ false) xs i
      → (i % 2 == 1) ≡ parity (numbers_of n xs) k
  counted k xs i h p =
      let front : take i xs ≡ filter (λ x. int_le (n.number x) k) xs = cut_front (λ x. int_le (n.number x) k) xs i (record { in_range = h; front = p.0; back = p.1 }) in
      let count : i ≡ count_by (λ c. int_le c k) (numbers_of n xs) =
      sym (length_take i xs h) ∙ (ap length front ∙ (length-filter (λ x. int_le (n.number x) k) xs ∙ sym (count_numbers k xs))) in
      ap (λ m. m % 2 == 1) count
