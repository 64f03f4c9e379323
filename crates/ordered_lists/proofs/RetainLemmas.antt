-- What a pass leaves that brings the items to keep forward.
use Rattle.std.proofs.Common.{◌≡◌, ℕ, zero, suc, ◌+◌, ◌<◌, ◌≤◌, Bool, true, false, List, [], ◌∷◌, ◌++◌, length, get_or, set, take, drop, inl, inr, refl, sym, ap, ◌∙◌, subst, arith, drop-cons, get_or-set_same, add-one, append_assoc}
use Rattle.std.proofs.lemmas.Bool.{cases_lt}
use Rattle.std.proofs.lemmas.List.{take-set, take-set-le, take_more_set, drop-set-lt, length-set, take-append-drop, append-nil}
use Rattle.std.proofs.Math.Seq.{take-append_seam}
use Rattle.std.specs.List.{FoldsTo, swap}
use Rattle.std.specs.List.Retain.{RetainsInTurn}

folds_more : {S A : Type 0} (R : S → A → S → Type 0) (s : S) (xs : List A) (t : S) (x : A) (u : S) → FoldsTo R s xs t → R t x u → FoldsTo R s (xs ++ x ∷ []) u
folds_more R s [] t x u run step = (u, subst (λ z. R z x u) (sym run) step, refl)
folds_more R s (y ∷ xs) t x u run step = (run.0, run.1, folds_more R run.0 xs t x u run.2 step)

swap_some : {A : Type 0} (ys : List A) (i j : ℕ) (x : A) → j < length ys → ((d : A) → get_or ys j d ≡ x) → (y : A) × (swap ys i j ≡ set (set ys i x) j y) × (i ≡ j → y ≡ x)
swap_some [] i j x lt is = absurd (omega arith)
swap_some (e ∷ ys) i j x lt is = (get_or (e ∷ ys) i e, ap (λ z. set (set (e ∷ ys) i z) j (get_or (e ∷ ys) i e)) (is e), λ same. ap (λ n. get_or (e ∷ ys) n e) same ∙ is e)

-- the item x is written at place j and changes places with that at place i
pub brought : {A : Type 0} (xs : List A) (i j : ℕ) (x : A) → i ≤ j → j < length xs
    → record { front : take (i + 1) (swap (set xs j x) i j) ≡ take i xs ++ x ∷ []; rest : drop (j + 1) (swap (set xs j x) i j) ≡ drop (j + 1) xs; len : length (swap (set xs j x) i j) ≡ length xs }
brought xs i j x le lt =
    let ys = set xs j x in
    let len : length (set xs j x) ≡ length xs = length-set xs j x in
    let some = swap_some (set xs j x) i j x (omega (arith, len)) (λ d. get_or-set_same xs j x d lt) in
    let y = some.0 in
    record {
      front = ap (take (i + 1)) some.1 ∙ elim (cases_lt i j) as (λ _. take (i + 1) (set (set (set xs j x) i x) j some.0) ≡ take i xs ++ x ∷ []) [
        | inl below ↦ take-set-le (i + 1) (set (set xs j x) i x) j some.0 (omega arith) ∙ take_more_set (set xs j x) i x (omega (arith, len)) ∙ ap (λ t. t ++ x ∷ []) (take-set-le i xs j x le)
        | inr here ↦
            let same : i ≡ j = omega arith in
            let last : some.0 ≡ x = some.2 same in
            (λ k. take (same k + 1) (set (set (set xs j x) (same k) x) j (last k))) ∙ take_more_set (set (set xs j x) j x) j x (omega (arith, length-set (set xs j x) j x, len))
            ∙ ap (λ t. t ++ x ∷ []) (take-set (set xs j x) j x ∙ take-set xs j x) ∙ (λ k. take (sym same k) xs ++ x ∷ [])
      ];
      rest = ap (drop (j + 1)) some.1 ∙ drop-set-lt (j + 1) (set (set xs j x) i x) j some.0 (omega arith) ∙ drop-set-lt (j + 1) (set xs j x) i x (omega arith) ∙ drop-set-lt (j + 1) xs j x (omega arith);
      len = ap length some.1 ∙ length-set (set (set xs j x) i x) j some.0 ∙ length-set (set xs j x) i x ∙ length-set xs j x;
    }

-- writing what is there changes nothing
pub same_set : {A : Type 0} (xs : List A) (i : ℕ) (x : A) → x ≡ get_or xs i x → set xs i x ≡ xs
same_set [] i x is = refl
same_set (y ∷ xs) zero x is = ap (λ z. z ∷ xs) is
same_set (y ∷ xs) (suc i) x is = ap (λ t. y ∷ t) (same_set xs i x is)

-- the item at place i, of two lists that are the same from there on
pub head_is : {A : Type 0} (xs ys : List A) (i : ℕ) (x : A) → i < length xs → length xs ≡ length ys → drop i xs ≡ drop i ys → x ≡ get_or xs i x
    → record { head : drop i ys ≡ x ∷ drop (i + 1) ys; rest : drop (i + 1) xs ≡ drop (i + 1) ys }
head_is xs ys i x lt len same is =
    let left : drop i xs ≡ get_or xs i x ∷ drop (suc i) xs = drop-cons xs i x lt in
    let right : drop i ys ≡ get_or ys i x ∷ drop (suc i) ys = drop-cons ys i x (omega (arith, len)) in
    let both : get_or xs i x ∷ drop (suc i) xs ≡ get_or ys i x ∷ drop (suc i) ys = sym left ∙ same ∙ right in
    let tails : drop (suc i) xs ≡ drop (suc i) ys = cc in
    let first : get_or ys i x ≡ x = cc in
    rw add-one (record { head = right ∙ ap (λ t. t ∷ drop (suc i) ys) first; rest = tails })

pub whole_is : {A : Type 0} (ys : List A) (i : ℕ) (x : A) → drop i ys ≡ x ∷ drop (i + 1) ys → ys ≡ take i ys ++ x ∷ drop (i + 1) ys
whole_is ys i x head = sym (take-append-drop i ys) ∙ ap (λ t. take i ys ++ t) head

take_more : {A : Type 0} (ys : List A) (i : ℕ) (x : A) → i < length ys → drop i ys ≡ x ∷ drop (suc i) ys → take (suc i) ys ≡ take i ys ++ x ∷ []
take_more [] i x lt head = absurd (omega arith)
take_more (y ∷ ys) zero x lt head = let same : y ≡ x = cc in ap (λ z. z ∷ []) same
take_more (y ∷ ys) (suc i) x lt head = ap (λ t. y ∷ t) (take_more ys i x (omega arith) head)

pub take_front : {A : Type 0} (xs ys : List A) (n : ℕ) → length xs ≡ n → take n (xs ++ ys) ≡ xs
take_front xs ys n len = (λ i. take (sym len i) (xs ++ ys)) ∙ take-append_seam xs ys

drop_past : {A : Type 0} (ys : List A) (i : ℕ) → length ys ≤ i → drop i ys ≡ []
drop_past [] zero le = refl
drop_past [] (suc i) le = refl
drop_past (y ∷ ys) zero le = absurd (omega arith)
drop_past (y ∷ ys) (suc i) le = drop_past ys i (omega arith)

-- A test that is called at each item in turn: `R s x b t y` says that it answered b at x, left x as y, and itself as t where it was s.
module _ {S A : Type 0} (R : S → A → Bool → S → A → Type 0) where
  -- a call at x may leave t
  abbrev pub SomeTurn : S → A → S → Type 0
  SomeTurn s x t = (b : Bool) × (y : A) × R s x b t y

  -- a pass over xs has come to place `at`, and brought the first `kept` items forward
  pub record HasComeTo (s : S) (xs : List A) (t : S) (ys : List A) (kept at : ℕ) : Type 0 where
    pub in_range : kept ≤ at
    pub len : length ys ≡ length xs
    pub rest : drop at ys ≡ drop at xs
    pub calls : FoldsTo SomeTurn s (take at xs) t
    pub goes_on : (tail : List A) → RetainsInTurn R t (drop at xs) tail → RetainsInTurn R s xs (take kept ys ++ tail)

  pub begun : (s : S) (xs : List A) → HasComeTo s xs s xs 0 0
  begun s xs = record { in_range = omega arith; len = refl; rest = refl; calls = refl; goes_on = λ tail r. r }

  -- what holds of the item x at place `at` of ys
  pub next_item : (s : S) (xs : List A) (t : S) (ys : List A) (kept at : ℕ) (x : A) → HasComeTo s xs t ys kept at → at < length ys → x ≡ get_or ys at x
      → record { head : drop at xs ≡ x ∷ drop (at + 1) xs; rest : drop (at + 1) ys ≡ drop (at + 1) xs }
  next_item s xs t ys kept at x h lt is = head_is ys xs at x lt h.len h.rest is

  -- what came before x
  pub before_item : (s : S) (xs : List A) (t : S) (ys : List A) (kept at : ℕ) (x : A) → HasComeTo s xs t ys kept at → at < length ys → x ≡ get_or ys at x → xs ≡ take at xs ++ x ∷ drop (at + 1) xs
  before_item s xs t ys kept at x h lt is = whole_is xs at x (next_item s xs t ys kept at x h lt is).head

  after_call : (s : S) (xs : List A) (t : S) (ys : List A) (kept at : ℕ) (x : A) (b : Bool) (u : S) (y : A) → HasComeTo s xs t ys kept at → at < length ys
      → x ≡ get_or ys at x → R t x b u y → FoldsTo SomeTurn s (take (at + 1) xs) u
  after_call s xs t ys kept at x b u y h lt is called =
      let here = next_item s xs t ys kept at x h lt is in
      let more : take (at + 1) xs ≡ take at xs ++ x ∷ [] = rw add-one (take_more xs at x (omega (arith, h.len)) (rw add-one at here.head)) in
      subst (λ l. FoldsTo SomeTurn s l u) (sym more) (folds_more SomeTurn s (take at xs) t x u h.calls (b, y, called))

  pub passes : (s : S) (xs : List A) (t : S) (ys : List A) (kept at : ℕ) (x : A) (u : S) (y : A) → HasComeTo s xs t ys kept at → at < length ys
      → x ≡ get_or ys at x → R t x true u y → HasComeTo s xs u (swap (set ys at y) kept at) (kept + 1) (at + 1)
  passes s xs t ys kept at x u y h lt is called =
      let here = next_item s xs t ys kept at x h lt is in
      let moved = brought ys kept at y h.in_range lt in
      record {
        in_range = omega (arith, h.in_range);
        len = moved.len ∙ h.len;
        rest = moved.rest ∙ here.rest;
        calls = after_call s xs t ys kept at x true u y h lt is called;
        goes_on = λ tail r.
            let whole = h.goes_on (y ∷ tail) (subst (λ l. RetainsInTurn R t l (y ∷ tail)) (sym here.head) (true, u, y, called, tail, r, refl)) in
            let joined : take (kept + 1) (swap (set ys at y) kept at) ++ tail ≡ take kept ys ++ y ∷ tail = ap (λ l. l ++ tail) moved.front ∙ append_assoc (take kept ys) (y ∷ []) tail in
            subst (RetainsInTurn R s xs) (sym joined) whole;
      }

  pub fails : (s : S) (xs : List A) (t : S) (ys : List A) (kept at : ℕ) (x : A) (u : S) (y : A) → HasComeTo s xs t ys kept at → at < length ys
      → x ≡ get_or ys at x → R t x false u y → HasComeTo s xs u (set ys at y) kept (at + 1)
  fails s xs t ys kept at x u y h lt is called =
      let here = next_item s xs t ys kept at x h lt is in
      record {
        in_range = omega (arith, h.in_range);
        len = length-set ys at y ∙ h.len;
        rest = drop-set-lt (at + 1) ys at y (omega arith) ∙ here.rest;
        calls = after_call s xs t ys kept at x false u y h lt is called;
        goes_on = λ tail r.
            let whole = h.goes_on tail (subst (λ l. RetainsInTurn R t l tail) (sym here.head) (false, u, y, called, tail, r, refl)) in
            subst (λ l. RetainsInTurn R s xs (l ++ tail)) (sym (take-set-le kept ys at y h.in_range)) whole;
      }

  pub at_end : (s : S) (xs : List A) (t : S) (ys : List A) (kept at : ℕ) → HasComeTo s xs t ys kept at → length xs ≤ at → RetainsInTurn R s xs (take kept ys)
  at_end s xs t ys kept at h le =
      subst (RetainsInTurn R s xs) (append-nil (take kept ys)) (h.goes_on [] (subst (λ l. RetainsInTurn R t l []) (sym (drop_past xs at le)) refl))
