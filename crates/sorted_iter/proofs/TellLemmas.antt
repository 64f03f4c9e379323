-- What the first answer of a stream tells of its two sources.
use Rattle.std.proofs.Common.{◌≡◌, Bool, true, false, not, cond, ◌&&◌, List, [], ◌∷◌, Option, Some, None, is_some, refl, sym, ap, subst, ◌∙◌, true≢false}
use Rattle.std.specs.Iterator.{AlwaysYields}
use Rattle.std.specs.List.{filter, list_all}
use Rattle.std.specs.declared.cmp.Ordering.{Ordering}
use Rattle.std.proofs.iter.runs.Made.{run, seen}
use Rattle.ordered_lists.specs.Lists.{has, intersection, difference}
use Rattle.sorted_iter.specs.Orders.{RunsAre, ListsAre}
use Rattle.sorted_iter.specs.Subsets.{are_disjoint, is_within, is_around, TellsOfRuns, TellsOfLists}

abbrev pub is_nil : {A : Type 0} → List A → Bool
is_nil [] = true
is_nil (x ∷ xs) = false

module _ {U S T A : Type 0} (cmp : A → A → Ordering) (op : List A → List A → List A) (f : List A → List A → Bool) (same : (xs ys : List A) → f xs ys ≡ is_nil (op xs ys)) (steps : U → Option A → U → Type 0) (s : U) (firsts : S → Option A → S → Type 0) (x : S) (seconds : T → Option A → T → Type 0) (y : T) where
  tells-runs : RunsAre cmp op steps s firsts x seconds y → (r : Option A) (t : U) → steps s r t → TellsOfRuns cmp f (not (is_some r)) firsts x seconds y
  tells-runs runs None t k =
      let g = runs.behind (run steps s [] true (s, refl, λ _. (t, k))) (seen _) refl in
      (g.0, g.1, (g.2.0, g.2.1, record { tells = λ xs ys i j c d. let b = g.2.2.front xs ys i j c d in sym (same _ _ ∙ ap is_nil (b.1 ∙ b.2 refl)) }))
  tells-runs runs (Some z) t k =
      let g = runs.behind (run steps s (z ∷ []) false (t, (t, k, refl), λ e. absurd (true≢false (sym e)))) (seen _) refl in
      (g.0, g.1, (g.2.0, g.2.1, record { tells = λ xs ys i j c d. let b = g.2.2.front xs ys i j c d in sym (same _ _ ∙ ap is_nil b.1) }))

  nil_where : (r : Option A) (t : U) (zs : List A) → steps s r t → AlwaysYields steps (λ z. z) s zs → not (is_some r) ≡ is_nil zs
  nil_where None t [] k h = refl
  nil_where None t (z ∷ zs) k h = absurd (h.0 t k)
  nil_where (Some z) t [] k h = absurd (h z t k)
  nil_where (Some z) t (w ∷ zs) k h = refl

  tells-lists : ListsAre cmp op steps s firsts x seconds y → (r : Option A) (t : U) → steps s r t → TellsOfLists cmp f (not (is_some r)) firsts x seconds y
  tells-lists lists r t k = λ xs ys a b c d. nil_where r t (op xs ys) k (lists xs ys a b c d).runs ∙ sym (same xs ys)

nil-cond : {A : Type 0} (b : Bool) (x : A) (xs ys : List A) (r : Bool) → r ≡ is_nil ys → (not b && r) ≡ is_nil (cond b (x ∷ xs) ys)
nil-cond true x xs ys r h = refl
nil-cond false x xs ys r h = h

pub none-filter : {A : Type 0} (p : A → Bool) (xs : List A) → list_all (λ x. not (p x)) xs ≡ is_nil (filter p xs)
none-filter p [] = refl
none-filter p (x ∷ xs) = nil-cond (p x) x (filter p xs) (filter p xs) (list_all (λ z. not (p z)) xs) (none-filter p xs)

not_nil-cond : {A : Type 0} (b : Bool) (x : A) (xs ys : List A) (r : Bool) → r ≡ is_nil ys → (b && r) ≡ is_nil (cond (not b) (x ∷ xs) ys)
not_nil-cond true x xs ys r h = h
not_nil-cond false x xs ys r h = refl

pub all-filter : {A : Type 0} (p : A → Bool) (xs : List A) → list_all p xs ≡ is_nil (filter (λ x. not (p x)) xs)
all-filter p [] = refl
all-filter p (x ∷ xs) = not_nil-cond (p x) x (filter (λ z. not (p z)) xs) (filter (λ z. not (p z)) xs) (list_all p xs) (all-filter p xs)

flip : (b answer : Bool) → b ≡ not answer → not b ≡ answer
flip b true h = ap not h
flip b false h = ap not h

module _ {U S T A : Type 0} (cmp : A → A → Ordering) (steps : U → Option A → U → Type 0) (s : U) (firsts : S → Option A → S → Type 0) (x : S) (seconds : T → Option A → T → Type 0) (y : T) {r : Option A} {t : U} {answer : Bool} (step : steps s r t) (is : is_some r ≡ not answer) where
  pub disjoint-runs : RunsAre cmp (intersection cmp) steps s firsts x seconds y → TellsOfRuns cmp (are_disjoint cmp) answer firsts x seconds y
  disjoint-runs h = subst (λ b. TellsOfRuns cmp (are_disjoint cmp) b firsts x seconds y) (flip (is_some r) answer is) (tells-runs cmp (intersection cmp) (are_disjoint cmp) (λ xs ys. none-filter (has cmp ys) xs) steps s firsts x seconds y h r t step)

  pub disjoint-lists : ListsAre cmp (intersection cmp) steps s firsts x seconds y → TellsOfLists cmp (are_disjoint cmp) answer firsts x seconds y
  disjoint-lists h = subst (λ b. TellsOfLists cmp (are_disjoint cmp) b firsts x seconds y) (flip (is_some r) answer is) (tells-lists cmp (intersection cmp) (are_disjoint cmp) (λ xs ys. none-filter (has cmp ys) xs) steps s firsts x seconds y h r t step)

  pub within-runs : RunsAre cmp (difference cmp) steps s firsts x seconds y → TellsOfRuns cmp (is_within cmp) answer firsts x seconds y
  within-runs h = subst (λ b. TellsOfRuns cmp (is_within cmp) b firsts x seconds y) (flip (is_some r) answer is) (tells-runs cmp (difference cmp) (is_within cmp) (λ xs ys. all-filter (has cmp ys) xs) steps s firsts x seconds y h r t step)

  pub within-lists : ListsAre cmp (difference cmp) steps s firsts x seconds y → TellsOfLists cmp (is_within cmp) answer firsts x seconds y
  within-lists h = subst (λ b. TellsOfLists cmp (is_within cmp) b firsts x seconds y) (flip (is_some r) answer is) (tells-lists cmp (difference cmp) (is_within cmp) (λ xs ys. all-filter (has cmp ys) xs) steps s firsts x seconds y h r t step)

-- the two sources change places
module _ {S T A : Type 0} (cmp : A → A → Ordering) {answer : Bool} (firsts : S → Option A → S → Type 0) (x : S) (seconds : T → Option A → T → Type 0) (y : T) where
  pub around-runs : TellsOfRuns cmp (is_within cmp) answer seconds y firsts x → TellsOfRuns cmp (is_around cmp) answer firsts x seconds y
  around-runs h = (h.2.0, h.2.1, (h.0, h.1, record { tells = λ xs ys i j c d. h.2.2.tells ys xs j i d c }))

  pub around-lists : TellsOfLists cmp (is_within cmp) answer seconds y firsts x → TellsOfLists cmp (is_around cmp) answer firsts x seconds y
  around-lists h = λ xs ys a b c d. h ys xs b a d c
