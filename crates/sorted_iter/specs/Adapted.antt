-- What std's adapters do with the items of their source, as their laws are built on it.
use Rattle.std.proofs.Common.{◌≡◌, ◌⊎◌, inl, inr, Bool, true, false, List, [], Option, Some, None, MatchOption, refl, sym, ap, subst, ◌∙◌, true≢false}
use Rattle.std.specs.Prelude.{IsSomeAnd, ⊤}
use Rattle.std.specs.Bool.{MatchBool}
use Rattle.std.specs.Borrow.{Bor}
use Rattle.std.specs.Fn.{Mut, CalledAt}
use Rattle.std.specs.Iterator.{YieldsThen}
use Rattle.std.specs.Iterator.Adapters.{skip_steps, skip_source, filter_steps, filter_source, take_while_steps, take_while_source, take_while_done, take_while_callee, copied_steps, copied_source, cloned_steps, cloned_source, map_steps, map_source, fuse_steps, fuse_source, fuse_done, take_steps, take_source}
use Rattle.std.specs.Option.{option_copied}
use Rattle.std.specs.declared.iter.Skip.{Skip}
use Rattle.std.specs.declared.iter.Filter.{Filter}
use Rattle.std.specs.declared.iter.TakeWhile.{TakeWhile}
use Rattle.std.specs.declared.iter.Copied.{Copied}
use Rattle.std.specs.declared.iter.Cloned.{Cloned}
use Rattle.std.specs.declared.iter.Map.{Map}
use Rattle.std.specs.declared.iter.Fuse.{Fuse}
use Rattle.std.specs.declared.iter.Take.{Take}
use Rattle.std.specs.declared.cmp.Ordering.{Ordering}
use Rattle.sorted_iter.specs.Orders.{InOrder, AtMostOne}
use Rattle.sorted_iter.specs.AdapterLaws.{calls-keep, calls-of_items, adapted-one, adapted-in_order, shut-one, one-in_order}

-- one call of the source
once : {S A : Type 0} (steps : S → Option A → S → Type 0) (s : S) (x : Option A) (t : S) → steps s x t → YieldsThen steps s [] x t
once steps s x t k = (s, refl, k)

same-items : {A : Type 0} (cmp : A → A → Ordering) (x z y w : A) → x ≡ y → z ≡ w → cmp x z ≡ cmp y w
same-items cmp x z y w e f = cc

module _ {S A : Type 0} (steps : S → Option A → S → Type 0) (P : S → Type 0) (keeps : (s t : S) (r : Option A) → P s → steps s r t
    → P t) where
  then-keeps : (xs : List A) (r : Option A) (s t : S) → P s → YieldsThen steps s xs r t → P t
  then-keeps xs r s t h e = let m = calls-of_items steps xs r s t e in calls-keep steps P keeps m.0 s t h m.1

  pub skip-keeps : (s t : Skip S) (r : Option A) → P (skip_source s) → skip_steps steps s r t → P (skip_source t)
  skip-keeps s t r h k = then-keeps k.1.0 r (skip_source s) (skip_source t) h k.1.1

module _ {S A : Type 0} (steps : S → Option A → S → Type 0) (s : Skip S) where
  pub skip-one : AtMostOne steps (skip_source s) → AtMostOne (skip_steps steps) s
  skip-one = adapted-one skip_source (λ _. ⊥) (λ x y. x ≡ y) (skip_steps steps) steps (λ a b y k. (k.1.0, y, k.1.1, refl))
      (λ a b k. inl (k.1.0, k.1.1)) (λ a b h k. absurd h) (λ a b y h k. h) s

  pub skip-in_order : (cmp : A → A → Ordering) → InOrder cmp steps (skip_source s) → InOrder cmp (skip_steps steps) s
  skip-in_order cmp = adapted-in_order skip_source (λ _. ⊥) (λ x y. x ≡ y) (skip_steps steps) steps (λ a b y k. (k.1.0, y, k.1.1, refl))
      (λ a b k. inl (k.1.0, k.1.1)) (λ a b h k. absurd h) (λ a b y h k. h) cmp cmp (same-items cmp) s

module _ {S A F : Type 0} (g : Mut F (Bor A × Unit {0}) Bool) (steps : S → Option A → S → Type 0) where
  pub filter-keeps : (P : S → Type 0) → ((s t : S) (r : Option A) → P s → steps s r t → P t) → (s t : Filter S F) (r : Option A)
      → P (filter_source s) → filter_steps steps g s r t → P (filter_source t)
  filter-keeps P keeps s t r h k = then-keeps steps P keeps k.0 r (filter_source s) (filter_source t) h k.2

  module _ (s : Filter S F) where
    pub filter-one : AtMostOne steps (filter_source s) → AtMostOne (filter_steps steps g) s
    filter-one = adapted-one filter_source (λ _. ⊥) (λ x y. x ≡ y) (filter_steps steps g) steps (λ a b y k. (k.0, y, k.2, refl))
        (λ a b k. inl (k.0, k.2)) (λ a b h k. absurd h) (λ a b y h k. h) s

    pub filter-in_order : (cmp : A → A → Ordering) → InOrder cmp steps (filter_source s) → InOrder cmp (filter_steps steps g) s
    filter-in_order cmp = adapted-in_order filter_source (λ _. ⊥) (λ x y. x ≡ y) (filter_steps steps g) steps
        (λ a b y k. (k.0, y, k.2, refl)) (λ a b k. inl (k.0, k.2)) (λ a b h k. absurd h) (λ a b y h k. h) cmp cmp (same-items cmp) s

-- what a call of `take_while` made of the answer o of its source
module _ {S A F : Type 0} (g : Mut F (Bor A × Unit {0}) Bool) (steps : S → Option A → S → Type 0) where
  abbrev Tested : TakeWhile S F → Option A → TakeWhile S F → A → Bool → Type 0
  Tested s r t x b = MatchBool b ((r ≡ Some x) × (take_while_done t ≡ false)) ((r ≡ None) × (take_while_done t ≡ true))

  abbrev Asked : TakeWhile S F → Option A → TakeWhile S F → Option A → Type 0
  Asked s r t o = MatchOption o ((r ≡ None) × (take_while_done t ≡ false))
      (λ x. (b : Bool) × CalledAt g (take_while_callee s) x b (take_while_callee t) × Tested s r t x b)

  abbrev Went : TakeWhile S F → Option A → TakeWhile S F → Bool → Type 0
  Went s r t d = MatchBool d ((r ≡ None) × (t ≡ s)) ((o : Option A) × steps (take_while_source s) o (take_while_source t) × Asked s r t o)

  tested-gives : (s t : TakeWhile S F) (x y : A) (b : Bool) → Tested s (Some y) t x b → x ≡ y
  tested-gives s t x y true h = let e = h.0 in cc
  tested-gives s t x y false h = let e = h.0 in absurd cc

  tested-ends : (s t : TakeWhile S F) (x : A) (b : Bool) → Tested s None t x b → take_while_done t ≡ true
  tested-ends s t x true h = let e = h.0 in absurd cc
  tested-ends s t x false h = h.1

  asked-gives : (s t : TakeWhile S F) (y : A) (o : Option A) → steps (take_while_source s) o (take_while_source t) → Asked s (Some y) t o
      → (us : List A) × (x : A) × YieldsThen steps (take_while_source s) us (Some x) (take_while_source t) × (x ≡ y)
  asked-gives s t y None k h = let e = h.0 in absurd cc
  asked-gives s t y (Some x) k h = ([], x, once steps (take_while_source s) (Some x) (take_while_source t) k, tested-gives s t x y h.0 h.2)

  asked-ends : (s t : TakeWhile S F) (o : Option A) → steps (take_while_source s) o (take_while_source t) → Asked s None t o
      → ((us : List A) × YieldsThen steps (take_while_source s) us None (take_while_source t)) ⊎ (take_while_done t ≡ true)
  asked-ends s t None k h = inl ([], once steps (take_while_source s) None (take_while_source t) k)
  asked-ends s t (Some x) k h = inr (tested-ends s t x h.0 h.2)

  went-gives : (s t : TakeWhile S F) (y : A) (d : Bool) → Went s (Some y) t d
      → (us : List A) × (x : A) × YieldsThen steps (take_while_source s) us (Some x) (take_while_source t) × (x ≡ y)
  went-gives s t y true h = let e = h.0 in absurd cc
  went-gives s t y false h = asked-gives s t y h.0 h.1 h.2

  went-ends : (s t : TakeWhile S F) (d : Bool) → take_while_done s ≡ d → Went s None t d
      → ((us : List A) × YieldsThen steps (take_while_source s) us None (take_while_source t)) ⊎ (take_while_done t ≡ true)
  went-ends s t true e h = inr (ap take_while_done h.1 ∙ e)
  went-ends s t false e h = asked-ends s t h.0 h.1 h.2

  went-shut : (s t : TakeWhile S F) (r : Option A) (d : Bool) → d ≡ true → Went s r t d → (r ≡ None) × (t ≡ s)
  went-shut s t r true e h = h
  went-shut s t r false e h = absurd (true≢false (sym e))

  went-some : (s t : TakeWhile S F) (y : A) → take_while_done s ≡ true → take_while_steps steps g s (Some y) t → ⊥
  went-some s t y h k = let e = (went-shut s t (Some y) (take_while_done s) h k).0 in cc

  went-none : (s t : TakeWhile S F) → take_while_done s ≡ true → take_while_steps steps g s None t → take_while_done t ≡ true
  went-none s t h k = ap take_while_done (went-shut s t None (take_while_done s) h k).1 ∙ h

  module _ (P : S → Type 0) (keeps : (s t : S) (r : Option A) → P s → steps s r t → P t) where
    went-keeps : (s t : TakeWhile S F) (r : Option A) (d : Bool) → P (take_while_source s) → Went s r t d → P (take_while_source t)
    went-keeps s t r true h k = subst (λ z. P (take_while_source z)) (sym k.1) h
    went-keeps s t r false h k = keeps (take_while_source s) (take_while_source t) k.0 h k.1

    pub take_while-keeps : (s t : TakeWhile S F) (r : Option A) → P (take_while_source s) → take_while_steps steps g s r t
        → P (take_while_source t)
    take_while-keeps s t r h k = went-keeps s t r (take_while_done s) h k

  module _ (s : TakeWhile S F) where
    pub take_while-one : AtMostOne steps (take_while_source s) → AtMostOne (take_while_steps steps g) s
    take_while-one = adapted-one take_while_source (λ z. take_while_done z ≡ true) (λ x y. x ≡ y) (take_while_steps steps g) steps
        (λ a b y k. went-gives a b y (take_while_done a) k) (λ a b k. went-ends a b (take_while_done a) refl k) went-none went-some s

    pub take_while-in_order : (cmp : A → A → Ordering) → InOrder cmp steps (take_while_source s) → InOrder cmp (take_while_steps steps g) s
    take_while-in_order cmp = adapted-in_order take_while_source (λ z. take_while_done z ≡ true) (λ x y. x ≡ y)
        (take_while_steps steps g) steps (λ a b y k. went-gives a b y (take_while_done a) k)
        (λ a b k. went-ends a b (take_while_done a) refl k) went-none went-some cmp cmp (same-items cmp) s

-- the items of the source as they are pointed at, or their clones
module _ {S A : Type 0} (steps : S → Option (Bor A) → S → Type 0) where
  copy-gives : (s t : S) (y : A) (o : Option (Bor A)) → steps s o t → Some y ≡ option_copied o
      → (us : List (Bor A)) × (x : Bor A) × YieldsThen steps s us (Some x) t × (x.now ≡ y)
  copy-gives s t y None k e = absurd cc
  copy-gives s t y (Some x) k e = ([], x, once steps s (Some x) t k, cc)

  copy-ends : (s t : S) (o : Option (Bor A)) → steps s o t → None ≡ option_copied o
      → ((us : List (Bor A)) × YieldsThen steps s us None t) ⊎ ⊥
  copy-ends s t None k e = inl ([], once steps s None t k)
  copy-ends s t (Some x) k e = absurd cc

  same-now : (cmp : A → A → Ordering) (x z : Bor A) (y w : A) → x.now ≡ y → z.now ≡ w → cmp x.now z.now ≡ cmp y w
  same-now cmp x z y w e f = cc

  pub copied-one : (s : Copied S) → AtMostOne steps (copied_source s) → AtMostOne (copied_steps steps) s
  copied-one = adapted-one copied_source (λ _. ⊥) (λ x y. x.now ≡ y) (copied_steps steps) steps
      (λ a b y k. copy-gives (copied_source a) (copied_source b) y k.0 k.1 k.2)
      (λ a b k. copy-ends (copied_source a) (copied_source b) k.0 k.1 k.2) (λ a b h k. absurd h) (λ a b y h k. h)

  pub copied-in_order : (cmp : A → A → Ordering) (s : Copied S) → InOrder (λ x y. cmp x.now y.now) steps (copied_source s)
      → InOrder cmp (copied_steps steps) s
  copied-in_order cmp = adapted-in_order copied_source (λ _. ⊥) (λ x y. x.now ≡ y) (copied_steps steps) steps
      (λ a b y k. copy-gives (copied_source a) (copied_source b) y k.0 k.1 k.2)
      (λ a b k. copy-ends (copied_source a) (copied_source b) k.0 k.1 k.2) (λ a b h k. absurd h) (λ a b y h k. h)
      (λ x y. cmp x.now y.now) cmp (same-now cmp)

  clone-gives : (clones : A → A → Type 0) (s t : S) (y : A) (o : Option (Bor A)) → steps s o t
      → MatchOption o (Some y ≡ None) (λ z. clones z.now y) → (us : List (Bor A)) × (x : Bor A) × YieldsThen steps s us (Some x) t × ⊤
  clone-gives clones s t y None k e = absurd cc
  clone-gives clones s t y (Some x) k e = ([], x, once steps s (Some x) t k, tt)

  clone-ends : (clones : A → A → Type 0) (r : Option A) → r ≡ None → (s t : S) (o : Option (Bor A)) → steps s o t
      → MatchOption o (r ≡ None) (λ z. IsSomeAnd r (clones z.now)) → ((us : List (Bor A)) × YieldsThen steps s us None t) ⊎ ⊥
  clone-ends clones r z s t None k e = inl ([], once steps s None t k)
  clone-ends clones r z s t (Some x) k e = absurd (subst (λ n. IsSomeAnd n (clones x.now)) z e)

  pub cloned-one : (clones : A → A → Type 0) (s : Cloned S) → AtMostOne steps (cloned_source s) → AtMostOne (cloned_steps steps clones) s
  cloned-one clones = adapted-one cloned_source (λ _. ⊥) (λ x y. ⊤) (cloned_steps steps clones) steps
      (λ a b y k. clone-gives clones (cloned_source a) (cloned_source b) y k.0 k.1 k.2)
      (λ a b k. clone-ends clones None refl (cloned_source a) (cloned_source b) k.0 k.1 k.2) (λ a b h k. absurd h) (λ a b y h k. h)

-- what a call answers for each item
module _ {S A B F : Type 0} (g : Mut F (A × Unit {0}) B) (steps : S → Option A → S → Type 0) where
  pub map-keeps : (P : S → Type 0) → ((s t : S) (r : Option A) → P s → steps s r t → P t) → (s t : Map S F) (r : Option B)
      → P (map_source s) → map_steps steps g s r t → P (map_source t)
  map-keeps P keeps s t None h k = keeps (map_source s) (map_source t) None h k.0
  map-keeps P keeps s t (Some y) h k = keeps (map_source s) (map_source t) (Some k.0) h k.1

  pub map-one : (s : Map S F) → AtMostOne steps (map_source s) → AtMostOne (map_steps steps g) s
  map-one = adapted-one map_source (λ _. ⊥) (λ x y. ⊤) (map_steps steps g) steps
      (λ a b y k. ([], k.0, once steps (map_source a) (Some k.0) (map_source b) k.1, tt))
      (λ a b k. inl ([], once steps (map_source a) None (map_source b) k.0)) (λ a b h k. absurd h) (λ a b y h k. h)

  pub map-in_order : (cmp : B → B → Ordering) (s : Map S F) → AtMostOne steps (map_source s) → InOrder cmp (map_steps steps g) s
  map-in_order cmp s h = one-in_order cmp (map_steps steps g) s (map-one s h)

-- `take(n).fuse()`: std's `Take` doesn't say that it stays ended, and `Fuse` does
module _ {S A : Type 0} (steps : S → Option A → S → Type 0) where
  abbrev pub taken_source : Fuse (Take S) → S
  taken_source s = take_source (fuse_source s)

  abbrev pub taken_steps : Fuse (Take S) → Option A → Fuse (Take S) → Type 0
  taken_steps = fuse_steps (take_steps steps)

  fuse-gives : (s t : Fuse (Take S)) (y : A) (d : Bool) → MatchBool d (Some y ≡ None)
      (take_steps steps (fuse_source s) (Some y) (fuse_source t)) → steps (taken_source s) (Some y) (taken_source t)
  fuse-gives s t y true h = absurd cc
  fuse-gives s t y false h = h.0

  fuse-open : (s t : Fuse (Take S)) (y : A) (d : Bool) → d ≡ true
      → MatchBool d (Some y ≡ None) (take_steps steps (fuse_source s) (Some y) (fuse_source t)) → ⊥
  fuse-open s t y true e h = cc
  fuse-open s t y false e h = true≢false (sym e)

  -- while it isn't done P holds of the source
  abbrev pub WhileOpen : (S → Type 0) → Fuse (Take S) → Type 0
  WhileOpen P s = fuse_done s ≡ false → P (taken_source s)

  pub taken-keeps : (P : S → Type 0) → ((s t : S) (r : Option A) → P s → steps s r t → P t) → (s t : Fuse (Take S)) (r : Option A)
      → WhileOpen P s → taken_steps s r t → WhileOpen P t
  taken-keeps P keeps s t None h k = λ e. absurd (true≢false (sym k.1 ∙ e))
  taken-keeps P keeps s t (Some y) h k = λ e. by_done (fuse_done s) refl
    where
      by_done : (d : Bool) → fuse_done s ≡ d → P (taken_source t)
      by_done true z = absurd (fuse-open s t y (fuse_done s) z k.0)
      by_done false z = keeps (taken_source s) (taken_source t) (Some y) (h z) (fuse-gives s t y (fuse_done s) k.0)

  taken-gives : (s t : Fuse (Take S)) (y : A) → taken_steps s (Some y) t
      → (us : List A) × (x : A) × YieldsThen steps (taken_source s) us (Some x) (taken_source t) × (x ≡ y)
  taken-gives s t y k = ([], y, once steps (taken_source s) (Some y) (taken_source t) (fuse-gives s t y (fuse_done s) k.0), refl)

  taken-one-by : (s : Fuse (Take S)) (d : Bool) → fuse_done s ≡ d → WhileOpen (AtMostOne steps) s → AtMostOne taken_steps s
  taken-one-by s true e h = shut-one taken_source (λ z. fuse_done z ≡ true) (λ x y. x ≡ y) taken_steps steps taken-gives (λ a b k. inr k.1)
      (λ a b z k. k.1) (λ a b y z k. fuse-open a b y (fuse_done a) z k.0) s e
  taken-one-by s false e h = adapted-one taken_source (λ z. fuse_done z ≡ true) (λ x y. x ≡ y) taken_steps steps taken-gives
      (λ a b k. inr k.1) (λ a b z k. k.1) (λ a b y z k. fuse-open a b y (fuse_done a) z k.0) s (h e)

  pub taken-one : (s : Fuse (Take S)) → WhileOpen (AtMostOne steps) s → AtMostOne taken_steps s
  taken-one s h = taken-one-by s (fuse_done s) refl h

  taken-in_order-by : (cmp : A → A → Ordering) (s : Fuse (Take S)) (d : Bool) → fuse_done s ≡ d → WhileOpen (InOrder cmp steps) s
      → InOrder cmp taken_steps s
  taken-in_order-by cmp s true e h = one-in_order cmp taken_steps s (taken-one-by s true e (λ z. absurd (true≢false (sym e ∙ z))))
  taken-in_order-by cmp s false e h = adapted-in_order taken_source (λ z. fuse_done z ≡ true) (λ x y. x ≡ y) taken_steps steps taken-gives
      (λ a b k. inr k.1) (λ a b z k. k.1) (λ a b y z k. fuse-open a b y (fuse_done a) z k.0) cmp cmp (same-items cmp) s (h e)

  pub taken-in_order : (cmp : A → A → Ordering) (s : Fuse (Take S)) → WhileOpen (InOrder cmp steps) s → InOrder cmp taken_steps s
  taken-in_order cmp s h = taken-in_order-by cmp s (fuse_done s) refl h
