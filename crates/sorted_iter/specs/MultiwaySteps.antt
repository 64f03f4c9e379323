-- The union of many streams: a call takes the least item, and then each further head that is equal to it.
use Rattle.std.specs.Prelude.{◌≡◌, ◌⊎◌, Bool, true, false, List, [], ◌∷◌, ◌++◌, Option, MatchOption, All, Any, Contains, flat_map}
use Rattle.std.specs.Iterator.Runs.{Run, EachRunFrom}
use Rattle.std.specs.List.{AllByRecursion, AllZip}
use Rattle.std.specs.List.Sorted.{IsStrictlySortedBy}
use Rattle.std.specs.Ordering.{is_lt}
use Rattle.std.specs.declared.cmp.Ordering.{Ordering}
use Rattle.std.specs.declared.cmp.Ordering.TheVariants.{Less, Equal}
use Rattle.ordered_lists.specs.Lists.{has}
use Rattle.ordered_lists.specs.Multiway.{IsMultiwayUnion}
use Rattle.sorted_iter.specs.Orders.{GivesList}
use Rattle.sorted_iter.specs.declared.multiway.heads.InputHead.{InputHead}
use Rattle.sorted_iter.specs.MultiwayHeads.{Begun, TakesLeast}

module _ {S A : Type 0} (cmp : A → A → Ordering) (steps : S → Option A → S → Type 0) where
  -- the items xs went out, one after the other
  abbrev pub TakesEach : List (InputHead S A) → List A → List (InputHead S A) → Type 0
  TakesEach hs [] ks = hs ≡ ks
  TakesEach hs (x ∷ xs) ks = (js : List (InputHead S A)) × TakesLeast cmp steps hs x js × TakesEach js xs ks

  -- The item x went out, and then the items equal to it, as long as one came first. So where no head that is left is below x, each
  -- is above it.
  abbrev pub TakesEqual : List (InputHead S A) → A → List (InputHead S A) → Type 0
  TakesEqual hs x ks = (xs : List A) × TakesEach hs (x ∷ xs) ks × AllByRecursion (λ y. cmp x y ≡ Equal) xs
      × (All (λ k. is_lt (cmp k.item x) ≡ false) ks → All (λ k. cmp x k.item ≡ Less) ks)

  -- one call of `next`
  abbrev pub multi_steps : List (InputHead S A) → Option A → List (InputHead S A) → Type 0
  multi_steps hs r ks = MatchOption r ((hs ≡ []) × (ks ≡ [])) (λ x. TakesEqual hs x ks)

-- Of the items l that a run of an input gave, each has an equal in m where that run is whole. Else each but the last has one, and the
-- last is above all of m, and then no whole run gave m.
abbrev pub IsPassed : {A : Type 0} → (A → A → Ordering) → List A → Bool → List A → Bool → Type 0
IsPassed {A} cmp m whole l ended = (front : List A) × AllByRecursion (λ x. has cmp m x ≡ true) front
    × (((ended ≡ true) × (l ≡ front)) ⊎ ((whole ≡ false) × (ended ≡ false) × (y : A) × (l ≡ front ++ y ∷ [])
    × AllByRecursion (λ x. cmp x y ≡ Less) m))

-- p is a run of a stream, and behind it stand the runs qs of its inputs: p is the front of their multiway union
pub record IsMultiwayFront {S A T : Type 0} {steps : S → Option A → S → Type 0} {ofs : T → Option A → T → Type 0} (cmp : A → A → Ordering)
    (qs : List (Run steps)) (p : Run ofs) : Type 0 where
  pub ascends : IsStrictlySortedBy cmp p.items
  pub from_inputs : AllByRecursion (λ x. Any (λ q. Contains q.items x) qs) p.items
  pub passed : All (λ q. IsPassed cmp p.items p.whole q.items q.whole) qs

-- behind each run of the stream s stand runs of its inputs
pub record MultiRunsAre {S A T : Type 0} (cmp : A → A → Ordering) (ofs : T → Option A → T → Type 0) (s : T)
    (steps : S → Option A → S → Type 0) (its : List S) : Type 0 where
  pub behind : EachRunFrom ofs s (λ p. (qs : List (Run steps)) × AllZip (λ it q. q.from ≡ it) its qs × IsMultiwayFront cmp qs p)

-- the inputs its were asked for their first items, and hs are the heads of those that gave one
abbrev pub Started : {S A : Type 0} → (S → Option A → S → Type 0) → List S → List (InputHead S A) → Type 0
Started {S} {A} steps its hs = (ones : List (List (InputHead S A))) × AllZip (Begun steps) its ones
    × (flat_map (λ one. one) ones ≡ hs)

-- where the lists that the inputs give are known, each whole run of the stream s gives a multiway union of them
pub record MultiListsAre {S A T : Type 0} (cmp : A → A → Ordering) (ofs : T → Option A → T → Type 0) (s : T)
    (steps : S → Option A → S → Type 0) (its : List S) : Type 0 where
  pub give : (ls : List (List A)) → AllZip (GivesList steps) its ls
      → EachRunFrom ofs s (λ p. p.whole ≡ true → IsMultiwayUnion cmp ls p.items)
