-- The streams that keep a closure, as their contracts see them.
use Rattle.std.specs.Prelude.{◌≡◌, ◌⊎◌, List, Option, Some, None, MatchOption}
use Rattle.std.specs.Fn.{Mut, Called}
use Rattle.std.specs.Iterator.{Yields, YieldsThen}
use Rattle.std.specs.List.{FoldsTo}
use Rattle.ordered_lists.specs.Joins.{keys}
use Rattle.sorted_pairs.specs.declared.map_values.MapValues.{MapValues}
use Rattle.sorted_pairs.specs.declared.filter_map_values.FilterMapValues.{FilterMapValues}
use Rattle.sorted_pairs.specs.Calls.{CallsAlong, values, revalued, kept, IsSubsequence}

module _ {S F : Type 0} where
  abbrev pub map_values_source : MapValues S F → S
  map_values_source s = s.source

  abbrev pub map_values_closure : MapValues S F → F
  map_values_closure s = s.f

  abbrev pub filter_map_values_source : FilterMapValues S F → S
  filter_map_values_source s = s.source

  abbrev pub filter_map_values_closure : FilterMapValues S F → F
  filter_map_values_closure s = s.f

module _ {S K V W F : Type 0} (steps : S → Option (K × V) → S → Type 0) where
  -- a call takes a pair of the source, calls the closure once on its value, and gives the key with the answer
  abbrev pub map_values_steps : Mut F (V × Unit {0}) W → MapValues S F → Option (K × W) → MapValues S F → Type 0
  map_values_steps g s r t = MatchOption r (steps (map_values_source s) None (map_values_source t)
      × (map_values_closure t ≡ map_values_closure s))
      (λ q. (v : V) × steps (map_values_source s) (Some (q.0, v)) (map_values_source t)
      × Called g (map_values_closure s) (v, tt) q.1 (map_values_closure t))

  -- A call takes the pairs ps, on each of whose values the closure answers `None`, and then the first one on whose value it answers
  -- `Some`, or all that are left.
  abbrev pub filter_map_values_steps : Mut F (V × Unit {0}) (Option W) → FilterMapValues S F → Option (K × W) → FilterMapValues S F → Type 0
  filter_map_values_steps g s r t = (ps : List (K × V)) × (e : F)
      × FoldsTo (λ a p b. Called g a (p.1, tt) None b) (filter_map_values_closure s) ps e
      × MatchOption r (YieldsThen steps (filter_map_values_source s) ps None (filter_map_values_source t)
      × (filter_map_values_closure t ≡ e))
      (λ q. (v : V) × YieldsThen steps (filter_map_values_source s) ps (Some (q.0, v)) (filter_map_values_source t)
      × Called g e (v, tt) (Some q.1) (filter_map_values_closure t))

module _ {K V W F : Type 0} where
  -- Pairs of which `Took` holds were taken. The closure, which was f, was called on their values in that order, once on each, and is h
  -- after these calls; qs are their keys with the answers.
  pub record MapsTaken (g : Mut F (V × Unit {0}) W) (f h : F) (Took : List (K × V) → Type 0) (qs : List (K × W)) : Type 0 where
    pub taken : List (K × V)
    pub took : Took taken
    pub answers : List W
    pub called : CallsAlong g f (values taken) answers h
    pub gave : qs ≡ revalued taken answers
    pub same_keys : keys qs ≡ keys taken

  -- The same where the answers may be `None`: the pairs that were taken include those that were passed over.
  pub record FiltersTaken (g : Mut F (V × Unit {0}) (Option W)) (f h : F) (Took : List (K × V) → Type 0) (qs : List (K × W)) : Type 0 where
    pub taken : List (K × V)
    pub took : Took taken
    pub answers : List (Option W)
    pub called : CallsAlong g f (values taken) answers h
    pub gave : qs ≡ kept taken answers
    pub some_keys : IsSubsequence (keys qs) (keys taken)

module _ {S K V W F : Type 0} (steps : S → Option (K × V) → S → Type 0) where
  -- wherever the stream has come from s, its source took pairs from x on, and its closure, which was f, was called on their values
  pub record CallsInTurn (g : Mut F (V × Unit {0}) W) (s : MapValues S F) (x : S) (f : F) : Type 0 where
    pub after : (qs : List (K × W)) (t : MapValues S F) → Yields (map_values_steps steps g) s qs t
        → MapsTaken g f (map_values_closure t) (λ ps. Yields steps x ps (map_values_source t)) qs
    -- `None` comes where the source answers it, and calls nothing
    pub at_end : (qs : List (K × W)) (t : MapValues S F) → YieldsThen (map_values_steps steps g) s qs None t
        → MapsTaken g f (map_values_closure t) (λ ps. YieldsThen steps x ps None (map_values_source t)) qs

  pub record AsksInTurn (g : Mut F (V × Unit {0}) (Option W)) (s : FilterMapValues S F) (x : S) (f : F) : Type 0 where
    pub after : (qs : List (K × W)) (t : FilterMapValues S F) → Yields (filter_map_values_steps steps g) s qs t
        → FiltersTaken g f (filter_map_values_closure t) (λ ps. Yields steps x ps (filter_map_values_source t)) qs
    -- `None` comes where the source has answered it, and the closure `None` on each pair that was left
    pub at_end : (qs : List (K × W)) (t : FilterMapValues S F) → YieldsThen (filter_map_values_steps steps g) s qs None t
        → FiltersTaken g f (filter_map_values_closure t) (λ ps. YieldsThen steps x ps None (filter_map_values_source t)) qs

-- a call at either end
abbrev pub EitherEnd : {S A : Type 0} → (S → Option A → S → Type 0) → (S → Option A → S → Type 0) → S → Option A → S → Type 0
EitherEnd fronts backs s r t = fronts s r t ⊎ backs s r t

-- where items are taken from either end, the source's pairs are taken from the same ends, and the closure is called in the order in
-- which they are taken
pub record CallsFromEitherEnd {S K V W F : Type 0} (fronts backs : S → Option (K × V) → S → Type 0) (g : Mut F (V × Unit {0}) W)
    (s : MapValues S F) : Type 0 where
  pub after : (qs : List (K × W)) (t : MapValues S F) → Yields (EitherEnd (map_values_steps fronts g) (map_values_steps backs g)) s qs t
      → MapsTaken g (map_values_closure s) (map_values_closure t)
      (λ ps. Yields (EitherEnd fronts backs) (map_values_source s) ps (map_values_source t)) qs
