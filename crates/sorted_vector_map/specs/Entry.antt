-- What a contract says of an entry: where it stands, what is stored there, and what the map is to become.
pub use Rattle.sorted_vector_map.specs.declared.entry.Entry.TheVariants.{Vacant, Occupied}
use Rattle.std.specs.Prelude.{◌≡◌, ℕ, ◌+◌, ◌≤◌, ◌<◌, Bool, true, false, List, [], length, slice_get, Option, Some, None, Result}
use Rattle.std.specs.List.{insert, remove}
use Rattle.std.specs.Option.{option_map}
use Rattle.std.specs.Result.{IsOk, OnErr}
use Rattle.std.specs.Borrow.{Fml, RattleType, MutBor, RestsIfNone, follows, follows_so, name_if_ok}
use Rattle.std.specs.declared.cmp.Ord as ord
use Rattle.std.specs.declared.cmp.PartialEq as eq
use Rattle.std.specs.declared.cmp.PartialOrd as partial
use Rattle.ordered_lists.specs.Search.{set_value}
use Rattle.ordered_lists.proofs.PairLemmas.{length-set_value}
use Rattle.sorted_vector_map.specs.Content.{Content}
use Rattle.sorted_vector_map.specs.Lent.{OrdMembers, map_row}
use Rattle.sorted_vector_map.specs.contracts.map.SortedVectorMap.{the_row}
use Rattle.sorted_vector_map.specs.declared.entry.Entry.{Entry}
use Rattle.sorted_vector_map.specs.declared.entry.occupied.OccupiedEntry.{OccupiedEntry}
use Rattle.sorted_vector_map.specs.contracts.entry.occupied.OccupiedEntry as occupied
use mir.Syntax.{named}

module _ {K V : Type 0} {g : ord.Ghosts K} {g' : eq.Ghosts K} {g'' : partial.Ghosts K} where
  -- the map in which the entry stands, as it is lent
  abbrev pub home : Entry K V g g' g'' → MutBor (Content K V)
  home (Vacant free) = free.map
  home (Occupied taken) = taken.map

  -- whether a pair stands there
  abbrev pub is_taken : Entry K V g g' g'' → Bool
  is_taken (Vacant free) = false
  is_taken (Occupied taken) = true

  -- the key that is stored there, or else the one that the entry was asked for
  abbrev pub key_at : Entry K V g g' g'' → Option K
  key_at (Vacant free) = Some free.key
  key_at (Occupied taken) = option_map (λ pair. pair.0) (slice_get taken.map.now.pairs taken.at)

  abbrev pub HasKey : Entry K V g g' g'' → K → Type 0
  HasKey e k = key_at e ≡ Some k

  -- the value that is stored there
  abbrev pub stored : Entry K V g g' g'' → Option V
  stored (Vacant free) = None
  stored (Occupied taken) = option_map (λ pair. pair.1) (slice_get taken.map.now.pairs taken.at)

  -- the pairs of the map, once w is the value there
  abbrev pub after_writing : Entry K V g g' g'' → V → List (K × V)
  after_writing (Vacant free) w = insert free.map.now.pairs free.at (free.key, w)
  after_writing (Occupied taken) w = set_value taken.map.now.pairs taken.at w

  -- the same where w is given; the pairs as they are where none is
  abbrev pub after_storing : Entry K V g g' g'' → Option V → List (K × V)
  after_storing e None = (home e).now.pairs
  after_storing e (Some w) = after_writing e w

  -- the pairs of the map, once none stands there
  abbrev pub after_removal : Entry K V g g' g'' → List (K × V)
  after_removal (Vacant free) = free.map.now.pairs
  after_removal (Occupied taken) = remove taken.map.now.pairs taken.at

  -- e stands in the map behind m, which is as m shows it
  pub record StandsIn (m : MutBor (Content K V)) (e : Entry K V g g' g'') : Type 0 where
    pub lent : (home e).ghost_name ≡ m.ghost_name
    pub unchanged : (home e).now ≡ m.now

  -- e stands at the pair at place i of the map behind m
  pub record StandsAt (m : MutBor (Content K V)) (i : ℕ) (e : OccupiedEntry K V g g' g'') : Type 0 where
    pub within : StandsIn m (Occupied e)
    pub key : key_at (Occupied e) ≡ option_map (λ pair. pair.0) (slice_get m.now.pairs i)
    pub value : stored (Occupied e) ≡ option_map (λ pair. pair.1) (slice_get m.now.pairs i)
    pub written : (w : V) → after_writing (Occupied e) w ≡ set_value m.now.pairs i w
    pub removed : after_removal (Occupied e) ≡ remove m.now.pairs i

  -- d and e stand at one key of one map, and differ at most in the value that is stored there
  pub record IsSamePlace (d e : Entry K V g g' g'') : Type 0 where
    pub lent : (home d).ghost_name ≡ (home e).ghost_name
    pub spare : (home d).now.spare ≡ (home e).now.spare
    pub taken : is_taken d ≡ is_taken e
    pub key : key_at d ≡ key_at e
    pub written : (w : V) → after_writing d w ≡ after_writing e w
    pub removed : after_removal d ≡ after_removal e

  pub keeps_within : (e : OccupiedEntry K V g g' g'') (w : V) → e.at < length (set_value e.map.now.pairs e.at w)
  keeps_within e w = rw (length-set_value e.map.now.pairs e.at w) e.within

  -- e, once w is stored there
  abbrev pub storing : OccupiedEntry K V g g' g'' → V → OccupiedEntry K V g g' g''
  storing e w = record {
    map = record e.map { now = record { pairs = after_writing (Occupied e) w; spare = e.map.now.spare } };
    at
        = e.at;
    within = keeps_within e w;
  }

  -- how much spare it takes to write a value there
  abbrev pub cost : Entry K V g g' g'' → ℕ
  cost (Vacant free) = 1
  cost (Occupied taken) = 0

  -- what the map may end as, once w is the value there
  abbrev pub MayEndAs : Entry K V g g' g'' → V → Content K V → Type 0
  MayEndAs e w end = (end.pairs ≡ after_writing e w) × ((home e).now.spare ≤ end.spare + cost e)

  -- what the map may end as, where nothing was written
  abbrev pub MayStayAs : Entry K V g g' g'' → Content K V → Type 0
  MayStayAs e end = (end.pairs ≡ (home e).now.pairs) × ((home e).now.spare ≤ end.spare)

module _ (K V : RattleType) {g : ord.Ghosts K.Denot} {g' : eq.Ghosts K.Denot} {g'' : partial.Ghosts K.Denot} where
  -- the map of e ends with the last value that is written through r
  abbrev pub writes_through : Entry K.Denot V.Denot g g' g'' → MutBor V.Denot → Fml
  writes_through e r = follows (the_row K V g g' g'') V (home e).ghost_name r.ghost_name
      (λ w. record { pairs = after_writing e w; spare = (home e).now.spare })

  -- the same where r is `Ok`; at `Err` nothing is written
  abbrev pub writes_through_if_ok : {E : Type 0} → Entry K.Denot V.Denot g g' g'' → Result (MutBor V.Denot) E → Fml
  writes_through_if_ok e r =
      follows_so (the_row K V g g' g'') V (home e).ghost_name (name_if_ok (λ lent. lent.ghost_name) r) (λ w end. IsOk r → MayEndAs e w end)
      (λ end. OnErr r (MayStayAs e end))

  -- the entry behind e ends as one that stores the last value that is written through r
  abbrev pub writes_into : MutBor (OccupiedEntry K.Denot V.Denot g g' g'') → MutBor V.Denot → Fml
  writes_into e r = follows (occupied.the_row (record { mir = named 1; lft = [] }) K V g g' g'') V e.ghost_name r.ghost_name (storing e.now)

-- the map behind m is lent to the entry r, or stays where there is none
abbrev pub lends_or_stays : (K V : RattleType) (o : OrdMembers K.Denot) {g : ord.Ghosts K.Denot} {g' : eq.Ghosts K.Denot}
    {g'' : partial.Ghosts K.Denot}
    → MutBor (Content K.Denot V.Denot) → Option (OccupiedEntry K.Denot V.Denot g g' g'') → Fml
lends_or_stays K V o m r = RestsIfNone (map_row K V o) m (λ e. e.map.ghost_name) r (λ end. end ≡ m.now)
