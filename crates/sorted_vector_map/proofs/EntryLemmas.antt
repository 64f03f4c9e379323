-- An entry, once another value is stored there.
use native.Mathlib.Bridge.{le_prop}
use Rattle.std.proofs.Common.{◌≡◌, ℕ, ◌<◌, Some, length, refl, sym}
use Rattle.std.specs.Borrow.{MutBor}
use Rattle.std.specs.declared.cmp.Ord as ord
use Rattle.std.specs.declared.cmp.PartialEq as eq
use Rattle.std.specs.declared.cmp.PartialOrd as partial
use Rattle.ordered_lists.proofs.PairLemmas.{key_set, value_set, set_twice, remove_set}
use Rattle.sorted_vector_map.specs.Content.{Content}
use Rattle.sorted_vector_map.specs.Entry.{Occupied, stored, storing, IsSamePlace}
use Rattle.sorted_vector_map.specs.declared.entry.Entry.{Entry}
use Rattle.sorted_vector_map.specs.declared.entry.occupied.OccupiedEntry.{OccupiedEntry}

module _ {K V : Type 0} {g : ord.Ghosts K} {g' : eq.Ghosts K} {g'' : partial.Ghosts K} where
  -- two entries at one place of one map are the same
  pub same_place : (m : MutBor (Content K V)) (i : ℕ) (a b : i < length m.now.pairs) → (let e : OccupiedEntry K V g g' g'' = record { map = m; at = i; within = a } in e) ≡ record { map = m; at = i; within = b }
  same_place m i a b = λ j. record { map = m; at = i; within = le_prop a b j }

  pub stays_in_place : (e : OccupiedEntry K V g g' g'') (w : V) → IsSamePlace (Occupied e) (Occupied (storing e w))
  stays_in_place e w = record {
    lent = refl;
    spare = refl;
    taken = refl;
    key = sym (key_set e.map.now.pairs e.at w);
    written = λ v. sym (set_twice e.map.now.pairs e.at w v);
    removed = sym (remove_set e.map.now.pairs e.at w);
  }

  pub stores : (e : OccupiedEntry K V g g' g'') (w : V) → stored (Occupied (storing e w)) ≡ Some w
  stores e w = value_set e.map.now.pairs e.at w e.within
