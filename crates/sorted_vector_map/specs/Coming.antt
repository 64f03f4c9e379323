-- What an iterator of a map says of the items that it has still to give.
use Rattle.std.specs.Prelude.{◌≡◌, ◌^◌, ◌<◌, List, length}
use Rattle.std.specs.declared.alloc.Global.{Global}
use Rattle.std.specs.declared.vec.IntoIter.{IntoIter}
use Rattle.std.specs.Iterator.Runs.{EveryRun, ItemsAre, ItemsAreReversed}
use Rattle.std.specs.Map.Iter.{ShowsInOrder, ShowsInReverse, GivesInOrder, GivesInReverse}
use Rattle.std.specs.Vec.Iter.{into_iter_steps, into_iter_steps_back, into_iter_items, into_iter_len}

-- exactly xs are to come by reference, in this order from the front and in reverse from the back; `shows` reads an item
pub record ComesByReference {A X : Type 0} (shows : A → X) (xs left : List X) : Type 0 where
  pub all : left ≡ xs
  pub countable : length left < 2 ^ 64
  pub forwards : ShowsInOrder shows
  pub backwards : ShowsInReverse shows

-- exactly xs are to come by value, in this order from the front and in reverse from the back
pub record ComesByValue {X : Type 0} (xs left : List X) : Type 0 where
  pub all : left ≡ xs
  pub countable : length left < 2 ^ 64
  pub forwards : GivesInOrder X
  pub backwards : GivesInReverse X

-- the same of an iterator over a vector
pub record ComesFromVector {X : Type 0} (xs : List X) (iter : IntoIter X Global) : Type 0 where
  pub all : into_iter_items iter ≡ xs
  pub count : into_iter_len iter ≡ length xs
  pub countable : into_iter_len iter < 2 ^ 64
  pub forwards : EveryRun (into_iter_steps {X = X} {Z = Global}) (λ run. ItemsAre run (into_iter_items run.from))
  pub backwards : EveryRun (into_iter_steps_back {X = X} {Z = Global}) (λ run. ItemsAreReversed run (into_iter_items run.from))
