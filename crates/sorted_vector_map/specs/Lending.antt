-- What a contract sees of an iterator that lends values for writing.
use Rattle.std.specs.Prelude.{◌≡◌, ◌^◌, ◌<◌, List, length}
use Rattle.std.specs.Borrow.{MutBor}
use Rattle.std.specs.declared.option.Option.{Option}
use Rattle.std.specs.Iterator.Runs.{EveryRun, ItemsMapTo, ItemsMapToReversed}
use Rattle.std.specs.Map.Iter.{TakesFirst, TakesLast}
use base.Fml.{GName}

-- the items still to come, with their values, and the name of the loan that ends at the values written
pub record Lending (X : Type 0) : Type 0 where
  pub rest : List X
  pub loan : GName

-- what a `&mut V` points to
abbrev pub deref_mut : {V : Type 0} → MutBor V → V
deref_mut x = x.now

module _ {A X : Type 0} (shows : A → X) where
  -- a call of `next` at s gave r, which shows the first item of s, and left t
  abbrev pub LendsFirstOf : Lending X → Option A → Lending X → Type 0
  LendsFirstOf s r t = TakesFirst shows s.rest r t.rest

  -- the same of `next_back` and the last item
  abbrev pub LendsLastOf : Lending X → Option A → Lending X → Type 0
  LendsLastOf s r t = TakesLast shows s.rest r t.rest

  -- each run of `next` shows the items still to come, in order
  abbrev pub LendsInOrder : Type 0
  LendsInOrder = EveryRun LendsFirstOf (λ run. ItemsMapTo run shows run.from.rest)

  -- the same of `next_back`, in reverse
  abbrev pub LendsInReverse : Type 0
  LendsInReverse = EveryRun LendsLastOf (λ run. ItemsMapToReversed run shows run.from.rest)

-- exactly xs are to come, with their values for writing, in this order from the front and in reverse from the back
pub record ComesForWriting {A X : Type 0} (shows : A → X) (xs left : List X) : Type 0 where
  pub all : left ≡ xs
  pub countable : length left < 2 ^ 64
  pub forwards : LendsInOrder shows
  pub backwards : LendsInReverse shows
