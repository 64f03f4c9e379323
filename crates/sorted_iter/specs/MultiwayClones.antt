-- Clones of streams, and of the heads of a many-way union.
use Rattle.std.specs.Prelude.{◌≡◌, Option}
use Rattle.std.specs.Iterator.{Count, IsFinite}
use Rattle.std.specs.Iterator.Runs.{Run, SomeRun, EachRunFrom}
use Rattle.std.specs.List.{AllZip}
use Rattle.std.specs.declared.cmp.Ordering.{Ordering}
use Rattle.std.specs.declared.cmp.Ordering.TheVariants.{Equal}
use Rattle.sorted_iter.specs.declared.multiway.heads.InputHead.{InputHead}

-- two runs have equal items, each in its turn, and both went on to `None` or neither did
pub record AreAlike {S T A : Type 0} {steps : S → Option A → S → Type 0} {others : T → Option A → T → Type 0} (cmp : A → A → Ordering)
    (q : Run steps) (p : Run others) : Type 0 where
  pub items : AllZip (λ x y. cmp x y ≡ Equal) q.items p.items
  pub whole : q.whole ≡ p.whole

-- The stream t has the same items still to come as s: with each of its runs one of s is alike. It may be called where s may, and has
-- an end where s has.
pub record ComesAlike {S A : Type 0} (can : S → Type 0) (left : S → Count) (cmp : A → A → Ordering) (steps : S → Option A → S → Type 0)
    (s t : S) : Type 0 where
  pub callable : can s → can t
  pub ends : IsFinite (left s) → IsFinite (left t)
  pub runs : EachRunFrom steps t (λ p. SomeRun steps s (λ q. AreAlike cmp q p))

-- k has clones of the item and of the input of h
pub record IsHeadClone {S A : Type 0} (is_input_clone : S → S → Type 0) (is_item_clone : A → A → Type 0)
    (h k : InputHead S A) : Type 0 where
  pub input : is_input_clone h.rest k.rest
  pub item : is_item_clone h.item k.item
