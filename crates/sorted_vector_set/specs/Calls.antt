-- A test that is called at each item of a list in turn.
use Rattle.std.specs.Prelude.{◌≡◌, Bool, List, ◌∷◌, ◌++◌}
use Rattle.std.specs.List.{FoldsTo}

-- `R s x b t` says that a call at x of the test as s answered b, and left it as t
module _ {S A : Type 0} (R : S → A → Bool → S → Type 0) where
  -- a call at x may leave t
  abbrev pub SomeCall : S → A → S → Type 0
  SomeCall s x t = (b : Bool) × R s x b t

  -- Q holds at each item, of the test as the calls at the items before have left it
  pub record CallableOnEach (Q : S → A → Type 0) (s : S) (xs : List A) : Type 0 where
    pub at : (before after : List A) (t : S) (x : A) → xs ≡ before ++ x ∷ after → FoldsTo SomeCall s before t → Q t x
