-- A list that is made one item after another, and fits the items of another list by a relation.
use Rattle.std.proofs.Common.{◌≡◌, List, [], ◌∷◌, ◌++◌, ap, ◌∙◌, append_assoc, append-nil}
use Rattle.std.specs.List.{AllZip}

module _ {A B : Type 0} (R : A → B → Type 0) where
  -- `made`, followed by whatever fits what is left, fits all
  pub record IsZipped (left all : List A) (made : List B) : Type 0 where
    pub completed : (more : List B) → AllZip R left more → AllZip R all (made ++ more)

  pub zipped_start : (all : List A) → IsZipped all all []
  zipped_start all = record { completed = λ more h. h }

  pub zipped_step : (left rest all : List A) (made new : List B) (a : A) (b : B) → new ≡ made ++ b ∷ [] → left ≡ a ∷ rest → R a b → IsZipped left all made → IsZipped rest all new
  zipped_step left rest all made new a b is_new is_left related so_far = record {
    completed = λ more h.
        let grouped : new ++ more ≡ made ++ b ∷ more = ap (λ xs. xs ++ more) is_new ∙ append_assoc made (b ∷ []) more in
        let one : AllZip R left (b ∷ more) = rw is_left (related, h) in
        rw grouped (so_far.completed (b ∷ more) one);
  }

  pub zipped_end : (left all : List A) (made : List B) → left ≡ [] → IsZipped left all made → AllZip R all made
  zipped_end left all made none so_far =
      let whole : made ++ [] ≡ made = append-nil made in
      rw (← whole) (so_far.completed [] (rw none tt))
