-- What a pass leaves that keeps some items of a set.
use Rattle.std.proofs.Common.{◌≡◌, suc, Bool, true, false, cond, List, [], ◌∷◌, refl, sym, ap, ◌∙◌, subst}
use Rattle.std.specs.declared.cmp.Ordering.{Ordering}
use Rattle.std.specs.declared.cmp.Ordering.TheVariants.{Less}
use Rattle.std.specs.List.{AllByRecursion, FoldsTo, items_where_true}
use Rattle.std.specs.List.Retain.{RetainsInTurn, IsFiltered}
use Rattle.std.specs.List.Sorted.{IsStrictlySortedBy}
use Rattle.ordered_lists.proofs.RetainLemmas.{SomeTurn}
use Rattle.sorted_vector_set.specs.Calls.{SomeCall}

all_where : {A : Type 0} (P : A → Type 0) (bs : List Bool) (xs : List A) → AllByRecursion P xs → AllByRecursion P (items_where_true bs xs)
all_where P [] xs all = tt
all_where P (b ∷ bs) [] all = tt
all_where P (true ∷ bs) (x ∷ xs) all = (all.0, all_where P bs xs all.1)
all_where P (false ∷ bs) (x ∷ xs) all = all_where P bs xs all.1

where_ascends : {A : Type 0} (cmp : A → A → Ordering) (bs : List Bool) (xs : List A) → IsStrictlySortedBy cmp xs → IsStrictlySortedBy cmp (items_where_true bs xs)
unfolding IsStrictlySortedBy
where_ascends cmp [] xs a = tt
where_ascends cmp (b ∷ bs) [] a = tt
where_ascends cmp (true ∷ bs) (x ∷ xs) a = (all_where (λ y. cmp x y ≡ Less) bs xs a.0, where_ascends cmp bs xs a.1)
where_ascends cmp (false ∷ bs) (x ∷ xs) a = where_ascends cmp bs xs a.1

module _ {S A : Type 0} (R : S → A → Bool → S → Type 0) where
  -- the turn of an item, which stays as it is
  abbrev pub AtItem : S → A → Bool → S → A → Type 0
  AtItem s x b t y = R s x b t × (y ≡ x)

  pub items_called : (s : S) (xs : List A) (t : S) → FoldsTo (SomeTurn AtItem) s xs t → FoldsTo (SomeCall R) s xs t
  items_called s [] t run = run
  items_called s (x ∷ xs) t (u, (b, y, (called, same)), run) = (u, (b, called), items_called u xs t run)

  chosen : (b : Bool) (bs : List Bool) (x y : A) (xs rest : List A) → y ≡ x → rest ≡ items_where_true bs xs → cond b (y ∷ rest) rest ≡ items_where_true (b ∷ bs) (x ∷ xs)
  chosen true bs x y xs rest same e = λ i. same i ∷ e i
  chosen false bs x y xs rest same e = e

  pub items_filtered : (s : S) (xs kept : List A) → RetainsInTurn AtItem s xs kept → IsFiltered R s xs kept
  items_filtered s [] kept r = ([], s, refl, refl, r)
  items_filtered s (x ∷ xs) kept (b, t, y, (called, same), rest, r, is) =
      let f = items_filtered t xs rest r in
      (b ∷ f.0, f.1, ap suc f.2, (t, called, f.3), is ∙ chosen b f.0 x y xs rest same f.4)

pub filtered_ascends : {S A : Type 0} (cmp : A → A → Ordering) (R : S → A → Bool → S → Type 0) (s : S) (xs kept : List A) → IsFiltered R s xs kept → IsStrictlySortedBy cmp xs → IsStrictlySortedBy cmp kept
filtered_ascends cmp R s xs kept f a = subst (IsStrictlySortedBy cmp) (sym f.4) (where_ascends cmp f.0 xs a)
