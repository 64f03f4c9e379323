-- What a pass leaves that keeps some pairs of a map, whose values it may write.
use Rattle.std.proofs.Common.{◌≡◌, Bool, true, false, cond, List, [], ◌∷◌, ap, ◌∙◌, sym, subst}
use Rattle.std.specs.declared.cmp.Ordering.{Ordering}
use Rattle.std.specs.declared.cmp.Ordering.TheVariants.{Less}
use Rattle.std.specs.List.{AllByRecursion, FoldsTo}
use Rattle.std.specs.List.Retain.{RetainsInTurn}
use Rattle.std.specs.List.Sorted.{IsStrictlySortedBy}
use Rattle.std.specs.Map.Calls.{SomeCallAtPair, RetainsPairs}
use Rattle.ordered_lists.specs.Lists.{by_key}
use Rattle.ordered_lists.proofs.RetainLemmas.{SomeTurn}

module _ {S K V : Type 0} (cmp : K → K → Ordering) (T : S → K → V → Bool → V → S → Type 0) where
  kept_below : (P : K → Type 0) (s : S) (ps kept : List (K × V)) → RetainsPairs T s ps kept → AllByRecursion (λ p. P p.0) ps → AllByRecursion (λ p. P p.0) kept
  kept_below P s [] kept r all = subst (AllByRecursion (λ (p : K × V). P p.0)) (sym r) tt
  kept_below P s (p ∷ ps) kept (true, w, t, rest, called, r, is) all = subst (AllByRecursion (λ (q : K × V). P q.0)) (sym is) (all.0, kept_below P t ps rest r all.1)
  kept_below P s (p ∷ ps) kept (false, w, t, rest, called, r, is) all = subst (AllByRecursion (λ (q : K × V). P q.0)) (sym is) (kept_below P t ps rest r all.1)

  -- pairs in order stay in order where some are kept
  pub retained_ascends : (s : S) (ps kept : List (K × V)) → RetainsPairs T s ps kept → IsStrictlySortedBy (by_key cmp) ps → IsStrictlySortedBy (by_key cmp) kept
  unfolding IsStrictlySortedBy
  retained_ascends s [] kept r a = subst (IsStrictlySortedBy (by_key cmp)) (sym r) tt
  retained_ascends s (p ∷ ps) kept (true, w, t, rest, called, r, is) a = subst (IsStrictlySortedBy (by_key cmp)) (sym is) (kept_below (λ k. cmp p.0 k ≡ Less) t ps rest r a.0, retained_ascends t ps rest r a.1)
  retained_ascends s (p ∷ ps) kept (false, w, t, rest, called, r, is) a = subst (IsStrictlySortedBy (by_key cmp)) (sym is) (retained_ascends t ps rest r a.1)

module _ {S K V : Type 0} (T : S → K → V → Bool → V → S → Type 0) where
  -- the turn of a pair, whose key stays
  abbrev pub AtPair : S → K × V → Bool → S → K × V → Type 0
  AtPair s p b t q = T s p.0 p.1 b q.1 t × (q.0 ≡ p.0)

  pub pairs_called : (s : S) (ps : List (K × V)) (t : S) → FoldsTo (SomeTurn AtPair) s ps t → FoldsTo (SomeCallAtPair T) s ps t
  pairs_called s [] t run = run
  pairs_called s (p ∷ ps) t (u, (b, q, (called, key)), run) = (u, (b, q.1, called), pairs_called u ps t run)

  pub pairs_retained : (s : S) (ps kept : List (K × V)) → RetainsInTurn AtPair s ps kept → RetainsPairs T s ps kept
  pairs_retained s [] kept r = r
  pairs_retained s (p ∷ ps) kept (b, t, q, (called, key), rest, r, is) = (b, q.1, t, rest, called, pairs_retained t ps rest r, is ∙ ap (λ k. cond b ((k, q.1) ∷ rest) rest) key)
