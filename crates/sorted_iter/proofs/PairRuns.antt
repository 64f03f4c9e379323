-- What the stream of pairs gives.
use Rattle.std.proofs.Common.{◌≡◌, true, List, [], ◌∷◌, Option, map, refl, sym, ap, subst, ◌∙◌}
use Rattle.std.specs.Iterator.{Yields, DrainsIf, AlwaysYields}
use Rattle.std.specs.Iterator.Runs.{SomeRun, EachRunFrom}
use Rattle.std.proofs.iter.runs.Made.{run, took}
use Rattle.sorted_iter.specs.declared.pairs.Pairs.{Pairs}
use Rattle.sorted_iter.specs.Orders.{GivesList}
use Rattle.sorted_iter.specs.PairStreams.{paired, pairs_source, pairs_steps}

module _ {S A : Type 0} (steps : S → Option A → S → Type 0) where
  abbrev firsts_of : List (A × Unit {0}) → List A
  firsts_of ps = map (λ p. p.0) ps

  paired-firsts : (ps : List (A × Unit {0})) → ps ≡ map paired (firsts_of ps)
  paired-firsts [] = refl
  paired-firsts (p ∷ ps) = ap (λ l. p ∷ l) (paired-firsts ps)

  paired-yields : (ps : List (A × Unit {0})) (s t : Pairs S) → Yields (pairs_steps steps) s ps t → Yields steps (pairs_source s) (firsts_of ps) (pairs_source t)
  paired-yields [] s t e = ap pairs_source e
  paired-yields (p ∷ ps) s t e = (pairs_source e.0, e.1, paired-yields ps e.0 t e.2)

  paired-always : (xs : List A) (s : Pairs S) → AlwaysYields steps (λ x. x) (pairs_source s) xs → AlwaysYields (pairs_steps steps) (λ p. p) s (map paired xs)
  paired-always [] s h = λ p j k. h p.0 (pairs_source j) k
  paired-always (x ∷ xs) s h = ((λ j k. h.0 (pairs_source j) k), λ p j k. let m = h.1 p.0 (pairs_source j) k in (ap paired m.0, paired-always xs j m.1))

  module _ (s : Pairs S) (x : S) (same : pairs_source s ≡ x) where
    pub paired-runs : EachRunFrom (pairs_steps steps) s (λ p. SomeRun steps x (λ q. (p.items ≡ map paired q.items) × (p.whole ≡ q.whole)))
    paired-runs p on at =
        let d = took p in
        let ran : DrainsIf steps (p.whole ≡ true) x (firsts_of p.items) =
        subst (λ k. DrainsIf steps (p.whole ≡ true) k (firsts_of p.items)) (ap pairs_source at ∙ same) (pairs_source d.0, paired-yields p.items p.from d.0 d.1, λ w. (pairs_source (d.2 w).0, (d.2 w).1)) in
        (run steps x (firsts_of p.items) p.whole ran, refl, (paired-firsts p.items, refl))

    pub paired-lists : (xs : List A) → GivesList steps x xs → GivesList (pairs_steps steps) s (map paired xs)
    paired-lists xs h = record { runs = paired-always xs s (subst (λ k. AlwaysYields steps (λ z. z) k xs) (sym same) h.runs) }
