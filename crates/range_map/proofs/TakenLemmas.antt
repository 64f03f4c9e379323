-- A vector that is handed to a maker is taken whole.
use Rattle.std.proofs.Common.{◌≡◌, List, [], ◌∷◌, length, refl, ap, sym, ◌∙◌, map}
use Rattle.std.specs.Iterator.{Drains}
use Rattle.std.specs.declared.vec.IntoIter.{IntoIter}
use Rattle.std.specs.Vec.Iter.{into_iter_items, into_iter_len, into_iter_steps}
use Rattle.std.proofs.lemmas.Iterator.{items_from_drains}
use Rattle.std.proofs.lemmas.Iterator.Adapters.{YieldsList-from_vec}

unchanged : {A : Type 0} (xs : List A) → map (λ x. x) xs ≡ xs
unchanged [] = refl
unchanged (x ∷ xs) = ap (λ rest. x ∷ rest) (unchanged xs)

pub taken_whole : {A Z : Type 0} (it : IntoIter A Z) (items taken : List A) → into_iter_items it ≡ items
    → into_iter_len it ≡ length items → Drains (into_iter_steps {X = A} {Z = Z}) it taken → taken ≡ items
taken_whole it items taken e len d =
    sym (unchanged taken) ∙ items_from_drains taken (d.1.0, d.1.1, λ w. (d.0, d.1.2)) (YieldsList-from_vec items e len)
