-- One value is taken out of those that are lent each at its own place. Assumes `Logic`.
use Prim.Native.Nat.{ℕ}
use mathlib.Core.List.{List, [], ◌∷◌, ◌++◌, map}
use lib.ListN.{length, take, drop as drop_items}
use seplogic.Ra.Ura.{Ura}
use mir.Syntax.{Lifetime}
use mir.Val.{Val, vptr}
use mathlib.Core.Path.{refl}
use base.Fraction.{full_share}
use base.Logic.{ent, sep, emp, id⊢, never_e}
use base.Stored.{coded_list}
use base.Fml.{Lft, Share, GName, ffalse, fsep, flft, fobs, fbor}
use types.Logic.{Logic, sem}
use types.Follow.{after₂, takes_two}
use types.Mut.{open_ref}
use types.SemTy.{Body as Borrowed}
use types.Kit.{Item, ‵, raw, ◌⊛◌, some, later, mean, ◌$◌, ◌∵◌, !, qed, by, move, keep, use1, use3, split, split3, pick, group, show, fsplit, fjoin, fjoin3, feq_i, await, updating, now as at_once, done}
use denote.RattleType.{RattleType}
use denote.Memory.{mem}
use denote.RawPtr.{Ptr, block_ptr, lies_at}
use denote.Ref.{MutRef}
use denote.Steps.{nothing}
use Rattle.sorted_vector_map.specs.Loans.{lie_at_each, Scattered, lends_cells}

module _ {M : Type 1} {𝓤 : Ura M} (𝓛 : Logic 𝓤) (V : RattleType) where
  open 𝓛 use {H, A}

  abbrev pub Cells : Type 0
  Cells = List (Ptr × V.Denot)

  abbrev pub places : Cells → List Ptr
  places = map (λ c. c.0)

  abbrev pub values : Cells → List V.Denot
  values = map (λ c. c.1)

  module _ (b o : ℕ) (x : V.Denot) (later_cells : Cells) where
    abbrev cell : Ptr × V.Denot
    cell = (block_ptr b o, x)

    -- a value among others, and the others
    comes_out : (earlier : Cells)
        → ent 𝓤 (sem 𝓛 (lie_at_each V (places (earlier ++ cell ∷ later_cells)) (values (earlier ++ cell ∷ later_cells))))
        (sep 𝓤 (sem 𝓛 ((mem V).own_at x b o)) (sem 𝓛 (lie_at_each V (places (earlier ++ later_cells)) (values (earlier ++ later_cells)))))
    comes_out [] = id⊢ 𝓤 _
    comes_out (c ∷ earlier) =
        let all = earlier ++ cell ∷ later_cells in let others = earlier ++ later_cells in
        qed 𝓛 (‵ (fsep (lies_at V full_share c.0 c.1) (lie_at_each V (places all) (values all))) ∷ []) ∵ fsplit ! $ move ! (1 ∷ []) $
        use1 𝓛 (‵ ((mem V).own_at x b o) ⊛ ‵ (lie_at_each V (places others) (values others))) (comes_out earlier) $ split ! $
        -- [the value; the others behind; the one before]
        move ! (2 ∷ 1 ∷ []) $ fjoin ! $ move ! (1 ∷ []) $ done !

    -- what the others, now ys, and the value, now y, are together
    abbrev with_value : Cells → V.Denot → List V.Denot → List V.Denot
    with_value earlier y ys = take (length earlier) ys ++ y ∷ drop_items (length earlier) ys

    goes_back : (earlier : Cells) (y : V.Denot) (ys : List V.Denot)
        → ent 𝓤 (sep 𝓤 (sem 𝓛 ((mem V).own_at y b o)) (sep 𝓤 (sem 𝓛 (lie_at_each V (places (earlier ++ later_cells)) ys)) (emp 𝓤)))
        (sem 𝓛 (lie_at_each V (places (earlier ++ cell ∷ later_cells)) (with_value earlier y ys)))
    goes_back [] y ys = qed 𝓛 (‵ ((mem V).own_at y b o) ∷ ‵ (lie_at_each V (places later_cells) ys) ∷ raw (emp 𝓤) ∷ []) ∵ fjoin ! $ keep ! (0 ∷ []) $ done !
    goes_back (c ∷ earlier) y [] = qed 𝓛 (‵ ((mem V).own_at y b o) ∷ ‵ ffalse ∷ raw (emp 𝓤) ∷ []) ∵ keep ! (1 ∷ []) $ by ! (never_e 𝓤 _)
    goes_back (c ∷ earlier) y (z ∷ ys) =
        qed 𝓛 (‵ ((mem V).own_at y b o) ∷ ‵ (fsep (lies_at V full_share c.0 z) (lie_at_each V (places (earlier ++ later_cells)) ys)) ∷ raw (emp 𝓤) ∷ []) ∵ move ! (1 ∷ []) $ fsplit ! $
        -- [the one before; the others; the value; nothing]
        move ! (2 ∷ 1 ∷ 3 ∷ []) $ use3 𝓛 (‵ (lie_at_each V (places (earlier ++ cell ∷ later_cells)) (with_value earlier y ys))) (goes_back earlier y ys) $ move ! (1 ∷ []) $ fjoin ! $ done !

  module _ (b o : ℕ) (x : V.Denot) (earlier later_cells : Cells) (ℓ : Lifetime) (κ : Lft) (q : Share) (name : GName) where
    abbrev all_cells : Cells
    all_cells = earlier ++ (block_ptr b o, x) ∷ later_cells

    abbrev others : Cells
    others = earlier ++ later_cells

    -- a `&mut` to the value, the loan of the others, and the token
    abbrev pub TakenOut : GName × GName → Item 𝓤
    TakenOut names = ‵ ((MutRef ℓ κ V).own_val (record { ref_ptr = (b, o); ghost_name = names.0; now = x }) (vptr b o ∷ [])) ⊛ ‵ (lends_cells κ V names.1 others) ⊛ ‵ (flft κ q)

    pub take_out_cell : ent 𝓤 (sep 𝓤 (sem 𝓛 (lends_cells κ V name all_cells)) (A.lft κ q)) (H.⇛ (mean 𝓛 (some TakenOut)))
    take_out_cell =
        let whole = Scattered V (places all_cells) in let left = Scattered V (places others) in
        let code = (coded_list V.coded).code (values all_cells) in
        let joined : V.Denot → List V.Denot → List V.Denot = with_value b o x later_cells earlier in
        qed 𝓛 (‵ (lends_cells κ V name all_cells) ∷ ‵ (flft κ q) ∷ []) ∵ updating ! $ fsplit ! $ open_ref ! tt whole {x = values all_cells} {b = 0} {o = 0} $
        use1 𝓛 (‵ ((mem V).own_at x b o) ⊛ ‵ (lie_at_each V (places others) (values others))) (comes_out b o x later_cells earlier) $ split ! $
        nothing ! $ move ! (3 ∷ 4 ∷ 5 ∷ 1 ∷ 2 ∷ 0 ∷ []) $ group ! 6 $
        use1 𝓛 (later (some (λ (names : GName × GName). (‵ (fobs names.0 (V.coded.code x)) ⊛ ‵ (fbor κ (Borrowed (mem V) b o names.0))) ⊛ (‵ (fobs names.1 ((coded_list V.coded).code (values others))) ⊛ ‵ (fbor κ (Borrowed left 0 0 names.1)))
        ⊛ ‵ (flft κ q) ⊛ ‵ (after₂ whole (mem V) left name names.0 names.1 joined))))
        (takes_two 𝓛 whole (mem V) left joined κ q 0 0 b o 0 0 name (emp 𝓤) (goes_back b o x later_cells earlier) code code x (values others)) $
        await ! tt $ pick ! (λ names. split3 ! $
        split ! $ feq_i ! (List Val) (vptr b o ∷ []) (vptr b o ∷ []) refl $ fjoin3 ! $ move ! (1 ∷ []) $ split ! $ fjoin ! $ move ! (2 ∷ []) $ split ! $
        at_once ! $ show ! (λ (z : GName × GName). mean 𝓛 (TakenOut z)) names $ keep ! (3 ∷ 2 ∷ 0 ∷ []) $ done !)
