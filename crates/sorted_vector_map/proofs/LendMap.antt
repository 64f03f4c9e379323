-- A map whose values are lent, in its parts, and the map put together with other values. Assumes `Logic`.
use mathlib.Core.Path.{◌≡◌, refl, sym, ap, subst, ◌∙◌}
use Prim.Native.Nat.{ℕ, ◌+◌, ◌*◌, ◌<◌, ◌^◌}
use mathlib.Core.List.{List, [], ◌∷◌, map}
use mathlib.Core.Bool.{Bool, true, false}
use lib.ListN.{length}
use seplogic.Ra.Ura.{Ura}
use mir.Syntax.{Args, Dict, a_type, dcons, dnil, given as dict_at}
use base.Fraction.{full_share}
use base.Logic.{SProp, ent, sep, emp, via, fst∗}
use base.Fml.{Lft, GName, Share, Fml, ftrue, fsep, fseps}
use contract.Fact.{fact_use}
use prog.Memory.{align, up}
use types.Logic.{Logic, sem}
use types.SemTy.{SemTy, cells}
use types.Kit.{‵, raw, ◌⊛◌, ◌$◌, ◌∵◌, !, qed, by, move, keep, drop, use1, use2, use3, split, rewrite, fsplit3, fjoin, flt_i, done}
use denote.Array.{Array}
use denote.Builtin.{usize}
use denote.RattleType.{RattleType}
use denote.Memory.{mem, lone, part_at, part_of}
use denote.Index.{row, whole_out}
use denote.Model.Fields.{view_owns, view_made, Plain-in}
use denote.Param.{bounded}
use denote.RawPtr.{Ptr, RawPtr, block_ptr, in_block}
use denote.Struct.Members.{Member}
use denote.Struct.OwningLaws as owning_laws
use denote.Struct.Parts.{PartsBack}
use denote.Struct.Pick.{field_out, field_back}
use denote.Struct.Struct.{Struct}
use denote.Struct.Tuple.{tuple_laws}
use Rattle.std.specs.declared.cmp.Ord as ord
use Rattle.std.specs.declared.cmp.Eq as total
use Rattle.std.specs.declared.cmp.PartialEq as eq
use Rattle.std.specs.declared.cmp.PartialOrd as partial
use Rattle.std_heap.specs.contracts.Global as G-type
use Rattle.std_heap.specs.contracts.GlobalAllocator.TheImpl.{ghosts}
use Rattle.std.proofs.alloc.Global.TheLaws as G-laws
use Rattle.std.proofs.alloc.Calls.{Al, token}
use Rattle.std.specs.Allocator.{block_with_items}
use Rattle.std.specs.List.Sorted.{IsStrictlySortedBy}
use Rattle.std.specs.Vec.{with_items}
use Rattle.std.specs.Vec.Ownership.{has_block, owns_if, vec_owns}
use Rattle.std.specs.contracts.vec.Vec as V-type
use Rattle.std.proofs.vec.Vec.TheLaws as V-laws
use Rattle.std.proofs.VecSteps.El.{El, R, owning, el_d}
use Rattle.std.proofs.VecSteps.Gaps.{with_items_is}
use Rattle.std.proofs.VecSteps.Rows.{whole as whole_row}
use Rattle.std.proofs.VecSteps.AsMutSlice.{Spare, Block}
use Rattle.ordered_lists.specs.Lists.{by_key}
use Rattle.sorted_vector_map.specs.Content.{Content}
use Rattle.sorted_vector_map.specs.Loans.{lie_at_each, Scattered}
use Rattle.sorted_vector_map.specs.Refilled.{with_values, refilled}
use Rattle.sorted_vector_map.specs.contracts.map.SortedVectorMap as M-type
use Rattle.sorted_vector_map.specs.contracts.map.SortedVectorMap.TheInside as I-type
use Rattle.sorted_vector_map.proofs.LendForm.{Two, KR, VR, KD, VD, K-laws, V-laws, PairR, SlotR}
use Rattle.sorted_vector_map.proofs.LendColumns.{Pairs, pair_size, places_of, keys_lie, EachBack, length-places_of, one_at_each, together}
use Rattle.sorted_vector_map.proofs.RefillLemmas.{length-with_values, values-with_values, ascending-with_values}

-- the allocator of every map
abbrev pub global : Al
global = record { row = G-type.the_row; laws = G-laws.the_row_laws; g = ghosts; d = dict_at 0; drops = dict_at 0 }

-- what the bound `Ord` and those above it give a function
pub record OrderOf (K : Type 0) : Type 1 where
  pub ord : ord.Ghosts K
  pub ord_table : Dict
  pub total : total.Ghosts K
  pub total_table : Dict
  pub eq : eq.Ghosts K
  pub eq_table : Dict
  pub partial : partial.Ghosts K
  pub partial_table : Dict

module _ (E : Two) (O : OrderOf (KD E)) where
  abbrev pub map_args : Args
  map_args = bounded (a_type ∷ a_type ∷ []) (E.key, (E.val, tt)) (dcons O.ord_table (dcons O.total_table (dcons O.eq_table (dcons O.partial_table dnil))))

  -- the map, and the struct that it is seen as
  abbrev pub MapR : RattleType
  MapR = M-type.the_row (KR E) (VR E) O.ord O.eq O.partial

  abbrev pub InsideR : RattleType
  InsideR = I-type.the_row (KR E) (VR E) O.ord O.eq O.partial

  abbrev pub pair_el : El
  pair_el = record { row = PairR E; laws = tuple_laws (KR E ∷ VR E ∷ []) (K-laws E, (V-laws E, tt)); al = global }

  -- the vector of the pairs, what it is seen as, and its words in memory
  abbrev pub VecR : RattleType
  VecR = V-type.the_row (PairR E) G-type.the_row ghosts

  abbrev pub SlotsR : RattleType
  SlotsR = V-type.the_row (SlotR E) G-type.the_row ghosts

  abbrev pub WordsR : RattleType
  WordsR = Struct (record { name = []; args = []; types = []; fields = RawPtr ∷ usize ∷ usize ∷ G-type.the_row ∷ [] })

  abbrev vec_member : List Member
  vec_member = record { row = VecR; ty = lone VecR.mir } ∷ []

  abbrev pub view : InsideR.Denot → Content (KD E) (VD E)
  view = M-type.the_view (KR E) (VR E) O.ord O.eq O.partial

  abbrev pub Good : InsideR.Denot → Type 0
  Good = M-type.the_invariant (KR E) (VR E) O.ord O.eq O.partial

  abbrev pub values_in : Content (KD E) (VD E) → List (VD E)
  values_in m = map (λ p. p.1) m.pairs

module _ (E : Two) (O : OrderOf (KD E)) {M : Type 1} {𝓤 : Ura M} (𝓛 : Logic 𝓤) (rb ro : ℕ) where
  -- where in the map the vector lies
  abbrev pub vec_at : ℕ
  vec_at = ro + up (align (lone (VecR E O).mir)) 0

  abbrev pub MapBack : SProp 𝓤
  MapBack = sep 𝓤 (emp 𝓤) (PartsBack 𝓛 full_share [] (vec_member E O) rb ro)

  pub vec_of_map : (m : (InsideR E O).Denot) → ent 𝓤 (sem 𝓛 (part_at (InsideR E O) full_share m rb ro)) (sep 𝓤 (sem 𝓛 (part_at (VecR E O) full_share m.items rb vec_at)) MapBack)
  unfolding part_of
  vec_of_map m =
      let laws = V-laws.the_row_laws (PairR E) G-type.the_row ghosts (pair_el E O).laws G-laws.the_row_laws in
      field_out 𝓛 full_share [] (vec_member E O) (laws.lawful 𝓛, tt) (m.items, tt) rb ro 0

  map_of_vec : (v : el_d (pair_el E O)) → ent 𝓤 (sep 𝓤 (sem 𝓛 (part_at (VecR E O) full_share v rb vec_at)) MapBack) (sem 𝓛 (part_at (InsideR E O) full_share (record { items = v }) rb ro))
  unfolding part_of
  map_of_vec v = field_back 𝓛 full_share [] (vec_member E O) (v, tt) rb ro 0

  module _ (κ : Lft) (q : Share) (γ : GName) (d : Content (KD E) (VD E)) (h : el_d (pair_el E O)) (seen : view E O (record { items = h }) ≡ d) (good : Good E O (record { items = h })) (b o : ℕ)
      (at_b : h.ptr ≡ block_ptr b o) (fit : h.cap * pair_size E < 2 ^ 63) where
    abbrev ps : Pairs E
    ps = h.items

    same_pairs : ps ≡ d.pairs
    same_pairs = ap (λ m. m.pairs) seen

    abbrev pub Words : Fml
    Words = part_at (WordsR E O) full_share (h.ptr, (h.len, (h.cap, (h.alloc, tt)))) rb vec_at

    -- the values as a type of their own, and as the map that they belong to
    abbrev pub ValuesTy : SemTy
    ValuesTy = Scattered (VR E) (places_of E ps b o)

    abbrev pub MapTy : SemTy
    MapTy = record { rep = Content (KD E) (VD E); coded = (MapR E O).coded; size = 0; own_at = λ m _ _. lie_at_each (VR E) (places_of E ps b o) (values_in E O m) }

    abbrev Room : Bool → Fml
    Room = Spare (pair_el E O) 𝓛 κ q rb ro γ h b o

    abbrev pub Left : SProp 𝓤
    Left = sep 𝓤 (EachBack E 𝓛 ps b o) (sep 𝓤 (sem 𝓛 (Room (has_block h.cap))) MapBack)

    block_again : (y : Bool) (new : Pairs E) → length new ≡ h.len
        → ent 𝓤 (sep 𝓤 (sem 𝓛 (row (R (pair_el E O)) full_share new b o)) (sem 𝓛 (Room y))) (sem 𝓛 (Block (pair_el E O) 𝓛 κ q rb ro γ h b o y new))
    block_again true new long = qed 𝓛 (‵ (row (R (pair_el E O)) full_share new b o) ∷ ‵ (Room true) ∷ []) ∵
        use1 𝓛 (‵ (part_at (Array (R (pair_el E O)) h.len) full_share new b o)) (whole_row (pair_el E O) 𝓛 full_share h.len new b o long) $ done !
    block_again false new long = qed 𝓛 (‵ (row (R (pair_el E O)) full_share new b o) ∷ ‵ ftrue ∷ []) ∵ drop ! $ done !

    -- the vector with other pairs, as many, in its map
    vec_again : (new : Pairs E) → length new ≡ length ps
        → ent 𝓤 (sep 𝓤 (sem 𝓛 (cells (mem (PairR E)) new b o)) (sep 𝓤 (sem 𝓛 Words) (sep 𝓤 (sem 𝓛 (Room (has_block h.cap))) MapBack))) (sem 𝓛 (part_at (InsideR E O) full_share (record { items = with_items h new }) rb ro))
    vec_again new as_many =
        let v = with_items h new in let long : length new ≡ h.len = as_many ∙ sym h.ok.0 in
        let block : Ptr → Fml = λ p. in_block p (owns_if (has_block h.cap) (block_with_items (token global h.alloc) (R (pair_el E O)) p h.len h.cap new)) in
        qed 𝓛 (‵ (cells (mem (PairR E)) new b o) ∷ ‵ Words ∷ (‵ (Room (has_block h.cap)) ⊛ raw MapBack) ∷ []) ∵ use1 𝓛 (‵ (row (R (pair_el E O)) full_share new b o)) (whole_out 𝓛 (R (pair_el E O)) new b o) $
        -- [the pairs; the words; the room and the way back]
        move ! (2 ∷ []) $ split ! $ move ! (2 ∷ 0 ∷ []) $ use2 𝓛 (‵ (block (block_ptr b o))) (block_again (has_block h.cap) new long) $
        rewrite ! 0 (λ (p : Ptr). ‵ (block p)) (sym at_b) refl $ flt_i ! (h.cap * pair_size E) (2 ^ 63) fit $ fjoin ! $
        rewrite ! 0 (λ (zs : Pairs E). ‵ (vec_owns (token global h.alloc) (R (pair_el E O)) h.ptr h.len h.cap zs)) (sym (with_items_is h new long)) refl $
        -- [what the vector owns; the way back; the words]
        move ! (2 ∷ 0 ∷ []) $ use2 𝓛 (‵ (part_at (VecR E O) full_share v rb vec_at)) (owning_laws.part_in 𝓛 (owning (pair_el E O)) full_share v rb vec_at) $
        use2 𝓛 (‵ (part_at (InsideR E O) full_share (record { items = v }) rb ro)) (map_of_vec v) $ done !

    -- the map with the values of another content
    pub map_again : (m : Content (KD E) (VD E))
        → ent 𝓤 (sep 𝓤 (sem 𝓛 (MapTy.own_at m 0 0)) (sep 𝓤 (sem 𝓛 (fseps (keys_lie E ps b o ∷ Words ∷ []))) Left)) (sem 𝓛 ((mem (MapR E O)).own_at (refilled d (values_in E O m)) rb ro))
    unfolding fseps
    map_again m =
        let xs = values_in E O m in let new : Pairs E = with_values ps xs in let as_many = length-with_values ps xs in
        let inside : (InsideR E O).Denot = record { items = with_items h new } in
        let is = with_items_is h new (as_many ∙ sym h.ok.0) in
        let viewed : view E O inside ≡ refilled d xs = λ j. record { pairs = (is ∙ ap (λ z. with_values z xs) same_pairs) j; spare = (seen j).spare } in
        let ascending = subst (IsStrictlySortedBy (by_key O.ord.cmp)) (sym is) (ascending-with_values O.ord.cmp ps xs good) in
        let Owns = view_owns (InsideR E O) (Content (KD E) (VD E)) (MapR E O).coded (view E O) (Good E O) in
        qed 𝓛 (‵ (MapTy.own_at m 0 0) ∷ ‵ (fsep (keys_lie E ps b o) (fsep Words ftrue)) ∷ (raw (EachBack E 𝓛 ps b o) ⊛ ‵ (Room (has_block h.cap)) ⊛ raw MapBack) ∷ []) ∵
        move ! (2 ∷ []) $ split ! $ move ! (3 ∷ []) $ fsplit3 ! $
        -- [the keys; the words; nothing; the pairs' ways back; the room and the map's way back; the values]
        move ! (5 ∷ 0 ∷ 3 ∷ []) $ use3 𝓛 (‵ (cells (mem (PairR E)) new b o)) (together E 𝓛 ps b o xs) $ keep ! (0 ∷ 1 ∷ 3 ∷ []) $
        use3 𝓛 (‵ (part_at (InsideR E O) full_share inside rb ro)) (vec_again new as_many) $
        by ! (Plain-in (MapR E O) (InsideR E O) Owns 𝓛 full_share (refilled d xs) inside
        (view_made (InsideR E O) (Content (KD E) (VD E)) (MapR E O).coded (view E O) (Good E O) 𝓛 (refilled d xs) inside (viewed, ascending)) rb ro)

    -- values at the places are those of the map that they make
    pub values_again : (xs : List (VD E))
        → ent 𝓤 (sep 𝓤 (sem 𝓛 (ValuesTy.own_at xs 0 0)) (emp 𝓤)) (sem 𝓛 (MapTy.own_at (refilled d xs) 0 0))
    values_again xs =
        let places = places_of E ps b o in
        fact_use 𝓤 (length xs ≡ length places) (via 𝓤 _ (fst∗ 𝓤 (sem 𝓛 (lie_at_each (VR E) places xs)) (emp 𝓤)) (one_at_each (VR E) 𝓛 places xs)) (λ as_many.
        let long : length xs ≡ length d.pairs = as_many ∙ length-places_of E ps b o ∙ ap length same_pairs in
        qed 𝓛 (‵ (lie_at_each (VR E) places xs) ∷ raw (emp 𝓤) ∷ []) ∵
        rewrite ! 0 (λ (l : List (VD E)). ‵ (lie_at_each (VR E) places l)) (sym (values-with_values d.pairs xs long)) refl $ keep ! (0 ∷ []) $ done !)
