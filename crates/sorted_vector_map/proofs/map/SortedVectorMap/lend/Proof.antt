-- `lend` shares the keys of a map, and lends its values. Assumes `Logic`.
use mathlib.Core.Path.{◌≡◌, refl, sym, ap, subst, ◌∙◌}
use Prim.Native.Nat.{ℕ, ◌*◌, ◌<◌, ◌^◌}
use native.Mathlib.Omega.{arith}
use mathlib.Core.List.{List, [], ◌∷◌, map, append-nil}
use lib.ListN.{length}
use seplogic.Ra.Ura.{Ura}
use mir.Syntax.{Fn, named}
use mir.MapTy.{inst_fn}
use mir.Val.{Val, vptr, vstruct, vcons, vnil}
use base.Fraction.{full_share}
use base.Logic.{SProp, ent, emp, id⊢, never}
use base.Fml.{Lft, GName, Share, ftrue, flft, fobs, fbor, fseps, Incl-refl, Incl-trans}
use prog.Memory.{Memory}
use prog.Routine.{Routine}
use prog.Wp.{Env, Calls, Loops, WpFn}
use types.Logic.{Logic}
use types.SemTy.{Body as Borrowed, cells}
use types.Mut.{open_ref}
use types.Follow.{after, takes_beside, takes_part}
use types.Part.{agg}
use types.Run.{stop, fld, of_opd, addr, and_then, no_more, first, blocks, exec, returns, enter}
use types.ByLocal.{alloc_all, pass_all, free_all, look_at, get, through, sets, sets_last, env}
use types.Kit.{Item, ‵, raw, ◌⊛◌, some, later, await, pick, at_ret, ◌$◌, ◌∵◌, !, qed, by, move, keep, drop, use0, use1, use2, split, split3, join, group, rewrite, fsplit, fsplit3, fjoin, feq_i, flt_l, flt_i, suffices, done}
use contract.BorrowLft.{◌⊑◌, ⊑_static}
use contract.Fact.{fact_i}
use contract.Lifetimes.{Lfts, Shares, AllOutlive}
use contract.Monad.{Fun, fact}
use contract.Running.{tables}
use denote.Array.{Array}
use denote.Exit.{no}
use denote.RattleType.{RattleType, owns}
use denote.Memory.{mem, part_at, shared_of, each_shared}
use denote.Follow.{follows}
use denote.Index.{row, whole_in}
use denote.Model.Fields.{view_owns, plain_out}
use denote.Opens.{hide}
use denote.Param.Laws.{row_shared}
use denote.Param.Shared.{parts_share, copy_shared}
use denote.RawPtr.{Ptr, in_block, in_a_block}
use denote.Ref.{Bor, MutRef, ShrRef, mut_vals, mut_Tells}
use denote.Signature.{plain, named_lft, mut_ref_to}
use denote.Steps.{nothing, heard}
use denote.Struct.Field.{RawPtr-field, usize-field, row_field}
use denote.Struct.Laws.{RawPtr-copy, usize-copy}
use denote.Struct.Lending.{lent_at}
use denote.Struct.Owning.{shape}
use denote.Struct.OwningLaws as owning_laws
use denote.Struct.Struct.{Struct}
use denote.Triple.Clauses.{Clauses, Ended}
use denote.Triple.Entry.{on_entry}
use denote.Triple.Walked.{Stays, stay_dropped, walk_of, ends_at, Goes-spent_ref}
use Rattle.std.specs.declared.vec.Vec.{Vec}
use Rattle.std_heap.specs.declared.Global.{Global}
use Rattle.std_heap.specs.contracts.Global as G-type
use Rattle.std.proofs.alloc.Global.TheLaws as G-laws
use Rattle.std.proofs.alloc.Calls.{token}
use Rattle.std.specs.Allocator.{block_with_items}
use Rattle.std.specs.List.Sorted.{IsStrictlySortedBy}
use Rattle.std.specs.Mem.{type_size}
use Rattle.std.specs.Vec.Ownership.{has_block, owns_if, vec_owns}
use Rattle.std.proofs.VecSteps.AsMutSlice.{Spare, rows_out}
use Rattle.std.proofs.VecSteps.El.{R, owning, el_d}
use Rattle.std.proofs.VecSteps.Opens.{not_live}
use Rattle.std.proofs.VecSteps.Shapes.{after as after_code}
use Rattle.std.proofs.raw_atomic.Walks.{proved}
use Rattle.std_collections.proofs.TreeMemory.Lodging.{two_made}
use Rattle.ordered_lists.specs.Lists.{by_key}
use Rattle.sorted_vector_map.specs.Content.{Content}
use Rattle.sorted_vector_map.specs.Loans.{lie_at_each, lends_cells}
use Rattle.sorted_vector_map.specs.Refilled.{refilled}
use Rattle.sorted_vector_map.specs.Slots.{LentPair, pair_of, cell_of}
use Rattle.sorted_vector_map.specs.declared.lending.lent.Lent.{Lent}
use Rattle.sorted_vector_map.specs.contracts.lending.lent.Lent as Lent-type
use Rattle.sorted_vector_map.specs.contracts.map.SortedVectorMap.lend.{ended, clauses}
use Rattle.sorted_vector_map.specs.contracts.map.SortedVectorMap.lend.Key.{name as #self}
use Rattle.sorted_vector_map.proofs.LendForm.{Two, VR, KD, VD, PairR, SlotR, no_bytes, no_bytes_made, slot_size}
use Rattle.sorted_vector_map.proofs.LendColumns.{Pairs, pair_size, slots_of, places_of, values_of, keys_lie, keys_seen, pairs_of_slots, values_of_slots, length-slots_of, EachBack, apart, sees_slots, lends_keys}
use Rattle.sorted_vector_map.proofs.LendMap.{OrderOf, global, map_args, MapR, InsideR, pair_el, VecR, SlotsR, WordsR, view, Good, values_in, vec_at, MapBack, vec_of_map, ValuesTy, MapTy, Left, map_again, values_again}
use Rattle.sorted_vector_map.proofs.map.SortedVectorMap.lend.Statement as stated
use Rattle.sorted_vector_map.proofs.map.SortedVectorMap.lend.Code as code

module _ (E : Two) (O : OrderOf (KD E)) where
  abbrev routine : Fn
  routine = inst_fn (map_args E O) code.function

  abbrev end : Ended
  end = ended E.key E.val O.ord O.ord_table O.total O.total_table O.eq O.eq_table O.partial O.partial_table

  abbrev passing : Stays end.signature.params end.kept
  passing = (stay_dropped (mut_ref_to (0 ∷ []) tt (plain (λ _. MapR E O))) no, tt)

module _ (E : Two) (O : OrderOf (KD E)) {M : Type 1} {𝓤 : Ura M} (𝓛 : Logic 𝓤) (mem_at : Memory → SProp 𝓤) (run : Routine → Fun 𝓤) where
  open 𝓛 use {H}

  abbrev spec : Clauses 𝓤 (end E O)
  spec = clauses E.key E.val O.ord O.ord_table O.total O.total_table O.eq O.eq_table O.partial O.partial_table 𝓛 mem_at run

  module _ (κs : Lfts 3) (qs : Shares 3) (within : AllOutlive 3 (end E O).signature.outlives κs) (rb ro : ℕ) (γ : GName) (d : Content (KD E) (VD E)) where
    abbrev κ : Lft
    κ = κs.0

    abbrev q : Share
    q = qs.0

    abbrev entry : (walk_of 𝓛 (end E O) (passing E O) spec).Ghost
    entry = ((κs, qs, within, (record { ref_ptr = (rb, ro); ghost_name = γ; now = d }, tt), (vptr rb ro ∷ [], tt)), tt)

    abbrev Finish : Val → SProp 𝓤
    Finish = (walk_of 𝓛 (end E O) (passing E O) spec).post entry

    abbrev LoanR : RattleType
    LoanR = Lent-type.the_row (named_lft 3 0 tt κs) (VR E)

    abbrev vec : ℕ
    vec = vec_at E O 𝓛 rb ro

    abbrev other_tokens : Item 𝓤
    other_tokens = ‵ (flft κs.1.0 qs.1.0) ⊛ ‵ (flft κs.1.1.0 qs.1.1.0) ⊛ ‵ ftrue

    module _ (C : Calls 𝓤 H) (Λ : Loops 𝓤 H) (lives : κs.1.0 ⊑ E.key.lives) where
      walk : ent 𝓤 (on_entry 𝓛 (end E O).signature κs qs entry.0.3 entry.0.4) (WpFn 𝓤 H C Λ (routine E O) (vptr rb ro ∷ []) Finish)
      unfolding fseps
      walk =
          let key_lives = Incl-trans within.0 lives in
          let map_code = (MapR E O).coded.code d in
          let Owns = view_owns (InsideR E O) (Content (KD E) (VD E)) (MapR E O).coded (view E O) (Good E O) in
          qed 𝓛 ((‵ (flft κ q) ⊛ other_tokens) ∷ ‵ (owns (MutRef (named 0) κ (MapR E O) ∷ []) entry.0.3 entry.0.4) ∷ []) ∵ split ! $ move ! (2 ∷ []) $ fsplit ! $ fsplit3 ! $ drop ! $
          -- [what the map is now; its borrow; nothing; the token; the other tokens]
          move ! (0 ∷ 1 ∷ 3 ∷ []) $ enter ! C Λ (routine E O) (vptr rb ro ∷ []) _ $ alloc_all ! (λ l. pass_all ! refl ((tt, tt), tt) $
          let Locals : Env 𝓤 H = env (routine E O).locals l in
          open_ref ! tt (mem (MapR E O)) {x = d} {b = rb} {o = ro} $
          use1 𝓛 (some (λ (x : (m : (InsideR E O).Denot) × ((view E O m ≡ d) × Good E O m)). ‵ (part_at (InsideR E O) full_share x.0 rb ro))) (plain_out (MapR E O) (InsideR E O) Owns 𝓛 full_share d rb ro) $ pick ! (λ x.
          let h : el_d (pair_el E O) = x.0.items in let seen = x.1.0 in let good = x.1.1 in let ps : Pairs E = h.items in
          let same : ps ≡ d.pairs = ap (λ m. m.pairs) seen in let Ascends : Pairs E → Type 0 = IsStrictlySortedBy (by_key O.ord.cmp) in
          let words : (WordsR E O).Denot = (h.ptr, (h.len, (h.cap, (h.alloc, tt)))) in
          use1 𝓛 (‵ (part_at (VecR E O) full_share h rb vec) ⊛ raw (MapBack E O 𝓛 rb ro)) (vec_of_map E O 𝓛 rb ro x.0) $ split ! $
          use1 𝓛 (‵ (part_at (WordsR E O) full_share words rb vec) ⊛ ‵ (vec_owns (token global h.alloc) (R (pair_el E O)) h.ptr h.len h.cap ps)) (owning_laws.part_out 𝓛 (owning (pair_el E O)) full_share h rb vec) $ split ! $
          move ! (1 ∷ []) $ fsplit ! $ flt_l ! (λ fit.
          in_a_block ! h.ptr (λ p. in_block p (owns_if (has_block h.cap) (block_with_items (token global h.alloc) (R (pair_el E O)) p h.len h.cap ps))) (id⊢ 𝓤 (never 𝓤)) (λ b o at_b.
          let slots : List (LentPair (KD E) (VD E)) = slots_of E ps b o in let places = places_of E ps b o in let values = values_of E ps b o in
          let named_values : values ≡ values_in E O d = values_of_slots E ps b o ∙ ap (values_in E O) seen in
          let whole = MapTy E O 𝓛 rb ro κ q γ d h seen good b o at_b fit in let each = ValuesTy E O 𝓛 rb ro κ q γ d h seen good b o at_b fit in
          let left = Left E O 𝓛 rb ro κ q γ d h seen good b o at_b fit in
          let long : length slots ≡ h.len = length-slots_of E ps b o ∙ sym h.ok.0 in
          let shared : Vec (LentPair (KD E) (VD E)) Global = record { ptr = h.ptr; len = h.len; cap = h.cap; alloc = h.alloc; items = slots; ok = (sym long, h.ok.1); small = h.small } in
          let top : Bor (Vec (LentPair (KD E) (VD E)) Global) = record { ref_ptr = (rb, vec); now = shared } in
          -- [the block; the words; the map's way back; the open borrow; what the map is now, twice]
          use1 𝓛 (‵ (row (R (pair_el E O)) full_share ps b o) ⊛ ‵ (Spare (pair_el E O) 𝓛 κ q rb ro γ h b o (has_block h.cap)))
          (rows_out (pair_el E O) 𝓛 κ q rb ro γ h b o (has_block h.cap) (λ t. let none : h.cap ≡ 0 = not_live h.cap t in let ok = h.ok in omega arith)) $ split ! $
          use1 𝓛 (‵ (cells (mem (PairR E)) ps b o)) (whole_in 𝓛 (R (pair_el E O)) ps b o) $
          use1 𝓛 (‵ (lie_at_each (VR E) places values) ⊛ ‵ (keys_lie E ps b o) ⊛ raw (EachBack E 𝓛 ps b o)) (apart E 𝓛 ps b o) $ split3 ! $
          rewrite ! 0 (λ (xs : List (VD E)). ‵ (lie_at_each (VR E) places xs)) named_values refl $
          -- [the values; the keys; the pairs' ways back; the room; the words; the map's way back; the open borrow; what the map is now, twice]
          move ! (3 ∷ 5 ∷ []) $ join ! $ move ! (3 ∷ 0 ∷ []) $ join ! $ nothing ! $ move ! (4 ∷ 0 ∷ []) $ fjoin ! $ move ! (3 ∷ 0 ∷ []) $ fjoin ! $ move ! (3 ∷ 4 ∷ 5 ∷ 2 ∷ 0 ∷ 1 ∷ []) $ group ! 6 $
          use1 𝓛 (later (some (λ (tie : GName). ‵ (fobs tie map_code) ⊛ ‵ (fbor κ (Borrowed whole 0 0 tie)) ⊛ ‵ (flft κ q) ⊛ ‵ (follows (MapR E O) (MapR E O) γ tie (λ m. refilled d (values_in E O m)))
          ⊛ ‵ (fbor κ (keys_lie E ps b o)) ⊛ ‵ (fbor κ (part_at (WordsR E O) full_share words rb vec)) ⊛ ‵ ftrue)))
          (takes_beside 𝓛 (mem (MapR E O)) whole (λ m. refilled d (values_in E O m)) κ q rb ro 0 0 γ (keys_lie E ps b o ∷ part_at (WordsR E O) full_share words rb vec ∷ []) left
          (map_again E O 𝓛 rb ro κ q γ d h seen good b o at_b fit) map_code map_code d) $ await ! tt $ pick ! (λ tie.
          split3 ! $ move ! (2 ∷ []) $ split3 ! $ move ! (3 ∷ 4 ∷ 0 ∷ []) $
          -- [what the map is now; the values' borrow; the token; what follows; the other loans]
          open_ref ! tt whole {x = d} {b = 0} {o = 0} $ rewrite ! 0 (λ (xs : List (VD E)). ‵ (lie_at_each (VR E) places xs)) (sym named_values) refl $
          nothing ! $ move ! (2 ∷ 3 ∷ 4 ∷ 1 ∷ 0 ∷ []) $ group ! 5 $
          use1 𝓛 (later (some (λ (name : GName). ‵ (fobs name (each.coded.code values)) ⊛ ‵ (fbor κ (Borrowed each 0 0 name)) ⊛ ‵ (flft κ q) ⊛ ‵ (after whole each tie name (refilled d)))))
          (takes_part 𝓛 whole each (refilled d) κ q 0 0 0 0 tie (emp 𝓤) (values_again E O 𝓛 rb ro κ q γ d h seen good b o at_b fit) map_code map_code values) $ await ! tt $ pick ! (λ name.
          let lent : Lent (VD E) = record { mark = record {}; name = name; tie = tie; before = []; cells = map cell_of slots; after = [] } in
          split3 ! $ fjoin ! $ rewrite ! 0 (λ (cs : List (Ptr × VD E)). ‵ (lends_cells κ (VR E) name cs)) (sym (append-nil (map cell_of slots))) refl $
          use0 𝓛 (‵ ((Struct (shape (Lent-type.the_type (named_lft 3 0 tt κs) (VR E)))).own_val (tt, tt) (no_bytes ∷ []))) (no_bytes_made (named_lft 3 0 tt κs) (VR E) 𝓛) $ fjoin ! $
          move ! (1 ∷ []) $ split ! $ move ! (4 ∷ []) $ split3 ! $
          -- [the keys' loan; the words' loan; nothing; the token; the tie; the values' loan; what follows; the other tokens]
          move ! (0 ∷ 3 ∷ []) $ use2 𝓛 (later (‵ (keys_seen E ps b o κ) ⊛ ‵ (flft κ q))) (lends_keys E 𝓛 κ key_lives ps b o κ ((κ, q) ∷ []) (Incl-refl κ) (Incl-refl κ)) $ await ! tt $ split ! $
          use1 𝓛 (‵ (each_shared slots (shared_of (SlotR E)) (pair_size E) b o κ)) (sees_slots E 𝓛 κ ps b o) $
          rewrite ! 0 (λ (s : ℕ). ‵ (each_shared slots (shared_of (SlotR E)) s b o κ)) (sym (slot_size E)) refl $
          feq_i ! ℕ (length slots) h.len long $ fjoin ! $ nothing ! $ fjoin ! $
          rewrite ! 0 (λ (p : Ptr). ‵ (lent_at (Array (SlotR E) h.len) p slots κ)) (sym at_b) refl $
          flt_i ! (h.cap * type_size (SlotR E)) (2 ^ 63) (subst (λ (s : ℕ). h.cap * s < 2 ^ 63) (sym (slot_size E)) fit) $ fjoin ! $
          -- [what a `&` to the vector has of the slots; the token; the words' loan; ..]
          move ! (2 ∷ 1 ∷ []) $ use2 𝓛 (later (‵ ((WordsR E O).shr_at words rb vec κ) ⊛ ‵ (flft κ q)))
          (parts_share 𝓛 (RawPtr-field ∷ usize-field ∷ usize-field ∷ row_field G-type.the_row ∷ []) [] [] [] (copy_shared RawPtr-field RawPtr-copy, (copy_shared usize-field usize-copy, (copy_shared usize-field usize-copy, (row_shared G-type.the_row G-laws.the_row_laws, tt))))
          words κ ((κ, q) ∷ []) rb vec (⊑_static κ) (Incl-refl κ)) $ await ! tt $ split ! $ move ! (0 ∷ 2 ∷ []) $ fjoin ! $ hide ! $
          feq_i ! (List Val) (vptr rb vec ∷ []) (vptr rb vec ∷ []) refl $ fjoin ! $ move ! (0 ∷ 4 ∷ []) $ two_made ! (ShrRef (named 0) κ (SlotsR E O)) LoanR top lent (vptr rb vec) no_bytes $
          sets ! (addr ! (through ! refl (fld ! refl (stop !)))) refl (tt, tt) $ first ! $ blocks ! $ sets_last ! (addr ! (through ! refl (stop !))) refl (tt, tt) $
          exec ! C Λ Locals (after_code 2 (routine E O).body) (at_ret Locals Finish) $ sets ! (of_opd ! (get ! refl)) refl (tt, tt) $ sets ! (agg ! (no_more !)) refl (tt, tt) $
          sets ! (agg ! (and_then ! (get ! refl) (no_more !))) refl (tt, (tt, tt)) $ sets ! (agg ! (and_then ! (get ! refl) (and_then ! (get ! refl) (no_more !)))) refl (tt, (tt, ((tt, tt), tt))) $
          returns ! (look_at ! 0 refl) $ free_all ! refl $ keep ! (0 ∷ 1 ∷ 4 ∷ 6 ∷ []) $
          -- [the pair; the token; what follows; the other tokens]
          suffices ! _ (ends_at 𝓛 (end E O) (passing E O) spec entry (vstruct (vcons (vptr rb vec) (vcons no_bytes vnil))) (top, lent) (tt, tt) (tt, tt)) $
          move ! (1 ∷ 3 ∷ []) $ join ! $ nothing ! $ nothing ! $ fjoin ! $ move ! (1 ∷ 0 ∷ 2 ∷ []) $ group ! 3 $
          use0 𝓛 (raw (fact 𝓤 (Ascends d.pairs))) (fact_i 𝓤 (Ascends d.pairs) (emp 𝓤) (subst Ascends same good)) $
          use0 𝓛 (raw (fact 𝓤 (map cell_of slots ≡ map cell_of slots))) (fact_i 𝓤 (map cell_of slots ≡ map cell_of slots) (emp 𝓤) refl) $ join ! $
          use0 𝓛 (raw (fact 𝓤 (map pair_of slots ≡ d.pairs))) (fact_i 𝓤 (map pair_of slots ≡ d.pairs) (emp 𝓤) (pairs_of_slots E ps b o ∙ same)) $ join ! $
          move ! (1 ∷ 2 ∷ 0 ∷ []) $ done !))))))

pub lend_spec : {M : Type 1} → stated.statement M
lend_spec 𝓤 𝓛 𝓜 𝓡 wired K V LK LV o₀ d₀ o₁ d₁ o₂ d₂ o₃ d₃ m₀ m₁ m₂ m₃ =
    let E : Two = record { key = K; key_laws = LK; val = V; val_laws = LV } in
    let O : OrderOf K.Denot = record { ord = o₀; ord_table = d₀; total = o₁; total_table = d₁; eq = o₂; eq_table = d₂; partial = o₃; partial_table = d₃ } in
    let c = spec E O 𝓛 𝓜.mem 𝓡.returns in let 𝓣 = tables 𝓤 𝓛.H 𝓜 𝓡 𝓡.env in
    proved 𝓛 (end E O) (passing E O) c 𝓜 𝓡 (Goes-spent_ref 𝓛 3 (0 ∷ []) tt (plain (λ _. MapR E O)), tt)
    (#self (map_args E O)) (routine E O) (code.unfolded 𝓤 𝓛.H 𝓜 𝓡 wired (K, (V, tt)) d₀ d₁ d₂ d₃)
    (λ κs. (mut_vals, tt)) (λ κs. (mut_Tells (named 0) κs.0 (MapR E O), tt))
    (λ κs qs bounds a g are.
    qed 𝓛 (raw (on_entry 𝓛 (end E O).signature κs qs a (mut_vals a.0, tt)) ∷ (raw (fact 𝓤 (κs.1.0 ⊑ K.lives)) ⊛ raw (fact 𝓤 (κs.1.1.0 ⊑ V.lives)) ⊛ raw (emp 𝓤)) ∷ []) ∵
    move ! (1 ∷ []) $ split3 ! $ heard ! _ (λ lives. drop ! $ drop ! $
    by ! (walk E O 𝓛 𝓜.mem 𝓡.returns κs qs bounds a.0.ref_ptr.0 a.0.ref_ptr.1 a.0.ghost_name a.0.now 𝓣.C 𝓣.Λ lives)))
