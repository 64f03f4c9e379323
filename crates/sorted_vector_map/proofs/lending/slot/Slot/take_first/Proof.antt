-- `take_first` takes a value out of those that are lent, at the front. Assumes `Logic`.
use mathlib.Core.Path.{◌≡◌, refl, ap, ◌∙◌}
use Prim.Native.Nat.{ℕ, ◌+◌}
use mathlib.Core.List.{List, [], ◌∷◌, ◌++◌}
use seplogic.Ra.Ura.{Ura}
use mir.Syntax.{Fn, named}
use mir.MapTy.{inst_fn}
use mir.Val.{Val, vptr, vstruct, vcons, vnil}
use base.Logic.{SProp, ent, emp}
use base.Fml.{Lft, GName, ftrue, flft}
use prog.Memory.{Memory}
use prog.Routine.{Routine}
use prog.Wp.{Env, Calls, Loops, WpFn}
use types.Logic.{Logic}
use contract.BorrowLft.{◌⊑◌}
use contract.Lifetimes.{Lfts, Shares, AllOutlive}
use contract.Fact.{fact_i}
use contract.Monad.{Fun, fact}
use contract.Running.{tables}
use types.Kit.{Item, ‵, raw, ◌⊛◌, some, later, at_ret, ◌$◌, ◌∵◌, !, qed, by, move, keep, drop, use0, use2, group, split3, join, pick, await, rewrite, fsplit, fsplit3, fjoin, fjoin3, feq_i, feq_l, suffices, done}
use types.Part.{agg}
use types.Run.{stop, fld, of_opd, addr, and_then, no_more, first, blocks, exec, returns, enter}
use types.ByLocal.{alloc_all, pass_all, free_all, look_at, get, through, sets, sets_last, env}
use denote.Exit.{yes}
use denote.RattleType.{RattleType, owns}
use denote.RawPtr.{Ptr, block_ptr}
use denote.Ref.{Bor, MutBor, MutRef, ShrRef, mut_vals, mut_Tells, shr_vals, shr_Tells}
use denote.Builtin.{RefOf}
use denote.Signature.{plain, named_lft}
use denote.Steps.{nothing, opens, closes, heard}
use denote.Opens.{hide, unhide}
use denote.Triple.Clauses.{Clauses, Ended}
use denote.Triple.Entry.{on_entry}
use denote.Triple.Walked.{Stays, stay_dropped, stay_ref, walk_of, ends_at, Goes-dropped, Goes-ref}
use Rattle.std.proofs.VecSteps.Shapes.{after}
use Rattle.std.proofs.raw_atomic.Walks.{proved}
use Rattle.std_collections.proofs.TreeMemory.Lodging.{two_made}
use Rattle.sorted_vector_map.specs.declared.lending.lent.Lent.{Lent}
use Rattle.sorted_vector_map.specs.contracts.lending.lent.Lent as Lent-type
use Rattle.sorted_vector_map.specs.Loans.{lends_cells}
use Rattle.sorted_vector_map.specs.Slots.{LentPair, cell_of}
use Rattle.sorted_vector_map.specs.contracts.lending.slot.Slot.take_first.{ended, clauses}
use Rattle.sorted_vector_map.specs.contracts.lending.slot.Slot.take_first.Key.{name as #self}
use Rattle.sorted_vector_map.proofs.LendForm.{Two, KR, VR, KD, VD, SlotR, to_key, to_value, two_args}
use Rattle.sorted_vector_map.proofs.LendCells.{TakenOut, take_out_cell}
use Rattle.sorted_vector_map.proofs.lending.slot.Slot.take_first.Statement as stated
use Rattle.sorted_vector_map.proofs.lending.slot.Slot.take_first.Code as code

module _ (E : Two) where
  abbrev routine : Fn
  routine = inst_fn (two_args E) code.function

  abbrev end : Ended
  end = ended E.key E.val

  abbrev Loan : Lfts 4 → RattleType
  Loan κs = Lent-type.the_row (named_lft 4 0 tt κs) (VR E)

  abbrev passing : Stays end.signature.params end.kept
  passing = (stay_dropped (RefOf (0 ∷ []) tt (plain (λ _. SlotR E)) (λ _. tt)) yes, (stay_ref (1 ∷ []) tt (plain Loan), tt))

module _ (E : Two) {M : Type 1} {𝓤 : Ura M} (𝓛 : Logic 𝓤) (at : Memory → SProp 𝓤) (run : Routine → Fun 𝓤) where
  open 𝓛 use {H, A}

  abbrev spec : Clauses 𝓤 (end E)
  spec = clauses E.key E.val 𝓛 at run

  module _ (κs : Lfts 4) (qs : Shares 4) (within : AllOutlive 4 (end E).signature.outlives κs) (b o rb ro : ℕ) (γ : GName) (s : LentPair (KD E) (VD E)) (d : Lent (VD E)) where
    abbrev κ : Lft
    κ = κs.0

    abbrev It : RattleType
    It = Loan E κs

    abbrev entry : (walk_of 𝓛 (end E) (passing E) spec).Ghost
    entry = ((κs, qs, within, (record { ref_ptr = (b, o); now = s }, (record { ref_ptr = (rb, ro); ghost_name = γ; now = d }, tt)), (vptr b o ∷ [], (vptr rb ro ∷ [], tt))), tt)

    abbrev Finish : Val → SProp 𝓤
    Finish = (walk_of 𝓛 (end E) (passing E) spec).post entry

    abbrev Asked : Type 0
    Asked = (later_cells : List (Ptr × VD E)) × (d.cells ≡ cell_of s ∷ later_cells)

    abbrev key : Bor (KD E)
    key = record { ref_ptr = (b, o + to_key E); now = s.key }

    abbrev value : GName → MutBor (VD E)
    value name = record { ref_ptr = (b, o + to_value E); ghost_name = name; now = s.value }

    abbrev pair : Val
    pair = vstruct (vcons (vptr b (o + to_key E)) (vcons (vptr b (o + to_value E)) vnil))

    abbrev other_tokens : Item 𝓤
    other_tokens = ‵ (flft κs.1.1.0 qs.1.1.0) ⊛ ‵ (flft κs.1.1.1.0 qs.1.1.1.0) ⊛ ‵ ftrue

    module _ (C : Calls 𝓤 H) (Λ : Loops 𝓤 H) (asked : Asked) where
      walk : ent 𝓤 (on_entry 𝓛 (end E).signature κs qs entry.0.3 entry.0.4) (WpFn 𝓤 H C Λ (routine E) (vptr b o ∷ vptr rb ro ∷ []) Finish)
      walk =
          qed 𝓛 ((‵ (flft κ qs.0) ⊛ ‵ (flft κs.1.0 qs.1.0) ⊛ other_tokens) ∷ ‵ (owns (ShrRef (named 0) κ (SlotR E) ∷ MutRef (named 1) κs.1.0 It ∷ []) entry.0.3 entry.0.4) ∷ []) ∵ enter ! C Λ (routine E) (vptr b o ∷ vptr rb ro ∷ []) _ $
          alloc_all ! (λ l. pass_all ! refl ((tt, tt), ((tt, tt), tt)) $
          let Locals : Env 𝓤 H = env (routine E).locals l in
          move ! (1 ∷ []) $ fsplit3 ! $ fsplit ! $ drop ! $ unhide ! $ fsplit ! $ fsplit ! $ drop ! $
          -- [the key; where the value lies; the loan's reference; nothing; the tokens]
          hide ! $ feq_i ! (List Val) (vptr b (o + to_key E) ∷ []) (vptr b (o + to_key E) ∷ []) refl $ fjoin ! $ move ! (1 ∷ []) $ feq_l ! (λ here.
          let cell : Ptr × VD E = (block_ptr b (o + to_value E), s.value) in
          let is : cell_of s ≡ cell = λ i. (here i, s.value) in
          let earlier : List (Ptr × VD E) = d.before in let later_cells : List (Ptr × VD E) = asked.0 ++ d.after in
          let was : d.before ++ (d.cells ++ d.after) ≡ earlier ++ cell ∷ later_cells = ap (λ cs. d.before ++ (cs ++ d.after)) (asked.1 ∙ ap (λ (c : Ptr × VD E). c ∷ asked.0) is) in
          let stays : earlier ++ later_cells ≡ d.before ++ (asked.0 ++ d.after) = refl in
          move ! (1 ∷ []) $ fsplit3 ! $ drop ! $ move ! (4 ∷ []) $ split3 ! $
          -- [the pair's token; the loan's token; the others; what the loan is now; its borrow; the key; nothing]
          move ! (3 ∷ 4 ∷ 1 ∷ []) $ opens ! tt It {h = d} rb ro (λ vs. move ! (1 ∷ []) $ fsplit ! $ move ! (1 ∷ 6 ∷ []) $
          rewrite ! 0 (λ (cs : List (Ptr × VD E)). ‵ (lends_cells κ (VR E) d.name cs)) was refl $
          use2 𝓛 (later (some (TakenOut 𝓛 (VR E) b (o + to_value E) s.value earlier later_cells (named 0) κ qs.0 d.name)))
          (take_out_cell 𝓛 (VR E) b (o + to_value E) s.value earlier later_cells (named 0) κ qs.0 d.name) $ await ! tt $ pick ! (λ names.
          let new : Lent (VD E) = record { mark = d.mark; name = names.1; tie = d.tie; before = d.before; cells = asked.0; after = d.after } in
          split3 ! $ move ! (3 ∷ 1 ∷ []) $ rewrite ! 1 (λ (cs : List (Ptr × VD E)). ‵ (lends_cells κ (VR E) names.1 cs)) stays refl $ fjoin ! $
          move ! (3 ∷ 0 ∷ 4 ∷ 5 ∷ 6 ∷ []) $ closes ! tt It new vs rb ro $
          -- [what the loan is now; its borrow; its token; the value; the pair's token; the others; the key; nothing]
          move ! (6 ∷ 3 ∷ []) $ two_made ! (ShrRef (named 0) κ (KR E)) (MutRef (named 0) κ (VR E)) key (value names.0) (vptr b (o + to_key E)) (vptr b (o + to_value E)) $
          sets ! (addr ! (through ! refl (stop !))) refl (tt, tt) $ sets ! (of_opd ! (get ! refl)) refl (tt, tt) $ first ! $ blocks ! $
          sets ! (addr ! (through ! refl (fld ! refl (stop !)))) refl (tt, tt) $ sets ! (addr ! (through ! refl (fld ! refl (stop !)))) refl (tt, tt) $ sets_last ! (agg ! (and_then ! (get ! refl) (and_then ! (get ! refl) (no_more !)))) refl (tt, (tt, (tt, tt))) $
          exec ! C Λ Locals (after 3 (routine E).body) (at_ret Locals Finish) $ sets ! (of_opd ! (get ! refl)) refl (tt, (tt, (tt, tt))) $
          returns ! (look_at ! 0 refl) $ free_all ! refl $ keep ! (3 ∷ 5 ∷ 4 ∷ 1 ∷ 2 ∷ 0 ∷ []) $
          suffices ! _ (ends_at 𝓛 (end E) (passing E) spec entry pair (key, value names.0) (tt, (new, tt)) (tt, (tt, tt))) $
          -- [the loan's token; the others; the pair's token; what the loan is now; its borrow; the pair]
          join ! $ move ! (1 ∷ 0 ∷ []) $ join ! $ move ! (1 ∷ 2 ∷ []) $
          feq_i ! (List Val) (vptr rb ro ∷ []) (vptr rb ro ∷ []) refl $ fjoin3 ! $ nothing ! $ move ! (1 ∷ 0 ∷ []) $ fjoin ! $ nothing ! $ fjoin ! $
          move ! (1 ∷ 0 ∷ []) $ group ! 3 $
          use0 𝓛 (raw (fact 𝓤 (d.tie ≡ d.tie))) (fact_i 𝓤 (d.tie ≡ d.tie) (emp 𝓤) refl) $
          use0 𝓛 (raw (fact 𝓤 (d.cells ≡ cell_of s ∷ asked.0))) (fact_i 𝓤 (d.cells ≡ cell_of s ∷ asked.0) (emp 𝓤) asked.1) $ join ! $
          use0 𝓛 (raw (fact 𝓤 ((s.key ≡ s.key) × (s.value ≡ s.value)))) (fact_i 𝓤 ((s.key ≡ s.key) × (s.value ≡ s.value)) (emp 𝓤) (refl, refl)) $ join ! $
          move ! (1 ∷ 0 ∷ []) $ done !))))

pub take_first_spec : {M : Type 1} → stated.statement M
take_first_spec 𝓤 𝓛 𝓜 𝓡 wired K V LK LV =
    let E : Two = record { key = K; key_laws = LK; val = V; val_laws = LV } in
    let c = spec E 𝓛 𝓜.mem 𝓡.returns in let 𝓣 = tables 𝓤 𝓛.H 𝓜 𝓡 𝓡.env in
    proved 𝓛 (end E) (passing E) c 𝓜 𝓡 (Goes-dropped 𝓛 4 (RefOf (0 ∷ []) tt (plain (λ _. SlotR E)) (λ _. tt)) yes (λ κs x f. refl), (Goes-ref 𝓛 4 1 tt (plain (Loan E)), tt))
    (#self (two_args E)) (routine E) (code.unfolded 𝓤 𝓛.H 𝓜 𝓡 wired (K, (V, tt)))
    (λ κs. (shr_vals, (mut_vals, tt))) (λ κs. (shr_Tells (named 0) κs.0 (SlotR E), (mut_Tells (named 1) κs.1.0 (Loan E κs), tt)))
    (λ κs qs bounds a g are. let s = a.0 in let l = a.1.0 in
    qed 𝓛 (raw (on_entry 𝓛 (end E).signature κs qs a (shr_vals s, (mut_vals l, tt))) ∷
    (raw (fact 𝓤 (κs.1.1.0 ⊑ K.lives)) ⊛ raw (fact 𝓤 (κs.1.1.1.0 ⊑ V.lives)) ⊛ raw (fact 𝓤 (Asked E 𝓛 𝓜.mem 𝓡.returns κs qs bounds s.ref_ptr.0 s.ref_ptr.1 l.ref_ptr.0 l.ref_ptr.1 l.ghost_name s.now l.now))) ∷ []) ∵
    move ! (1 ∷ []) $ split3 ! $ drop ! $ drop ! $ heard ! _ (λ asked.
    by ! (walk E 𝓛 𝓜.mem 𝓡.returns κs qs bounds s.ref_ptr.0 s.ref_ptr.1 l.ref_ptr.0 l.ref_ptr.1 l.ghost_name s.now l.now 𝓣.C 𝓣.Λ asked)))
